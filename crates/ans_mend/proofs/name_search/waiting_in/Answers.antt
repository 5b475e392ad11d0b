use Rattle.ans_mend.proofs.SearchResults.{behind_within, none_waited, none_waits, not_read, on_err, waits_there}
use Rattle.ans_mend.proofs.name_search.waiting_in.Goals as goal

pub returns-in_err-over-clause-unread : goal.returns-in_err-over-clause-unread
returns-in_err-over-clause-unread c =
    on_err c.from_residual.result _ (not_read c.args.bytes.now _ c.walk.new.walker _ c.in_err-over.ensures)

pub returns-in_default-clause-waiting : goal.returns-in_default-clause-waiting
returns-in_default-clause-waiting c =
    none_waits c.args.bytes.now _ c.walk.new.walker c.in_ok-over.over c.in_ok-over.ensures c.in_default.is

pub returns-then-over-clause-waiting : goal.returns-then-over-clause-waiting
returns-then-over-clause-waiting c =
    none_waited c.args.bytes.now _ c.walk.new.walker c.in_ok-over.over c.in_ok-over.ensures c.if-over.true

pub overflow_sub-result : goal.overflow_sub-result
overflow_sub-result c =
    behind_within c.args.bytes.now _ c.walk.new.walker c.in_ok-over.over c.in_ok-over.ensures c.if-over.false

pub returns-clause-waiting : goal.returns-clause-waiting
returns-clause-waiting c =
    waits_there c.args.bytes.now _ c.walk.new.walker c.in_ok-over.over c.in_ok-over.ensures c.if-over.false
    c.in-Some.taking c.in-Some.is
