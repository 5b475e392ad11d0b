use Rattle.std.proofs.Common.{ap, ◌∙◌, Ok}
use Rattle.ans_forms.proofs.KeptSteps.{fault_within, goes_at_refusal, goes_at_stop, none_at_refusal, none_at_stop}
use Rattle.ans_forms.proofs.KeptSteps.{none_to_end, token_there, token_within, unread_there}
use Rattle.ans_forms.proofs.next.next_unwanted.Goals as goal
use Rattle.ans_forms.proofs.next.next_unwanted.Goals.{in-Err+in_ok-going-in-Err, in-Ok-false+in_ok-going-in-Ok-false}

pub returns-in-Ok-true-clause-none : goal.returns-in-Ok-true-clause-none
returns-in-Ok-true-clause-none c =
    none_to_end c.args.bytes.now _ c.walk-walked.new.walker c.walk-walked.result c.walk-walked.ensures
    (c.in-Ok-true.is ∙ ap Ok c.in-Ok-true.field-0-test)

pub split_at-requires : goal.split_at-requires
split_at-requires c =
    token_within c.args.bytes.now _ c.walk-walked.new.walker c.walk-walked.result c.walk-walked.ensures
    (c.in-Ok-false.is ∙ ap Ok c.in-Ok-false.field-0-test)

pub going_token-requires : goal.going_token-requires
going_token-requires c =
    token_there c.args.bytes.now _ c.walk-walked.new.walker c.walk-walked.result c.walk-walked.ensures
    (c.in-Ok-false.is ∙ ap Ok c.in-Ok-false.field-0-test) _ c.split_at.ensures.back

pub returns-in_err-going-in-Ok-false-clause-none : goal.returns-in_err-going-in-Ok-false-clause-none
returns-in_err-going-in-Ok-false-clause-none c =
    rw c.from_residual.ensures (none_at_stop c.args.bytes.now _ c.walk-walked.new.walker c.walk-walked.result
    c.walk-walked.ensures
    (c.in-Ok-false.is ∙ ap Ok c.in-Ok-false.field-0-test) _ c.split_at.ensures.back
    c.in_err-going-in-Ok-false.ensures.none)

pub split_at-requires-in-Err : goal.split_at-requires-in-Err
split_at-requires-in-Err c =
    fault_within c.args.bytes.now _ c.walk-walked.new.walker c.walk-walked.result c.walk-walked.ensures
    c.in-Err.fault c.in-Err.is

pub going_fault-requires : goal.going_fault-requires
going_fault-requires c =
    unread_there c.args.bytes.now _ c.walk-walked.new.walker c.walk-walked.result c.walk-walked.ensures
    c.in-Err.fault c.in-Err.is _
    c.split_at-in-Err.ensures.back

pub returns-in_err-going-in-Err-clause-none : goal.returns-in_err-going-in-Err-clause-none
returns-in_err-going-in-Err-clause-none c =
    rw c.from_residual-in_err-going-in-Err.ensures (none_at_refusal c.args.bytes.now _ c.walk-walked.new.walker
    c.walk-walked.result
    c.walk-walked.ensures c.in-Err.fault c.in-Err.is _ c.split_at-in-Err.ensures.back
    c.in_err-going-in-Err.ensures.none)

pub returns-clause-some : goal.returns-clause-some
returns-clause-some c = elim c.match-walked.branch [
  | in-Ok-false+in_ok-going-in-Ok-false w ↦
      goes_at_stop c.args.bytes.now _ c.walk-walked.new.walker c.walk-walked.result c.walk-walked.ensures
      (w.in-Ok-false.is ∙ ap Ok w.in-Ok-false.field-0-test) _ w.split_at.ensures.back c.match-walked.going _
      (rw w.going-is w.in_ok-going-in-Ok-false.ensures.some) c.behind.ensures
  | in-Err+in_ok-going-in-Err w ↦
      goes_at_refusal c.args.bytes.now _ c.walk-walked.new.walker c.walk-walked.result c.walk-walked.ensures
      w.in-Err.fault w.in-Err.is _
      w.split_at-in-Err.ensures.back c.match-walked.going _ (rw w.going-is w.in_ok-going-in-Err.ensures.some)
      c.behind.ensures
]
