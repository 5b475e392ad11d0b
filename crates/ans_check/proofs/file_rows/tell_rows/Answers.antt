use Rattle.std.proofs.Common.{◌∙◌, arith, refl}
use Rattle.std.proofs.lemmas.Result.{err_from_is_err_and}
use Rattle.ans_write.specs.Puts.{device_of}
use Rattle.ans_check.proofs.RowsLemmas.{all_told, counted_within, cut_off, ends_err, ends_ok, none_told, one_more}
use Rattle.ans_check.proofs.file_rows.tell_rows.Goals as goal

pub loop-name-init : goal.loop-name-init
loop-name-init g c = (c.requires, refl, none_told _ _ _ (device_of c.args.out.now) _ refl)

pub tell_named-requires : goal.tell_named-requires
tell_named-requires g c = c.loop-name.invariant.0

pub add-requires-clause-room : goal.add-requires-clause-room
add-requires-clause-room g c =
    let w = counted_within _ _ _ _ _ _ _ c.loop-name.invariant.2 in
    omega (arith, w.files, c.loop-name-test.true)

pub add-requires-clause-pass : goal.add-requires-clause-pass
add-requires-clause-pass g c = (counted_within _ _ _ _ _ _ _ c.loop-name.invariant.2).pass

pub add-requires-clause-cleared : goal.add-requires-clause-cleared
add-requires-clause-cleared g c = (counted_within _ _ _ _ _ _ _ c.loop-name.invariant.2).cleared

pub add-requires-clause-refused : goal.add-requires-clause-refused
add-requires-clause-refused g c = (counted_within _ _ _ _ _ _ _ c.loop-name.invariant.2).refused

pub add-requires-clause-unread : goal.add-requires-clause-unread
add-requires-clause-unread g c = (counted_within _ _ _ _ _ _ _ c.loop-name.invariant.2).unread

pub returns-in_err-outcome-clause-rows : goal.returns-in_err-outcome-clause-rows
returns-in_err-outcome-clause-rows g c =
    let (e, at, same) = err_from_is_err_and c.from_residual.result c.from_residual.ensures.1 in
    rw (at, same)
    (cut_off _ _ _ c.loop-name.name-index _ (device_of c.args.out.now) c.loop-name.out c.loop-name.counts
    c.loop-name.invariant.2 c.loop-name-test.true _ c.tell_named.new.out c.in_err-outcome.field-0.0
    c.in_err-outcome.ensures)

pub loop-name-preserved : goal.loop-name-preserved
loop-name-preserved g c = (
  c.in_ok-outcome.ensures.row.ends.ready,
  c.in_ok-outcome.ensures.row.ends.same_device ∙ c.loop-name.invariant.1,
  one_more _ _ _ c.loop-name.name-index _ (device_of c.args.out.now) c.loop-name.out c.loop-name.counts
      c.loop-name.invariant.2 c.loop-name-test.true _ c.tell_named.new.out c.in_ok-outcome.outcome c.add.new.self
      c.in_ok-outcome.ensures c.add.ensures.counts,
)

pub returns-clause-rows : goal.returns-clause-rows
returns-clause-rows g c =
    all_told _ _ _ c.loop-name.name-index (device_of c.args.out.now) (device_of c.loop-name.out) c.loop-name.counts
    c.loop-name.invariant.2 (omega arith)

pub returns-in_err-outcome-clause-ends : goal.returns-in_err-outcome-clause-ends
returns-in_err-outcome-clause-ends g c =
    let (e, at, same) = err_from_is_err_and c.from_residual.result c.from_residual.ensures.1 in
    rw (at, same) (ends_err c.loop-name.invariant.1 c.in_err-outcome.ensures.row.ends)

pub returns-clause-ends : goal.returns-clause-ends
returns-clause-ends g c = ends_ok _ c.loop-name.invariant.0 c.loop-name.invariant.1
