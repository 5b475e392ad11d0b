use Rattle.std.proofs.Common.{[]}
use Rattle.std.proofs.lemmas.List.{drop_more}
use Rattle.ans_save.proofs.saves.Saves.new.Goals as goal

pub loop-input-preserved : goal.loop-input-preserved
loop-input-preserved g c = λ after h.
    let more = drop_more c.args.inputs.now c.loop-input.input-index (record { ref_ptr = (0, 0); now = [] })
    c.loop-input-test.true in
    c.loop-input.invariant after (rw more (c.add_input.new.known.items, c.in_ok-add_input.ensures, h))
