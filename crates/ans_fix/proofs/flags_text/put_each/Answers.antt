use Rattle.ans_model.specs.MendFlags.{row_of_flag}
use Rattle.ans_write.proofs.PutsLemmas.{Puts-next}
use Rattle.ans_fix.specs.FlagsText.{flag_text}
use Rattle.ans_fix.proofs.flags_text.put_each.Goals as goal

pub loop-flag-preserved : goal.loop-flag-preserved
loop-flag-preserved g c =
    Puts-next (λ flag. flag_text c.args.mends.now (row_of_flag flag)) c.args.flags.now c.loop-flag.flag-index _
    c.loop-flag-test.true c.loop-flag.invariant c.put_flag.ensures
