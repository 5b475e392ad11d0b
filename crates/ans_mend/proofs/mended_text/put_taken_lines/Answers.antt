use Rattle.std.proofs.Common.{None}
use Rattle.ans_write.proofs.PutsLemmas.{Puts-next}
use Rattle.ans_mend.specs.MendedText.{taken_line}
use Rattle.ans_mend.proofs.mended_text.put_taken_lines.Goals as goal

pub loop-taken-preserved : goal.loop-taken-preserved
loop-taken-preserved g c =
    Puts-next taken_line c.args.kinds.now c.loop-taken.taken-index None c.loop-taken-test.true c.loop-taken.invariant
    c.put_taken_line.ensures
