use Rattle.ans_write.proofs.PutsLemmas.{Puts-same, Puts-then}
use Rattle.ans_mend.proofs.MendedTexts.{excerpt_long}
use Rattle.ans_mend.proofs.mended_text.put_excerpt.Goals as goal

pub returns-then-text-gt32 : goal.returns-then-text-gt32
returns-then-text-gt32 g c =
    Puts-same (excerpt_long c.args.text.now c.if-text-gt32.true)
    (Puts-then (rw c.min.ensures at c.put_quoted_bytes.ensures) c.put.ensures)
