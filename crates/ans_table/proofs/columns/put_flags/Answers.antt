use Rattle.ans_write.proofs.PutsLemmas.{Puts-then}
use Rattle.ans_table.proofs.columns.put_flags.Goals as goal

pub returns : goal.returns
returns g c =
    Puts-then (rw (c.answer_text.ensures, c.is_non_blink.ensures) at c.put_column.ensures)
    (Puts-then (rw (c.pair_text.ensures, c.letter_spacing.ensures) at c.put_column-2.ensures)
    (rw (c.pair_text-2.ensures, c.aspect_ratio.ensures) at c.put_column-3.ensures))
