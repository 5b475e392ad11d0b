use Rattle.ans_write.proofs.PutsLemmas.{Puts-then}
use Rattle.ans_why.proofs.hints_text.put_told_hints.Goals as goal

pub returns : goal.returns
returns g c =
    Puts-then c.put_row_hints.ensures (Puts-then c.put_foreign_hints.ensures (Puts-then c.put_colour_hints.ensures
    (Puts-then c.put_font_line.ensures c.put_empty_rows_line.ensures)))
