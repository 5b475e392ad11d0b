use Rattle.std.proofs.Common.{sym, ap}
use Rattle.ans_write.proofs.PutsLemmas.{Puts-same, Puts-then}
use Rattle.ans_why.specs.WhyText.{shown_lines}
use Rattle.ans_why.proofs.why_text.put_shown.Goals as goal

pub returns-in-Cursors : goal.returns-in-Cursors
returns-in-Cursors g c =
    Puts-same (sym (ap shown_lines c.in-Cursors.is))
    (Puts-then c.put_place_line.ensures c.put_place_line-in-Cursors.ensures)

pub returns-in-Cells : goal.returns-in-Cells
returns-in-Cells g c =
    Puts-same (sym (ap shown_lines c.in-Cells.is)) (Puts-then c.put_cell_line.ensures c.put_cell_line-in-Cells.ensures)
