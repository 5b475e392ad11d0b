use Rattle.std.proofs.Common.{arith, ◌∙◌, sym, subst, IsTrue}
use Rattle.ans_screen.specs.HalfCells.{is_known}
use Rattle.ans_screen.specs.declared.cell.HalfCell.{HalfCell}
use Rattle.ans_screen.proofs.RowEdits.{blanks_shown}
use Rattle.ans_screen.proofs.RowWrites.{both_known}
use Rattle.ans_screen.proofs.row_planes.rows.write_blank.Goals as goal

pub fill_planes-requires-clause-known : goal.fill_planes-requires-clause-known
fill_planes-requires-clause-known o c = λ known.
    let x = c.of_cell-blank.result in
    both_known x.glyph x.glyph_known x.bits_known x.value
    (subst (λ (y : HalfCell). IsTrue (is_known y)) (sym (c.of_cell-blank.ensures ∙ c.frame.ensures.blank))
    (c.requires.known known))

pub returns-then-from-to-clause-blanks : goal.returns-then-from-to-clause-blanks
returns-then-from-to-clause-blanks o c =
    let h = c.fill_planes.ensures in
    let x = c.of_cell-blank.result in
    blanks_shown x.glyph_known x.bits_known x.value h.same (omega arith) c.requires.within h.values h.marks x.glyph
    h.glyphs (c.of_cell-blank.ensures ∙ c.frame.ensures.blank)
