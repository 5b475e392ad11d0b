use Rattle.std.proofs.Common.{ap}
use Rattle.ans_model.specs.Verdict.Good.{Picture}
use Rattle.ans_model.specs.declared.cell.Cell.{Cell}
use Rattle.ans_play.proofs.PictureCells.{copied_row}
use Rattle.ans_play.proofs.picture.Picture.copy_glyphs.Goals as goal

pub returns : goal.returns
returns g c =
    copied_row (λ (cell : Cell). cell.byte) _ c.self.view_is c.requires.row
    (ap (λ (p : Picture). p.size.width) c.self.view_is) (rw c.self.inside.grid_width at c.copy_glyphs.ensures)
