use Rattle.ans_play.proofs.PictureCells.{is_picture}
use Rattle.ans_play.proofs.picture.Picture.lines.Goals as goal

pub returns-clause-whole : goal.returns-clause-whole
returns-clause-whole g c =
    is_picture c.self.inside.size (g.G.Screen.cells_of c.self.inside.grid) c.args.self.now c.self.view_is
    c.self.invariant
