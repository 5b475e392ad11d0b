use Rattle.ans_play.proofs.Brushes.{brush_rests}
use Rattle.ans_play.proofs.play.Play.brush_low.Goals as goal

pub returns-then-brush-lines : goal.returns-then-brush-lines
returns-then-brush-lines g c = brush_rests c.args.self.now c.args.brush.now c.args.bytes.now c.requires.on
