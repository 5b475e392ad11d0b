use Rattle.std.proofs.Common.{ap}
use Rattle.ans_pens.specs.declared.cell_play.CellPlay.{CellPlay}
use Rattle.ans_pens.proofs.TallerFound.{taller_by_walk}
use Rattle.ans_pens.proofs.taller.is_taller.Goals as goal

pub returns : goal.returns
returns c =
    rw c.unwrap_or.ensures (taller_by_walk c.args.start c.args.content.now _ _ c.requires.good
    (ap (λ (w : CellPlay). w.pen) c.low.ensures.play) (ap (λ (w : CellPlay). w.pen) c.high.ensures.play)
    c.walk.result c.walk.ensures)
