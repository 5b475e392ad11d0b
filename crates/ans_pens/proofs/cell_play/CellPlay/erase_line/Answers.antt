use Rattle.std.proofs.Common.{◌≡◌, ◌≤◌, arith, sym, ap, ◌∙◌}
use Rattle.ans_pens.specs.declared.cell_play.CellPlay.{CellPlay}
use Rattle.ans_pens.proofs.KeptCells.{erased_elsewhere}
use Rattle.ans_pens.proofs.cell_play.CellPlay.erase_line.Goals.{else-at-self-via-then-at-self+else-self-at}
use Rattle.ans_pens.proofs.cell_play.CellPlay.erase_line.Goals.{else-at-self-via-else-at-self}
use Rattle.ans_pens.proofs.cell_play.CellPlay.erase_line.Goals as goal

pub returns-else-at-self-clause-play : goal.returns-else-at-self-clause-play
returns-else-at-self-clause-play c s e fits =
    let row = ap (λ (w : CellPlay). w.pen.cursor.row) e in
    let column = ap (λ (w : CellPlay). w.pen.cursor.column) e in
    let outside : ¬ ((c.args.at.row ≡ s.cursor.row) × (s.cursor.column ≤ c.args.at.column)) =
    λ inside. elim c.else-at-self.branch [
      | else-at-self-via-then-at-self+else-self-at w ↦ omega (arith, row, column, inside.1)
      | else-at-self-via-else-at-self w ↦ omega (arith, row, inside.0)
    ] in
    e ∙ sym (erased_elsewhere c.args.size c.args.at s fits c.requires.at outside)
