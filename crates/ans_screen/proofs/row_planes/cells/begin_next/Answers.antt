use Rattle.std.proofs.Common.{◌≡◌, ◌<◌, ◌≤◌, ◌+◌, ◌*◌, ◌/◌, ◌∙◌, All, arith, refl}
use Rattle.std.proofs.lemmas.List.Elements.{All-weaker}
use Rattle.ans_screen.specs.RowCells.{Stale, cell_in_grid}
use Rattle.ans_screen.specs.declared.row_planes.RowState.{RowState}
use Rattle.ans_screen.proofs.Places.{one_from_index}
use Rattle.ans_screen.proofs.RowCells.{cell_in_state}
use Rattle.ans_screen.proofs.RowEdits.{all_stale}
use Rattle.ans_screen.proofs.row_planes.cells.begin_next.Goals as goal

pub returns-clause-cells : goal.returns-clause-cells
returns-clause-cells o c =
    let g = o.P.RowPlanes.planes_of c.args.grid.now in
    let n = o.P.RowPlanes.planes_of c.begin_round.new.self in
    let begun = c.begin_round.ensures in
    let next : n.round ≡ g.round + 1 = omega arith in
    let older : All (λ (row : RowState). row.round < n.round) n.held =
    rw begun.held (All-weaker (λ (row : RowState). row.round ≤ g.round) (λ (row : RowState). row.round < n.round)
    (λ row le. omega arith) g.held g.no_later_round) in
    one_from_index (cell_in_grid n) (n.width * n.rows) n.blank
    (λ i lt. cell_in_state n Stale i (all_stale n.round n.held (i / n.width) i (omega arith) older))
    ∙ rw (begun.width, begun.rows, begun.blank) refl
