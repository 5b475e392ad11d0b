use Rattle.std.proofs.Common.{rules, ◌≡◌, ◌<◌, ◌/◌, All, replicate, arith, refl}
use Rattle.std.proofs.lemmas.List.Elements.{All-replicate}
use Rattle.ans_screen.specs.RowCells.{never_written}
use Rattle.ans_screen.specs.declared.row_planes.RowState.{RowState}
use Rattle.ans_screen.proofs.Places.{one_from_index}
use Rattle.ans_screen.proofs.RowEdits.{all_stale}
use Rattle.ans_screen.proofs.plane_grid.PlaneGrid.in_round.Goals as goal

pub returns-clause-cells : goal.returns-clause-cells
returns-clause-cells c =
    let held = c.in_ok-held.held.items in
    let filled : held ≡ replicate c.args.frame.rows never_written = search rules in
    let older : All (λ (row : RowState). row.round < c.args.round) held =
    rw filled
    (All-replicate (λ (row : RowState). row.round < c.args.round) c.args.frame.rows never_written (omega arith)) in
    one_from_index _ _ _ (λ i lt.
    rw (all_stale c.args.round held (i / c.args.frame.width) i c.requires.some_round older) refl)
