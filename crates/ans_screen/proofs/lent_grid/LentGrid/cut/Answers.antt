use Rattle.std.proofs.Common.{rules, ◌≡◌, ◌<◌, ◌/◌, All, replicate, map, arith, refl}
use Rattle.std.proofs.lemmas.List.Elements.{All-map, All-replicate}
use Rattle.ans_screen.specs.LentRows.{row_of, never_lent}
use Rattle.ans_screen.specs.declared.lent_row.LentRow.{LentRow}
use Rattle.ans_screen.specs.declared.row_planes.RowState.{RowState}
use Rattle.ans_screen.proofs.Places.{one_from_index}
use Rattle.ans_screen.proofs.RowEdits.{all_stale}
use Rattle.ans_screen.proofs.lent_grid.LentGrid.cut.Goals as goal

pub returns-clause-cells : goal.returns-clause-cells
returns-clause-cells c =
    let held = c.fill.new.self in
    let filled : held ≡ replicate c.args.frame.rows never_lent = search rules in
    let older : All (λ (row : LentRow). row.round < 1) held =
    rw filled (All-replicate (λ (row : LentRow). row.round < 1) c.args.frame.rows never_lent (omega arith)) in
    one_from_index _ _ _ (λ i lt.
    rw (all_stale 1 (map row_of held) (i / c.args.frame.width) i (omega arith)
    (All-map (λ (row : RowState). row.round < 1) row_of held older)) refl)
