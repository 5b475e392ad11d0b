use Rattle.std.proofs.Common.{refl, ap, ◌∙◌, set, map}
use Rattle.std.proofs.lemmas.List.{map-set}
use Rattle.ans_screen.specs.LentRows.{row_of}
use Rattle.ans_screen.specs.declared.row_planes.RowState.{RowState}
use Rattle.ans_screen.proofs.lent_grid.LentGridRowPlanes.hold.Goals as goal

pub returns : goal.returns
returns c = record {
  held = map-set row_of c.args.self.now.held.now c.args.row c.of.result
      ∙ ap (λ (r : RowState). set (map row_of c.args.self.now.held.now) c.args.row r) c.of.ensures.row;
  round = refl;
  blank = refl;
  width = refl;
  rows = refl;
  shown = record { glyphs = refl; values = refl };
  known = record { glyphs_known = refl; bits_known = refl };
}
