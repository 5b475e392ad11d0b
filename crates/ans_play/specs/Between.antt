-- Positions between two others.
use Rattle.std.specs.Prelude.{◌≤◌, min, max}
use Rattle.ans_model.specs.declared.cell.Position.{Position}

-- the row lies between the rows of two positions, and the column between their columns
pub record IsBetween (a b p : Position) : Type 0 where
  pub row_from : min a.row b.row ≤ p.row
  pub row_to : p.row ≤ max a.row b.row
  pub column_from : min a.column b.column ≤ p.column
  pub column_to : p.column ≤ max a.column b.column
