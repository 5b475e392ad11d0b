-- The longest runs of cells with one attribute.
use Rattle.std.specs.Prelude.{ℕ, List, [], ◌∷◌, ◌==◌, if◌then◌else◌}
use Rattle.ans_model.specs.declared.cell.Cell.{Cell}

-- an attribute, and the bytes of the cells that have it
pub record Run : Type 0 where
  pub attribute : ℕ
  pub bytes : List ℕ

-- the run of an attribute and these bytes
abbrev pub run : ℕ → List ℕ → Run
run attribute bytes = record { attribute = attribute; bytes = bytes }

-- a cell put before runs: it joins the first one if that has its attribute
abbrev pub joined : Cell → List Run → List Run
joined c [] = run c.attribute (c.byte ∷ []) ∷ []
joined c (r ∷ more) =
    if c.attribute == r.attribute then run c.attribute (c.byte ∷ r.bytes) ∷ more
    else run c.attribute (c.byte ∷ []) ∷ r ∷ more

-- the runs of a row
abbrev pub runs : List Cell → List Run
runs [] = []
runs (c ∷ row) = joined c (runs row)
