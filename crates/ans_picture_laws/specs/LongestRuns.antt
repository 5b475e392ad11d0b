-- Runs that are as long as they can be.
use Rattle.std.specs.Prelude.{◌≢◌, ℕ, ◌<◌, List, [], ◌∷◌, length, map}
use Rattle.ans_model.specs.declared.cell.Cell.{Cell}
use Rattle.ans_model.specs.Screen.State.{cell}
use Rattle.ans_show.specs.Runs.{Run}

-- the cells of a run
abbrev pub run_cells : Run → List Cell
run_cells r = map (λ b. cell b r.attribute) r.bytes

-- the first run, if there is one, has another attribute
abbrev pub BeginsOtherwise : ℕ → List Run → Type 0
BeginsOtherwise attribute [] = Unit {0}
BeginsOtherwise attribute (r ∷ more) = attribute ≢ r.attribute

-- each run has a cell, and the next one has another attribute
abbrev pub AreLongest : List Run → Type 0
AreLongest [] = Unit {0}
AreLongest (r ∷ more) = (0 < length r.bytes) × BeginsOtherwise r.attribute more × AreLongest more
