-- The runs of a row are its cells, and are longest.
use Rattle.std.proofs.Common.{◌≡◌, ℕ, Bool, true, false, List, [], ◌∷◌, ◌++◌, map, refl, ap, sym, ◌∙◌, arith}
use Rattle.std.specs.Prelude.{◌==◌, if◌then◌else◌}
use Rattle.std.specs.List.{flat_map}
use Rattle.std.proofs.lemmas.Bool.{eqb-true, eqb-false}
use Rattle.ans_model.specs.declared.cell.Cell.{Cell}
use Rattle.ans_model.specs.Screen.State.{cell}
use Rattle.ans_show.specs.Runs.{Run, run, joined, runs}
use Rattle.ans_picture_laws.specs.LongestRuns.{run_cells, BeginsOtherwise, AreLongest}

joined_cells : (c : Cell) (rs : List Run) → flat_map run_cells (joined c rs) ≡ c ∷ flat_map run_cells rs
joined_cells c [] = refl
joined_cells c (r ∷ more) = by_test (c.attribute == r.attribute) refl
  where
    by_test : (t : Bool) → (c.attribute == r.attribute) ≡ t
        → flat_map run_cells (if t then run c.attribute (c.byte ∷ r.bytes) ∷ more
        else run c.attribute (c.byte ∷ []) ∷ r ∷ more) ≡ c ∷ flat_map run_cells (r ∷ more)
    by_test true e =
        ap (λ (a : ℕ). c ∷ (map (λ b. cell b a) r.bytes ++ flat_map run_cells more))
        (eqb-true c.attribute r.attribute e)
    by_test false e = refl

pub runs_are_the_row : (row : List Cell) → flat_map run_cells (runs row) ≡ row
runs_are_the_row [] = refl
runs_are_the_row (c ∷ row) =
    joined_cells c (runs row) ∙ ap (λ (cs : List Cell). c ∷ cs) (runs_are_the_row row)

otherwise : (a b : ℕ) (rs : List Run) → a ≡ b → BeginsOtherwise b rs → BeginsOtherwise a rs
otherwise a b [] e h = tt
otherwise a b (r ∷ more) e h = λ same. h (sym e ∙ same)

joined_longest : (c : Cell) (rs : List Run) → AreLongest rs → AreLongest (joined c rs)
joined_longest c [] h = (omega arith, tt, tt)
joined_longest c (r ∷ more) h = by_test (c.attribute == r.attribute) refl
  where
    by_test : (t : Bool) → (c.attribute == r.attribute) ≡ t
        → AreLongest (if t then run c.attribute (c.byte ∷ r.bytes) ∷ more
        else run c.attribute (c.byte ∷ []) ∷ r ∷ more)
    by_test true e =
        (omega arith, otherwise c.attribute r.attribute more (eqb-true c.attribute r.attribute e) h.1, h.2)
    by_test false e = (omega arith, eqb-false c.attribute r.attribute e, h)

pub runs_are_longest : (row : List Cell) → AreLongest (runs row)
runs_are_longest [] = tt
runs_are_longest (c ∷ row) = joined_longest c (runs row) (runs_are_longest row)
