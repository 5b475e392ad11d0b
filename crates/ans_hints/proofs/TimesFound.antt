-- How often, with an offset more.
use Rattle.std.proofs.Common.{◌≡◌, ℕ, Bool, true, false, List, [], ◌∷◌, ◌++◌, refl, ap, append-nil}
use Rattle.std.proofs.Common.{length-append, Some}
use Rattle.ans_hints.specs.Places.{offset_if, times_of}
use Rattle.ans_pens.specs.Counted.{counted}

-- an offset more, or none
pub times_more : (offsets : List ℕ) (test : Bool) (offset : ℕ)
    → times_of (offsets ++ offset_if test offset) ≡ counted (times_of offsets) test offset
times_more [] true offset = refl
times_more [] false offset = refl
times_more (first ∷ later) true offset =
    ap (λ (n : ℕ). Some (record { count = n; first = first })) (length-append (first ∷ later) (offset ∷ []))
times_more (first ∷ later) false offset = ap times_of (append-nil (first ∷ later))
