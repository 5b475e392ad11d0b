-- Steps of the writing of a text.
use Rattle.std.proofs.Common.{ℕ, ◌+◌, ◌-◌, List, length, take, drop, sym, subst}
use Rattle.std.specs.Prelude.{Option}
use Rattle.std.proofs.Math.Seq.{take-add}
use Rattle.std.proofs.lemmas.List.{take_rest}
use Rattle.std.specs.Io.KnownBytes.{Appends}
use Rattle.std.proofs.KnownBytes.{Appends-trans}

-- one more call took n bytes of what was left
pub writes_more : (a b c : Option (List ℕ)) (text : List ℕ) (w n : ℕ) → Appends a b (take w text)
    → Appends b c (take n (take (length text - w) (drop w text))) → Appends a c (take (w + n) text)
writes_more a b c text w n before call =
    let P : List ℕ → Type 0 = λ s. Appends b c (take n s) in
    let step : Appends b c (take n (drop w text)) = subst P (take_rest text w) call in
    let Q : List ℕ → Type 0 = λ s. Appends a c s in
    subst Q (sym (take-add w n text)) (Appends-trans a b c _ _ before step)
