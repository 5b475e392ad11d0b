-- The hints of all of a content.
use Rattle.std.proofs.Common.{ℕ, ◌≤◌, Bool, List, [], length, take, drop, arith, subst₂}
use Rattle.std.proofs.lemmas.List.{take_all, drop_all}
use Rattle.ans_model.specs.Screen.State.{Size}
use Rattle.ans_hints.specs.declared.hints.Hints.{Hints}
use Rattle.ans_why.specs.Explained.{AreHintsOf}

-- nothing comes after it
pub hints_of_all : (z : Size) (flag : Bool) (content : List ℕ) (hints : Hints)
    → AreHintsOf z flag (take (length content) content) (drop (length content) content) hints
    → AreHintsOf z flag content [] hints
hints_of_all z flag content hints h =
    let whole : length content ≤ length content = omega arith in
    subst₂ (λ (v w : List ℕ). AreHintsOf z flag v w hints) (take_all (length content) content whole)
    (drop_all (length content) content whole) h
