use Rattle.ans_fix.proofs.fixes.fix_for.Goals as goal
use Rattle.std.proofs.Common.{◌≡◌, ◌∙◌, List, ℕ, Err, None, Ok, Option, Result, Some, subst, sym}
use Rattle.std.specs.Prelude.{IfOk, MatchOption}
use Rattle.ans_model.specs.declared.mends.Mends.{Mends}
use Rattle.ans_fix.specs.Suggested.{IsFix, IsFixOf, suggested}
use Rattle.ans_why.specs.Explained.{Why}

of_suggested : (file : List ℕ) (why : Why) (mends : Mends) (fix : Option Mends) → suggested why ≡ Some mends
    → IsFixOf mends file fix → IsFix file why fix
of_suggested file why mends fix some is =
    subst (λ (o : Option Mends). MatchOption o (fix ≡ None) (λ m. IsFixOf m file fix)) (sym some) is

if_suggested : {E : Type 0} (file : List ℕ) (why : Why) (mends : Mends) (fix : Result (Option Mends) E)
    → suggested why ≡ Some mends → IfOk fix (IsFixOf mends file) → IfOk fix (IsFix file why)
if_suggested file why mends (Ok fix) some is = of_suggested file why mends fix some is
if_suggested file why mends (Err e) some is = is

pub returns-in-Some : goal.returns-in-Some
returns-in-Some c =
    if_suggested c.args.file.now c.args.why.now c.in-Some.mends c.fix_of.result
    (sym c.suggested.ensures ∙ c.in-Some.is) c.fix_of.ensures
