use Rattle.std.proofs.Common.{◌≡◌, ◌∙◌, Bool, List, ℕ, None, Ok, Err, Option, Result, Some, false, refl, subst, sym}
use Rattle.std.proofs.Common.{true}
use Rattle.std.specs.Prelude.{IfOk, MatchBool, MatchOption}
use Rattle.ans_model.specs.declared.mends.Mends.{Mends}
use Rattle.ans_fix.specs.Suggested.{IsFixBy, IsFixOf, may_keep_width, with_its_width}
use Rattle.ans_fix.proofs.fixes.fix_of.Goals as goal

module _ (mends : Mends) (file : List ℕ) where
  -- what comes of it, by whether another width is a second choice
  Choice : Bool → Option Mends → Type 0
  Choice keeps fix = MatchBool keeps
      ((kept : Option Mends) × IsFixBy (with_its_width mends) file kept
      × MatchOption kept (IsFixBy mends file fix) (λ narrow. fix ≡ Some narrow)) (IsFixBy mends file fix)

  kept_first : (kept : Mends) → may_keep_width mends ≡ true → IsFixBy (with_its_width mends) file (Some kept)
      → IsFixOf mends file (Some kept)
  unfolding Choice
  kept_first kept keeps is = subst (λ (b : Bool). Choice b (Some kept)) (sym keeps) (Some kept, is, refl)

  with_another : (fix : Option Mends) → may_keep_width mends ≡ true → IsFixBy (with_its_width mends) file None
      → IsFixBy mends file fix → IsFixOf mends file fix
  unfolding Choice
  with_another fix keeps none is = subst (λ (b : Bool). Choice b fix) (sym keeps) (None, none, is)

  only : (fix : Option Mends) → may_keep_width mends ≡ false → IsFixBy mends file fix → IsFixOf mends file fix
  unfolding Choice
  only fix keeps is = subst (λ (b : Bool). Choice b fix) (sym keeps) is

  if_only : {E : Type 0} (fix : Result (Option Mends) E) → may_keep_width mends ≡ false
      → IfOk fix (IsFixBy mends file) → IfOk fix (IsFixOf mends file)
  if_only (Ok fix) keeps is = only fix keeps is
  if_only (Err e) keeps is = is

  if_another : {E : Type 0} (fix : Result (Option Mends) E) → may_keep_width mends ≡ true
      → IsFixBy (with_its_width mends) file None → IfOk fix (IsFixBy mends file) → IfOk fix (IsFixOf mends file)
  if_another (Ok fix) keeps none is = with_another fix keeps none is
  if_another (Err e) keeps none is = is

pub returns-then-not-may_keep_width : goal.returns-then-not-may_keep_width
returns-then-not-may_keep_width c =
    let keeps : may_keep_width c.args.mends.now ≡ false = cc (c.may_keep_width.ensures, c.if-not-may_keep_width.true) in
    if_only c.args.mends.now c.args.file.now c.fix_by.result keeps c.fix_by.ensures

pub returns-in-Some : goal.returns-in-Some
returns-in-Some c =
    let keeps : may_keep_width c.args.mends.now ≡ true = cc (c.may_keep_width.ensures, c.if-not-may_keep_width.false) in
    let first : IsFixBy (with_its_width c.args.mends.now) c.args.file.now c.in_ok-kept.field-0 =
    rw c.with_its_width.ensures at c.in_ok-kept.ensures in
    kept_first c.args.mends.now c.args.file.now c.in-Some.kept keeps
    (subst (λ (o : Option Mends). IsFixBy (with_its_width c.args.mends.now) c.args.file.now o) c.in-Some.is first)

pub returns-in-None : goal.returns-in-None
returns-in-None c =
    let keeps : may_keep_width c.args.mends.now ≡ true = cc (c.may_keep_width.ensures, c.if-not-may_keep_width.false) in
    let first : IsFixBy (with_its_width c.args.mends.now) c.args.file.now c.in_ok-kept.field-0 =
    rw c.with_its_width.ensures at c.in_ok-kept.ensures in
    if_another c.args.mends.now c.args.file.now c.fix_by-in-None.result keeps
    (subst (λ (o : Option Mends). IsFixBy (with_its_width c.args.mends.now) c.args.file.now o) c.in-None.is first)
    c.fix_by-in-None.ensures
