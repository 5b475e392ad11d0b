-- The named kinds are the least that can be agreed.
use Rattle.std.proofs.Common.{◌≡◌, inl, inr, ℕ, zero, suc, ◌<◌, Bool, true, false, refl, ap, ◌∙◌, sym, List, [], ◌∷◌}
use Rattle.std.proofs.Common.{fold, take, Some, arith, subst}
use Rattle.std.proofs.lemmas.Bool.{cases_Bool, eqb-true, eq-eqb, and_parts, and_from, or_left, or_right}
use Rattle.std.specs.Prelude.{IsTrue, slice_get, ◌||◌, if◌then◌else◌}
use Rattle.std.specs.List.{list_any, list_all}
use Rattle.ans_model.specs.Screen.State.{Size, State}
use Rattle.ans_model.specs.Screen.StartClass.{cleared, all_known}
use Rattle.ans_model.proofs.OneCause.{is_cleared}
use Rattle.ans_model.proofs.StartLemmas.{low_is_start}
use Rattle.ans_players.specs.declared.difference.Difference.{Difference}
use Rattle.ans_players.specs.declared.difference.Difference.TheVariants.{WrapAtOnce, LineEnds, HomeOnClear}
use Rattle.ans_players.specs.declared.difference.Difference.TheVariants.{ClearInColour}
use Rattle.ans_players.specs.declared.difference.Difference.TheVariants.{SavePlaceOnly, DosColours}
use Rattle.ans_players.specs.declared.difference.Difference.TheVariants.{TabPrints, LineErased, WrapOff, StopsAtEdge}
use Rattle.ans_players.specs.declared.difference.Difference.TheVariants.{PageControls, TerminalControls, OwnColours}
use Rattle.ans_players.specs.Sync.{Stand, synced}
use Rattle.ans_players.specs.Situations.{Spelled, situations, is_agreed, spelled, stand_behind, stand_of, AreAgreed}
use Rattle.ans_players.specs.Kinds.{all_kinds, is_kind, kind_number}
use Rattle.ans_players.specs.Named.{arises, times, NamedAreLeast}

-- kinds of one number are one
at_number : (kind : Difference) → slice_get all_kinds (kind_number kind) ≡ Some kind
at_number WrapAtOnce = refl
at_number LineEnds = refl
at_number HomeOnClear = refl
at_number ClearInColour = refl
at_number SavePlaceOnly = refl
at_number DosColours = refl
at_number TabPrints = refl
at_number LineErased = refl
at_number WrapOff = refl
at_number StopsAtEdge = refl
at_number PageControls = refl
at_number TerminalControls = refl
at_number OwnColours = refl

pub same_kind : (k l : Difference) → kind_number k ≡ kind_number l → k ≡ l
same_kind k l e =
    let same : Some k ≡ Some l = sym (at_number k) ∙ ap (λ (n : ℕ). slice_get all_kinds n) e ∙ at_number l in cc

abbrev one_if : Bool → ℕ
one_if b = if b then 1 else 0

module _ (agreed : Difference → Bool) (kind : Difference) where
  -- a kind of an agreed list is agreed
  member : (ks : List Difference) → IsTrue (list_all agreed ks) → IsTrue (list_any (is_kind kind) ks)
      → IsTrue (agreed kind)
  member [] all any = absurd (let no : false ≡ true = any in let none : ⊥ = cc in none)
  member (k ∷ ks) all any = elim (cases_Bool (is_kind kind k)) [
    | inl is ↦ ap agreed (same_kind kind k (eqb-true _ _ is)) ∙ (and_parts _ _ all).0
    | inr other ↦ member ks (and_parts _ _ all).1 (sym (ap (λ (b : Bool). b || list_any (is_kind kind) ks) other) ∙ any)
  ]

  module _ (z : Size) where
    times_here : (h : Stand) (x : Spelled) (xs : List Spelled) → IsTrue (arises kind z h x)
        → 0 < times kind z h (x ∷ xs)
    times_here h x xs here =
        let one : ◌≡◌ {A = ℕ} (if arises kind z h x then 1 else 0) 1 = ap one_if here in
        omega (arith, one)

    agreed_kind : (xs : List Spelled) (h : Stand) → ((k : ℕ) (x : Spelled) → slice_get xs k ≡ Some x
        → IsTrue (is_agreed agreed z (fold (stand_behind z) h (take k xs)) x))
        → 0 < times kind z h xs → IsTrue (agreed kind)
    agreed_kind [] h each some = absurd (let no : ⊥ = omega (arith, some) in no)
    agreed_kind (x ∷ xs) h each some = elim (cases_Bool (arises kind z h x)) [
      | inl there ↦ member (situations z h x) (each 0 x refl) there
      | inr elsewhere ↦
          let none : ◌≡◌ {A = ℕ} (if arises kind z h x then 1 else 0) 0 = ap one_if elsewhere in
          agreed_kind xs (stand_behind z h x) (λ k y e. each (suc k) y e) (omega (arith, none, some))
    ]

    pub counted : (xs : List Spelled) (h : Stand) (k : ℕ) (x : Spelled) → slice_get xs k ≡ Some x
        → IsTrue (arises kind z (fold (stand_behind z) h (take k xs)) x) → 0 < times kind z h xs
    counted [] h k x e there = absurd (let no : ⊥ = cc in no)
    counted (y ∷ ys) h zero x e there =
        let same : y ≡ x = cc in
        times_here h y ys (subst (λ (v : Spelled). IsTrue (arises kind z h v)) (sym same) there)
    counted (y ∷ ys) h (suc k) x e there =
        let rest = counted ys (stand_behind z h y) k x e there in omega (arith, rest)

module _ (agreed : Difference → Bool) where
  all_from_each : (ks : List Difference)
      → ((kind : Difference) → IsTrue (list_any (is_kind kind) ks) → IsTrue (agreed kind))
      → IsTrue (list_all agreed ks)
  all_from_each [] each = refl
  all_from_each (k ∷ ks) each =
      and_from _ _ (each k (or_left _ _ (eq-eqb (kind_number k) (kind_number k) refl)))
      (all_from_each ks (λ kind any. each kind (or_right _ _ any)))

module _ (z : Size) (agreed : Difference → Bool) (xs : List Spelled) (w : 0 < z.width) where
  pub each_is_agreed : AreAgreed agreed z all_known xs → (kind : Difference) → 0 < times kind z (synced (cleared z)) xs
      → IsTrue (agreed kind)
  each_is_agreed each kind some = agreed_kind agreed kind z xs (synced (cleared z))
      (λ k x e. each (cleared z) k x (low_is_start z all_known w) e) some

  pub all_are_agreed : ((kind : Difference) → 0 < times kind z (synced (cleared z)) xs → IsTrue (agreed kind))
      → AreAgreed agreed z all_known xs
  all_are_agreed each s k x start e =
      all_from_each agreed (situations z (stand_of z s (take k xs)) x)
      (λ kind any. each kind (counted agreed kind z xs (synced (cleared z)) k x e
      (subst (λ (v : State). IsTrue (arises kind z (stand_of z v (take k xs)) x))
      (is_cleared z s start) any)))

pub named_are_least : NamedAreLeast
named_are_least z content agreed good = (
  each_is_agreed z agreed (spelled good.1.tokens good.1.reads.0) good.1.size.some_columns,
  all_are_agreed z agreed (spelled good.1.tokens good.1.reads.0) good.1.size.some_columns,
)
