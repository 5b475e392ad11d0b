-- Whether tokens are agreed from every start of a class can be looked up, since no kind looks at a cell.
use Rattle.std.proofs.Common.{◌≡◌, inl, inr, ℕ, zero, suc, ◌+◌, ◌<◌, Bool, true, false, refl, ap, sym, ◌∙◌, List}
use Rattle.std.proofs.Common.{[], ◌∷◌, take, fold, Some, arith, replicate, ◌⊎◌, lit<}
use Rattle.std.proofs.lemmas.Bool.{and_parts, and_from, cases_Bool, cases_eq}
use Rattle.std.proofs.lemmas.List.{length-replicate}
use Rattle.std.proofs.lemmas.List.Elements.{All-replicate}
use Rattle.std.specs.Prelude.{slice_get, if◌then◌else◌, IsTrue, ◌&&◌}
use Rattle.ans_model.specs.Screen.State.{Size, State, IsWellFormed, IsByteCell, IsOnScreen, at, cell_count}
use Rattle.ans_model.specs.Screen.Step.{blank_cell}
use Rattle.ans_model.specs.Screen.StartClass.{IsStart, start_with}
use Rattle.ans_model.specs.declared.cell.Position.{Position}
use Rattle.ans_model.specs.declared.start.Start.{Start}
use Rattle.ans_model.specs.Verdict.Good.{PlaysWell}
use Rattle.ans_players.specs.declared.difference.Difference.{Difference}
use Rattle.ans_players.specs.Sync.{Stand, synced}
use Rattle.ans_players.specs.Situations.{Spelled, AreAgreed, is_agreed, stand_behind, stand_of}
use Rattle.ans_players.proofs.Along.{kinds_of}
use Rattle.ans_players.proofs.Meets.{agreed_of_two, place_in_sync, mixed_is_start}

-- ---- numbers below a bound
-- the test holds at each
abbrev pub all_below : ℕ → (ℕ → Bool) → Bool
all_below zero test = true
all_below (suc n) test = test n && all_below n test

pub at_each : (n : ℕ) (test : ℕ → Bool) → IsTrue (all_below n test) → (i : ℕ) → i < n → IsTrue (test i)
at_each zero test all i lt = absurd (let no : ⊥ = omega arith in no)
at_each (suc n) test all i lt = elim (cases_eq i n) [
  | inl same ↦ rw same (and_parts _ _ all).0
  | inr other ↦ at_each n test (and_parts _ _ all).1 i (omega arith)
]

from_each : (n : ℕ) (test : ℕ → Bool) → ((i : ℕ) → i < n → IsTrue (test i)) → IsTrue (all_below n test)
from_each zero test each = refl
from_each (suc n) test each = and_from _ _ (each n (omega arith)) (from_each n test (λ i lt. each i (omega arith)))

-- ---- tokens
-- all of them are agreed from this stand on
abbrev pub all_agreed : (Difference → Bool) → Size → Stand → List Spelled → Bool
all_agreed agreed z h [] = true
all_agreed agreed z h (x ∷ xs) = is_agreed agreed z h x && all_agreed agreed z (stand_behind z h x) xs

module _ (agreed : Difference → Bool) (z : Size) where
  pub agreed_at : (xs : List Spelled) (h : Stand) → IsTrue (all_agreed agreed z h xs) → (k : ℕ) (x : Spelled)
      → slice_get xs k ≡ Some x → IsTrue (is_agreed agreed z (fold (stand_behind z) h (take k xs)) x)
  agreed_at [] h all k x e = absurd (let no : ⊥ = cc in no)
  agreed_at (y ∷ ys) h all zero x e =
      let same : y ≡ x = cc in
      ap (λ (v : Spelled). is_agreed agreed z h v) (sym same) ∙ (and_parts _ _ all).0
  agreed_at (y ∷ ys) h all (suc k) x e = agreed_at ys (stand_behind z h y) (and_parts _ _ all).1 k x e

  all_from_each : (xs : List Spelled) (h : Stand) → ((k : ℕ) (x : Spelled) → slice_get xs k ≡ Some x
      → IsTrue (is_agreed agreed z (fold (stand_behind z) h (take k xs)) x))
      → IsTrue (all_agreed agreed z h xs)
  all_from_each [] h each = refl
  all_from_each (y ∷ ys) h each =
      and_from _ _ (each 0 y refl) (all_from_each ys (stand_behind z h y) (λ k x e. each (suc k) x e))

-- ---- starts
-- a blank screen with these parts
abbrev blank_state : Size → Position → Position → ℕ → Bool → State
blank_state z cursor saved attribute wrap = record {
  screen = replicate (cell_count z) (blank_cell 0x07);
  cursor = cursor;
  saved = saved;
  attribute = attribute;
  wrap = wrap;
}

blank_is_well_formed : (z : Size) (cursor saved : Position) (attribute : ℕ) (wrap : Bool) → IsOnScreen z cursor
    → IsOnScreen z saved → attribute < 256 → IsWellFormed z (blank_state z cursor saved attribute wrap)
blank_is_well_formed z cursor saved attribute wrap on there lt = record {
  fits = record {
    cells = length-replicate (cell_count z) (blank_cell 0x07);
    cursor = on;
    saved = there;
  };
  bytes = All-replicate IsByteCell (cell_count z) (blank_cell 0x07) (lit< tt, lit< tt);
  attribute = lt;
}

module _ (agreed : Difference → Bool) (z : Size) (class : Start) (xs : List Spelled) (w : 0 < z.width) (attributes : ℕ)
    (bytes : attributes ≡ 256) where
  -- the class' start with these parts where they are not known
  abbrev start_of : Position → Position → ℕ → Bool → State
  start_of cursor saved attribute wrap = start_with z class (blank_state z cursor saved attribute wrap)

  abbrev from_start : Position → Position → ℕ → Bool → Bool
  from_start cursor saved attribute wrap = all_agreed agreed z (synced (start_of cursor saved attribute wrap)) xs

  -- from each of them all tokens are agreed
  abbrev looked_up : Bool
  looked_up =
      all_below (z.lines + 1) (λ r. all_below z.width (λ c. all_below (z.lines + 1) (λ s. all_below z.width (λ d.
      all_below attributes (λ a. from_start (at r c) (at s d) a true && from_start (at r c) (at s d) a false)))))

  found_at : IsTrue looked_up → (cursor saved : Position) (attribute : ℕ) (wrap : Bool) → IsOnScreen z cursor
      → IsOnScreen z saved → attribute < attributes → IsTrue (from_start cursor saved attribute wrap)
  found_at all cursor saved attribute wrap on there lt =
      let r = at_each (z.lines + 1) _ all cursor.row (omega (arith, on.0)) in
      let c = at_each z.width _ r cursor.column on.1 in
      let s = at_each (z.lines + 1) _ c saved.row (omega (arith, there.0)) in
      let d = at_each z.width _ s saved.column there.1 in
      let both = and_parts _ _ (at_each attributes _ d attribute lt) in
      go wrap both.0 both.1
    where
      go : (b : Bool) → IsTrue (from_start cursor saved attribute true)
          → IsTrue (from_start cursor saved attribute false) → IsTrue (from_start cursor saved attribute b)
      go true on off = on
      go false on off = off

  looks_up : AreAgreed agreed z class xs → IsTrue looked_up
  looks_up each =
      from_each (z.lines + 1) _ (λ r r_lt. from_each z.width _ (λ c c_lt. from_each (z.lines + 1) _ (λ s s_lt.
      from_each z.width _ (λ d d_lt. from_each attributes _ (λ a lt.
      and_from _ _ (one (at r c) (at s d) a true (omega (arith, r_lt), c_lt) (omega (arith, s_lt), d_lt) lt)
      (one (at r c) (at s d) a false (omega (arith, r_lt), c_lt) (omega (arith, s_lt), d_lt) lt))))))
    where
      one : (cursor saved : Position) (a : ℕ) (wrap : Bool) → IsOnScreen z cursor → IsOnScreen z saved → a < attributes
          → IsTrue (from_start cursor saved a wrap)
      one cursor saved a wrap on there lt =
          all_from_each agreed z xs (synced (start_of cursor saved a wrap)) (λ k x e.
          each (start_of cursor saved a wrap) k x (mixed_is_start z class (blank_state z cursor saved a wrap) w
          (blank_is_well_formed z cursor saved a wrap on there (omega (arith, lt, bytes)))) e)

  -- a part of a start is that of the one looked up
  same_part : {X : Type 0} (known : Bool) (c v : X) → (IsTrue known → v ≡ c) → v ≡ (if known then c else v)
  same_part true c v is = is refl
  same_part false c v is = refl

  looked_up_agrees : PlaysWell z class (kinds_of xs) → IsTrue looked_up → AreAgreed agreed z class xs
  looked_up_agrees plays all s k x start e =
      let well = start.well_formed in
      let p : State = start_of s.cursor s.saved s.attribute s.wrap in
      let start_p : IsStart z class p = mixed_is_start z class (blank_state z s.cursor s.saved s.attribute s.wrap) w
      (blank_is_well_formed z s.cursor s.saved s.attribute s.wrap well.fits.cursor well.fits.saved well.attribute) in
      let there : IsTrue (is_agreed agreed z (stand_of z p (take k xs)) x) =
      agreed_at agreed z xs (synced p)
      (found_at all s.cursor s.saved s.attribute s.wrap well.fits.cursor well.fits.saved
      (omega (arith, well.attribute, bytes))) k x e in
      agreed_of_two z class xs plays s p p start start_p start_p agreed (record {
        place = place_in_sync _ _ _ (inl (same_part class.cursor _ s.cursor start.cursor));
        saved = inl (same_part class.saved _ s.saved start.saved);
        attribute = inl (same_part class.colours _ s.attribute start.attribute);
        wrap = inl (same_part class.wrap _ s.wrap start.wrap);
        names = refl;
      }) k x e there there

  -- all tokens are agreed from every start of the class, or not
  looked_up_or_not : PlaysWell z class (kinds_of xs) → AreAgreed agreed z class xs ⊎ ¬ AreAgreed agreed z class xs
  looked_up_or_not plays = elim (cases_Bool looked_up) [
    | inl all ↦ inl (looked_up_agrees plays all)
    | inr not_all ↦ inr (λ each. let no : true ≡ false = sym (looks_up each) ∙ not_all in
        let none : ⊥ = cc in none)
  ]

pub agreed_or_not : (agreed : Difference → Bool) (z : Size) (class : Start) (xs : List Spelled) → 0 < z.width
    → PlaysWell z class (kinds_of xs) → AreAgreed agreed z class xs ⊎ ¬ AreAgreed agreed z class xs
agreed_or_not agreed z class xs w plays = looked_up_or_not agreed z class xs w 256 refl plays
