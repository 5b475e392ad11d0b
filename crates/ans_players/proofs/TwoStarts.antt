-- The plays from the low and the high start tell of every start.
use Rattle.std.proofs.Common.{◌≡◌, ◌⊎◌, inl, inr, ℕ, zero, suc, ◌-◌, ◌<◌, Bool, true, false, refl, ap, ◌∙◌, sym}
use Rattle.std.proofs.Common.{subst, List, [], ◌∷◌, fold, take, Some, arith}
use Rattle.std.proofs.lemmas.Bool.{cases_lt}
use Rattle.std.proofs.lemmas.Nat.Bits.{bit_at-lt, bit_at-zero, bit_at_above, bit_at_ones}
use Rattle.std.specs.Int.{bit_at}
use Rattle.std.specs.Prelude.{slice_get, if◌then◌else◌, IsTrue}
use Rattle.ans_model.specs.Sequence.TokenKind.{TokenKind, Glyph, Tab}
use Rattle.ans_model.specs.Screen.State.{Size, State, IsOnScreen, at}
use Rattle.ans_model.specs.Screen.StartClass.{IsStart, all_but_wrap, high_start, low_start}
use Rattle.ans_model.specs.declared.cell.Position.{Position}
use Rattle.ans_model.specs.declared.start.Start.{Start}
use Rattle.ans_model.specs.Verdict.Good.{IsGood, PlaysWell}
use Rattle.ans_model.proofs.StartLemmas.{low_is_start, high_is_start}
use Rattle.ans_players.specs.declared.difference.Difference.{Difference}
use Rattle.ans_players.specs.Classes.{IsAgreedFrom, AgreedFromTwo, TwoStartsTell, SameByTwoStarts}
use Rattle.ans_players.specs.Sync.{Stand, synced}
use Rattle.ans_players.specs.Players.{StaysAbove}
use Rattle.ans_players.specs.Situations.{Spelled, AreAgreed, spelled, stand_behind, stand_of}
use Rattle.ans_players.proofs.Afters.{parts_after}
use Rattle.ans_players.proofs.Along.{above_at, kinds_of, kind_at}
use Rattle.ans_players.proofs.LeastSame.{agreed_is, plays_of, same_is}
use Rattle.ans_players.proofs.Meets.{agreed_of_two, place_in_sync, prints_at_one}
use Rattle.ans_players.proofs.Under.{HasBitsBelow, IsBelow, IsPrintedAtOne, IsUnder, agreed_under, token_bits}
use Rattle.ans_players.proofs.Under.{under_after}

-- ---- along tokens
module _ (z : Size) where
  -- what the three plays need at a token
  record GoUnder (t : TokenKind) (l h k : Stand) : Type 0 where
    above_low : StaysAbove z l.state t
    above : StaysAbove z h.state t
    above_high : StaysAbove z k.state t
    one : IsPrintedAtOne t h.state.cursor k.state.cursor

  -- a play between two others
  record IsBetween (l h k : Stand) : Type 0 where
    low : HasBitsBelow l.state.attribute h.state.attribute
    high : IsUnder h k

  between_after : (x : Spelled) (l h k : Stand) → GoUnder x.token l h k → IsBetween l h k
      → IsBetween (stand_behind z l x) (stand_behind z h x) (stand_behind z k x)
  between_after x l h k go between = record {
    low = rw (
      (parts_after z l.state x.token go.above_low).attribute,
      (parts_after z h.state x.token go.above).attribute,
    )
        (token_bits x.token l.state.attribute h.state.attribute between.low);
    high = under_after z x.token h k go.above go.above_high go.one between.high;
  }

  between_along : (xs : List Spelled) (l h k : Stand) → IsBetween l h k
      → ((j : ℕ) (x : Spelled) → slice_get xs j ≡ Some x → GoUnder x.token (fold (stand_behind z) l (take j xs))
      (fold (stand_behind z) h (take j xs)) (fold (stand_behind z) k (take j xs)))
      → (j : ℕ) (x : Spelled) → slice_get xs j ≡ Some x → IsBetween (fold (stand_behind z) l (take j xs))
      (fold (stand_behind z) h (take j xs)) (fold (stand_behind z) k (take j xs))
  between_along [] l h k between each j x e = absurd (let no : ⊥ = cc in no)
  between_along (y ∷ ys) l h k between each zero x e = between
  between_along (y ∷ ys) l h k between each (suc j) x e =
      between_along ys (stand_behind z l y) (stand_behind z h y) (stand_behind z k y)
      (between_after y l h k (each 0 y refl) between) (λ i v f. each (suc i) v f) j x e

-- ---- the starts
-- a place is below that of the high start
below_high : (z : Size) (known : Bool) (p : Position) → (IsTrue known → p ≡ at 0 0) → IsOnScreen z p
    → IsBelow p (if known then at 0 0 else at z.lines (z.width - 1))
below_high z true p is on = subst (λ (v : Position). IsBelow v (at 0 0)) (sym (is refl)) (omega arith, omega arith)
below_high z false p is on = (on.0, omega (arith, on.1))

bits_above_low : (known : Bool) (a : ℕ) → (IsTrue known → a ≡ 0x07) → HasBitsBelow (if known then 0x07 else 0x00) a
bits_above_low true a is i = omega (arith, ap (λ (v : ℕ). bit_at v i) (is refl))
bits_above_low false a is i = omega (arith, bit_at-zero i)

bits_below_high : (known : Bool) (a : ℕ) → (IsTrue known → a ≡ 0x07) → a < 256
    → HasBitsBelow a (if known then 0x07 else 0xFF)
bits_below_high true a is lt i = omega (arith, ap (λ (v : ℕ). bit_at v i) (is refl))
bits_below_high false a is lt i = elim (cases_lt i 8) [
  | inl below ↦
      let one : bit_at 0xFF i ≡ 1 = bit_at_ones 8 i below in
      omega (arith, one, bit_at-lt a i)
  | inr past ↦
      let none : bit_at a i ≡ 0 = bit_at_above a 8 i lt past in
      omega (arith, none)
]

on_in_both : (known : Bool) → (if known then true else true) ≡ true
on_in_both true = refl
on_in_both false = refl

module _ (z : Size) (class : Start) (xs : List Spelled) (w : 0 < z.width) (plays : PlaysWell z class (kinds_of xs))
    (s : State) (start : IsStart z class s) where
  abbrev low : State
  low = low_start z class

  abbrev high : State
  high = high_start z class

  start_low : IsStart z class low
  start_low = low_is_start z class w

  start_high : IsStart z class high
  start_high = high_is_start z class w

  at_first : class.wrap ≡ true → IsBetween z (synced low) (synced s) (synced high)
  at_first known = record {
    low = bits_above_low class.colours s.attribute start.attribute;
    high = record {
      cursor = below_high z class.cursor s.cursor start.cursor start.well_formed.fits.cursor;
      saved = below_high z class.saved s.saved start.saved start.well_formed.fits.saved;
      attribute = bits_below_high class.colours s.attribute start.attribute start.well_formed.attribute;
      wrap = start.wrap known ∙ sym (on_in_both class.wrap);
      sync = inl refl;
      names = refl;
    };
  }

  one_place : (k : ℕ) (t : TokenKind) → slice_get (kinds_of xs) k ≡ Some t
      → IsPrintedAtOne t (stand_of z s (take k xs)).state.cursor (stand_of z high (take k xs)).state.cursor
  one_place k (Glyph byte) e =
      (prints_at_one z class xs plays s high high start start_high start_high k (Glyph byte) e).0
  one_place k Tab e = (prints_at_one z class xs plays s high high start start_high start_high k Tab e).0
  one_place k t e = tt

  between_at : class.wrap ≡ true → (k : ℕ) (x : Spelled) → slice_get xs k ≡ Some x
      → IsBetween z (stand_of z low (take k xs)) (stand_of z s (take k xs)) (stand_of z high (take k xs))
  between_at known = between_along z xs (synced low) (synced s) (synced high) (at_first known) (λ k x e. record {
    above_low = above_at z class xs plays low start_low k x e;
    above = above_at z class xs plays s start k x e;
    above_high = above_at z class xs plays high start_high k x e;
    one = one_place k x.token (kind_at xs k x e);
  })

-- a start of which all is known but wrap is the low or the high one
wrap_alone : (agreed : Difference → Bool) (z : Size) (xs : List Spelled) → 0 < z.width
    → PlaysWell z all_but_wrap (kinds_of xs) → IsAgreedFrom agreed z (low_start z all_but_wrap) xs
    → IsAgreedFrom agreed z (high_start z all_but_wrap) xs → AreAgreed agreed z all_but_wrap xs
wrap_alone agreed z xs w plays from_low from_high s k x start e =
    agreed_of_two z all_but_wrap xs plays s (low_start z all_but_wrap) (high_start z all_but_wrap) start
    (low_is_start z all_but_wrap w) (high_is_start z all_but_wrap w) agreed (record {
      place = place_in_sync _ _ _ (inl (start.cursor refl));
      saved = inl (start.saved refl);
      attribute = inl (start.attribute refl);
      wrap = off_or_on s.wrap;
      names = refl;
    }) k x e (from_low k x e) (from_high k x e)
  where
    off_or_on : (b : Bool) → (b ≡ false) ⊎ (b ≡ true)
    off_or_on true = inr refl
    off_or_on false = inl refl

pub two_starts_tell : TwoStartsTell
two_starts_tell agreed z class xs w (inl known) plays from s k x start e =
    let between = between_at z class xs w plays s start known k x e in
    agreed_under z agreed (stand_of z (low_start z class) (take k xs)) (stand_of z s (take k xs))
    (stand_of z (high_start z class) (take k xs)) between.low between.high x (from.0 k x e) (from.1 k x e)
two_starts_tell agreed z class xs w (inr is) plays from s k x start e =
    let low : IsAgreedFrom agreed z (low_start z all_but_wrap) xs =
    subst (λ (c : Start). IsAgreedFrom agreed z (low_start z c) xs) is from.0 in
    let high : IsAgreedFrom agreed z (high_start z all_but_wrap) xs =
    subst (λ (c : Start). IsAgreedFrom agreed z (high_start z c) xs) is from.1 in
    wrap_alone agreed z xs w (subst (λ (c : Start). PlaysWell z c (kinds_of xs)) is plays) low high s k x
    (subst (λ (c : Start). IsStart z c s) is start) e

-- ---- content in which only agreed kinds arise
-- what is agreed from every start is so from the low and the high one
from_two : (agreed : Difference → Bool) (z : Size) (class : Start) (xs : List Spelled) → 0 < z.width
    → AreAgreed agreed z class xs → AgreedFromTwo agreed z class xs
from_two agreed z class xs w each = (
  λ k x e. each (low_start z class) k x (low_is_start z class w) e,
  λ k x e. each (high_start z class) k x (high_is_start z class w) e,
)

pub same_by_two_starts : SameByTwoStarts
same_by_two_starts agreed z content needs class only_agreed told =
    let w : 0 < z.width = only_agreed.same.0.1.size.some_columns in
    let xs : List Spelled = spelled only_agreed.same.0.1.tokens only_agreed.same.0.1.reads.0 in (
      λ same. (
        (only_agreed.least class).0 same.0,
        from_two agreed z class xs w (agreed_is agreed z content needs only_agreed class same),
      ),
      λ both.
          let good : IsGood z class content = (only_agreed.least class).1 both.0 in
          same_is agreed z content needs only_agreed class good (two_starts_tell agreed z class xs w told
          (plays_of agreed z content needs only_agreed class good) both.1),
    )
