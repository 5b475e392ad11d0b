-- Where tokens are clean, none prints or scrolls in the spare row, and each prints at one position.
use Rattle.std.proofs.Common.{◌≡◌, inl, inr, ℕ, zero, suc, ◌%◌, ◌<◌, ap, ◌∙◌}
use Rattle.std.proofs.Common.{arith, List, [], ◌++◌, take, Some, subst, lit<, sym}
use Rattle.std.proofs.lemmas.List.{append-nil}
use Rattle.std.proofs.Math.Nat.{mod-lt}
use Rattle.std.specs.Prelude.{slice_get}
use Rattle.std.proofs.lemmas.Bool.{cases_eq, cases_lt}
use Rattle.ans_model.specs.Sequence.TokenKind.{TokenKind, Glyph, LineFeed, Tab}
use Rattle.ans_model.specs.Sequence.Reads.{IsReadUpTo}
use Rattle.ans_model.specs.Screen.State.{Size}
use Rattle.ans_model.specs.declared.cell.Position.{Position}
use Rattle.ans_model.specs.declared.fault.Fault.{Fault}
use Rattle.ans_model.specs.declared.fault.Cause.{Cause}
use Rattle.ans_model.specs.declared.fault.Cause.TheVariants.{PrintBelow, Scrolls, PrintUnknownPlace, MayScroll}
use Rattle.ans_model.specs.Screen.Step.{final, tab_blanks}
use Rattle.ans_model.specs.declared.start.Start.{Start}
use Rattle.ans_model.specs.Verdict.TokenFault.{FromEvery, SamePosition, PositionsDiffer, IsInSpareRow, HasFault}
use Rattle.ans_model.specs.Verdict.TokenFault.{IsClean, HasPrintFault, HasTabFault, FromSome, then_blanks, TabGoesOn}
use Rattle.ans_model.specs.Verdict.FirstFault.{IsFirstFault}
use Rattle.ans_model.specs.Verdict.Good.{PrintsWell}
use Rattle.ans_model.specs.Verdict.LastFault.{EndsInSequence, LeavesUnknown}
use Rattle.ans_model.proofs.PositionLemmas.{position_eq}

-- ---- what stands before a fault
module _ (z : Size) (class : Start) (bytes : List ℕ) (fault : Fault) where
  pub read_before_first : (h : IsFirstFault z class bytes fault)
      → IsReadUpTo bytes fault.offset h.tokens (h.text ++ h.rest)
  read_before_first h = record { front = h.front; whole = h.whole; offset_is = h.offset; reads = h.reads }

  pub read_before_sequence : (h : EndsInSequence z class bytes fault) → IsReadUpTo bytes fault.offset h.tokens h.text
  read_before_sequence h = record {
    front = h.front;
    whole = h.whole;
    offset_is = ap (λ (f : Fault). f.offset) h.fault_is;
    reads = h.reads;
  }

  pub read_to_the_end : (h : LeavesUnknown z class bytes fault) → IsReadUpTo bytes fault.offset h.tokens []
  read_to_the_end h = record {
    front = bytes;
    whole = sym (append-nil bytes);
    offset_is = ap (λ (f : Fault). f.offset) h.fault_is;
    reads = h.reads;
  }

-- ---- printed bytes
-- where a printed byte has no fault, it is printed well
pub printed_well : (z : Size) (class : Start) (played : List TokenKind)
    → ((cause : Cause) → ¬ HasPrintFault z class played cause) → PrintsWell z class played
printed_well z class played none =
    let same : SamePosition z class played = λ s r start_s start_r.
    elim (position_eq (final z s played).cursor (final z r played).cursor) [
      | inl same ↦ same
      | inr ne ↦ absurd (none PrintUnknownPlace (s, r, start_s, start_r, ne))
    ] in
    record {
      at_one_position = same;
      never_below = λ s start below. none PrintBelow
          (same, λ r start_r. ap (λ (p : Position). p.row) (same r s start_r start) ∙ below);
    }

-- a tab prints a blank at least
pub some_blanks : (column : ℕ) → 0 < tab_blanks column
some_blanks column = let below : column % 8 < 8 = mod-lt column (lit< tt) in omega (arith, below)

-- where a tab has no fault, none of its blanks has
module _ (z : Size) (class : Start) (played : List TokenKind)
    (none : (cause : Cause) → ¬ HasTabFault z class played cause) where
  -- where no blank before has a fault, the tab goes on so far from every start
  goes_on_from_every : (n : ℕ) → FromSome z class (TabGoesOn z played n)
      → ((m : ℕ) (c : Cause) → m < n → ¬ HasPrintFault z class (then_blanks played m) c)
      → FromEvery z class (TabGoesOn z played n)
  goes_on_from_every zero some earlier s start = some_blanks (final z s played).cursor.column
  goes_on_from_every (suc n) some earlier s start =
      let well : PrintsWell z class (then_blanks played 0) =
      printed_well z class (then_blanks played 0) (λ c. earlier 0 c (omega arith)) in
      let same : (final z some.0 played).cursor ≡ (final z s played).cursor =
      rw (append-nil played) at (well.at_one_position some.0 s some.1 start) in
      rw same at some.2

  -- where no blank before has a fault, the next has none
  blank_has_none : (n : ℕ) → FromSome z class (TabGoesOn z played n)
      → ((m : ℕ) (c : Cause) → m < n → ¬ HasPrintFault z class (then_blanks played m) c)
      → (c : Cause) → ¬ HasPrintFault z class (then_blanks played n) c
  blank_has_none n some earlier c f = none c (record {
    blanks_before = n;
    goes_on = goes_on_from_every n some earlier;
    earlier = earlier;
    fault = f;
  })

  -- so the blanks before have none
  earlier_have_none : (n : ℕ) → FromSome z class (TabGoesOn z played n) → (m : ℕ) (c : Cause) → m < n
      → ¬ HasPrintFault z class (then_blanks played m) c
  earlier_have_none zero some m c lt f = absurd (let no : ⊥ = omega arith in no)
  earlier_have_none (suc n) some m c lt f =
      let goes_on : FromSome z class (TabGoesOn z played n) = (some.0, some.1, omega (arith, some.2)) in
      elim (cases_lt m n) [
        | inl less ↦ earlier_have_none n goes_on m c less f
        | inr not_less ↦
            let same : m ≡ n = omega arith in
            blank_has_none n goes_on (earlier_have_none n goes_on) c
            (subst (λ (i : ℕ). HasPrintFault z class (then_blanks played i) c) same f)
      ]

  -- and no blank has one that the tab prints from some start
  pub no_fault_in_tab : (n : ℕ) → FromSome z class (TabGoesOn z played n) → (c : Cause)
      → ¬ HasPrintFault z class (then_blanks played n) c
  no_fault_in_tab n some = blank_has_none n some (earlier_have_none n some)

-- ---- clean tokens
module _ (z : Size) (class : Start) (tokens : List TokenKind) (clean : IsClean z class tokens) where
  -- a token that would have a fault where positions differ stands at one position
  pub at_one_position : (k : ℕ) (t : TokenKind) (cause : Cause) → slice_get tokens k ≡ Some t
      → (PositionsDiffer z class (take k tokens) → HasFault z class (take k tokens) t cause)
      → SamePosition z class (take k tokens)
  at_one_position k t cause e f s r start_s start_r =
      elim (position_eq (final z s (take k tokens)).cursor (final z r (take k tokens)).cursor) [
        | inl same ↦ same
        | inr ne ↦ absurd (clean k cause (t, e, f (s, r, start_s, start_r, ne)))
      ]

  -- no line feed comes in the spare row
  pub no_feed_below : (k : ℕ) → slice_get tokens k ≡ Some LineFeed
      → FromEvery z class (λ s. ¬ IsInSpareRow z (take k tokens) s)
  no_feed_below k e s start below = clean k Scrolls (
    LineFeed,
    e,
    inr (λ r start_r. elim (cases_eq (final z r (take k tokens)).cursor.row z.lines) [
      | inl there ↦ there
      | inr above ↦ absurd (clean k MayScroll (LineFeed, e, inr ((s, start, below), (r, start_r, above))))
    ]),
  )

  -- each printed byte is printed well
  pub prints_well : (k byte : ℕ) → slice_get tokens k ≡ Some (Glyph byte) → PrintsWell z class (take k tokens)
  prints_well k byte e = printed_well z class (take k tokens) (λ c f. clean k c (Glyph byte, e, inr f))

  -- and so is each blank of a tab
  pub tabs_well : (k n : ℕ) → slice_get tokens k ≡ Some Tab → FromSome z class (TabGoesOn z (take k tokens) n)
      → PrintsWell z class (then_blanks (take k tokens) n)
  tabs_well k n e goes_on =
      printed_well z class (then_blanks (take k tokens) n)
      (no_fault_in_tab z class (take k tokens) (λ c f. clean k c (Tab, e, inr f)) n goes_on)
