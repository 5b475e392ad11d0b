-- Where the cursors of all plays stand, by what is known.
use Rattle.std.proofs.Common.{◌≡◌, ◌≢◌, ◌<◌, ◌≤◌, min, max, true, false, sym, ap, ◌∙◌, arith, List, inl, inr}
use Rattle.std.proofs.lemmas.Bool.{eq-eqb, cases_eq, true≢false}
use Rattle.std.proofs.lemmas.Bool.Decides.{nat_tests}
use Rattle.ans_model.specs.declared.cell.Position.{Position}
use Rattle.ans_model.specs.Sequence.TokenKind.{TokenKind}
use Rattle.ans_model.specs.Screen.State.{Size, State, FitsScreen}
use Rattle.ans_model.specs.Screen.Step.{final}
use Rattle.ans_model.specs.Screen.StartClass.{IsStart, low_start, high_start}
use Rattle.ans_model.specs.declared.start.Start.{Start}
use Rattle.ans_model.specs.Verdict.TokenFault.{SamePosition, PositionsDiffer, IsInSpareRow, FromEvery, FromSome}
use Rattle.ans_model.proofs.StartLemmas.{low_is_start, high_is_start}
use Rattle.ans_play.specs.declared.span.Span.{Span}
use Rattle.ans_play.specs.HalfState.{HalfState}
use Rattle.ans_play.specs.HalfFault.{is_one_position}
use Rattle.ans_play.specs.Stands.{IsKnownAfter}
use Rattle.ans_play.proofs.Allowed.{IsOnePosition}
use Rattle.ans_model.proofs.PositionLemmas.{same_position}
use Rattle.ans_play.proofs.Describing.{one_position_is}

-- the test tells whether the ends are the same
pub one_position_if : (e : Span) → is_one_position e ≡ true → e.low ≡ e.high
one_position_if e h =
    let row : e.low.row ≡ e.high.row = grind (arith, nat_tests) in
    let column : e.low.column ≡ e.high.column = grind (arith, nat_tests) in
    same_position e.low e.high row column

pub one_position_then : (e : Span) → e.low ≡ e.high → is_one_position e ≡ true
one_position_then e h =
    rw (
      eq-eqb e.low.row e.high.row (ap (λ (p : Position). p.row) h),
      eq-eqb e.low.column e.high.column (ap (λ (p : Position). p.column) h),
    )

-- where the low and the high play stand at one position, the ends are the same
pub one_position_if_same : (z : Size) (class : Start) (played : List TokenKind) (h : HalfState) →
    IsKnownAfter z class played h →
    (final z (low_start z class) played).cursor ≡ (final z (high_start z class) played).cursor →
    is_one_position h.cursor ≡ true
one_position_if_same z class played h st e =
    one_position_then h.cursor (rw (st.is_hull, e) (same_position _ _ (omega arith) (omega arith)))

-- where it has not, the low and the high play differ
pub positions_differ : (z : Size) (class : Start) (played : List TokenKind) (h : HalfState) → 0 < z.width →
    IsKnownAfter z class played h → is_one_position h.cursor ≡ false → PositionsDiffer z class played
positions_differ z class played h w st apart =
    let low : State = low_start z class in
    let high : State = high_start z class in (
      low,
      high,
      low_is_start z class w,
      high_is_start z class w,
      λ e. true≢false (sym (one_position_if_same z class played h st e) ∙ apart),
    )

-- and where it has, the position is the same from every start
pub positions_agree : (z : Size) (class : Start) (played : List TokenKind) (h : HalfState)
    → IsKnownAfter z class played h →
    is_one_position h.cursor ≡ true → SamePosition z class played
positions_agree z class played h st e s t start_s start_t =
    let one : h.cursor.low ≡ h.cursor.high = one_position_if h.cursor e in
    one_position_is h.cursor (final z s played).cursor (st.describes s start_s).cursor one
    ∙ sym (one_position_is h.cursor (final z t played).cursor (st.describes t start_t).cursor one)

-- the two exclude each other
pub agree_or_differ : (z : Size) (class : Start) (played : List TokenKind) → SamePosition z class played →
    ¬ PositionsDiffer z class played
agree_or_differ z class played same (s, t, start_s, start_t, ne) = ne (same s t start_s start_t)

-- ---- rows
module _ (z : Size) (class : Start) (played : List TokenKind) (h : HalfState) (w : 0 < z.width)
    (st : IsKnownAfter z class played h) where
  -- the lowest row is on the screen
  pub low_on_screen : h.cursor.low.row ≤ z.lines
  low_on_screen = let on : FitsScreen z (final z (low_start z class) played) =
      (st.well_formed (low_start z class) (low_is_start z class w)).fits in
      omega (arith, (st.describes (low_start z class) (low_is_start z class w)).cursor.low_row, on.cursor.0)

  -- the lowest end in the spare row: each cursor is there
  pub all_in_spare_row : h.cursor.low.row ≡ z.lines → FromEvery z class (IsInSpareRow z played)
  all_in_spare_row e s start = omega (
    arith,
    (st.describes s start).cursor.low_row,
    (st.well_formed s start).fits.cursor.0,
  )

  -- the highest end above the spare row: no cursor is there
  pub none_in_spare_row : h.cursor.high.row < z.lines → FromEvery z class (λ s. ¬ IsInSpareRow z played s)
  none_in_spare_row e s start b = omega (arith, (st.describes s start).cursor.high_row)

  -- the ends on either side: one of the two extreme plays is there, and one is not
  pub some_in_spare_row : z.lines ≤ h.cursor.high.row → FromSome z class (IsInSpareRow z played)
  some_in_spare_row e =
      let a : FitsScreen z (final z (low_start z class) played) =
      (st.well_formed (low_start z class) (low_is_start z class w)).fits in
      let b : FitsScreen z (final z (high_start z class) played) =
      (st.well_formed (high_start z class) (high_is_start z class w)).fits in
      let top : h.cursor.high.row ≡ max (final z (low_start z class) played).cursor.row
      (final z (high_start z class) played).cursor.row = ap (λ (k : HalfState). k.cursor.high.row) st.is_hull in
      elim (cases_eq (final z (low_start z class) played).cursor.row z.lines) [
        | inl at_low ↦ (low_start z class, low_is_start z class w, at_low)
        | inr not_low ↦ (high_start z class, high_is_start z class w, omega (arith, a.cursor.0, b.cursor.0))
      ]

  -- the lowest end above the spare row: some cursor is not there
  pub some_above : h.cursor.low.row ≢ z.lines → FromSome z class (λ s. ¬ IsInSpareRow z played s)
  some_above ne =
      let top : h.cursor.low.row ≡ min (final z (low_start z class) played).cursor.row
      (final z (high_start z class) played).cursor.row = ap (λ (k : HalfState). k.cursor.low.row) st.is_hull in
      elim (cases_eq (final z (low_start z class) played).cursor.row z.lines) [
        | inl at_low ↦ (high_start z class, high_is_start z class w, λ b. ne (omega arith))
        | inr not_low ↦ (low_start z class, low_is_start z class w, not_low)
      ]

  -- a position of one end is each play's position
  pub one_position_of_all : IsOnePosition h.cursor → (s : State) → IsStart z class s →
      (final z s played).cursor ≡ h.cursor.low
  one_position_of_all one s start = one_position_is h.cursor (final z s played).cursor (st.describes s start).cursor one
