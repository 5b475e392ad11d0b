-- The blanks of a tab that has a fault, up to the one that decides.
use Rattle.std.proofs.Common.{◌≡◌, ◌≢◌, ◌⊎◌, inl, inr, ℕ, ◌+◌, ◌<◌, ◌≤◌, sym, ap, ◌∙◌, arith}
use Rattle.std.proofs.Common.{subst, List, [], ◌∷◌, ◌++◌, All, replicate, append_assoc}
use Rattle.std.proofs.lemmas.Bool.{cases_lt}
use Rattle.std.proofs.lemmas.List.{append-nil, replicate-append-replicate}
use Rattle.ans_model.specs.Bytes.{blank}
use Rattle.ans_model.specs.Sequence.TokenKind.{TokenKind, PrintsByte, Glyph}
use Rattle.ans_model.specs.Screen.State.{Size, State}
use Rattle.ans_model.specs.Screen.Step.{tab_blanks}
use Rattle.ans_model.specs.Screen.StartClass.{IsStart, low_start, high_start}
use Rattle.ans_model.specs.declared.cell.Position.{Position}
use Rattle.ans_model.specs.declared.fault.Cause.{Cause}
use Rattle.ans_model.specs.declared.fault.Cause.TheVariants.{PrintUnknownPlace, PrintBelow}
use Rattle.ans_model.specs.declared.start.Start.{Start}
use Rattle.ans_model.specs.Verdict.Good.{PrintsWell}
use Rattle.ans_model.specs.Verdict.TokenFault.{IsClean, HasPrintFault, HasTabFault, then_blanks}
use Rattle.ans_model.specs.Verdict.TwoStarts.{low_final, high_final}
use Rattle.ans_model.proofs.CleanLemmas.{printed_well}
use Rattle.ans_model.proofs.PositionLemmas.{position_eq, same_position}
use Rattle.ans_model.proofs.StartLemmas.{low_is_start, high_is_start}
use Rattle.ans_play.proofs.Clean.{clean_blanks, blanks_print}
use Rattle.ans_play.proofs.TwoStarts.{cursor_between}
use Rattle.ans_play.specs.Between.{IsBetween}
use Rattle.ans_pens.specs.CellPlays.{AreKept}
use Rattle.ans_pens.specs.declared.cell_play.CellPlay.{CellPlay}
use Rattle.ans_pens.specs.declared.two_cell_plays.TwoCellPlays.{TwoCellPlays}

-- a byte that is printed next has a fault
abbrev pub Decides : Size → TwoCellPlays → Type 0
Decides z w = (w.low.pen.cursor ≢ w.high.pen.cursor) ⊎ (w.low.pen.cursor.row ≡ z.lines)

-- n blanks of a tab with a fault are played, and not more than there are before the one that decides
pub record AreBlanksKept (z : Size) (class : Start) (p : Position) (tokens : List TokenKind) (cause : Cause)
    (fault : HasTabFault z class tokens cause) (n : ℕ) (w : TwoCellPlays) : Type 0 where
  pub before : n ≤ fault.blanks_before
  pub kept : AreKept z class p (then_blanks tokens n) w

-- what lies between a position and itself is that position
between_one : (a b p : Position) → a ≡ b → IsBetween a b p → p ≡ a
between_one a b p e h =
    let row = ap (λ (q : Position). q.row) e in
    let column = ap (λ (q : Position). q.column) e in
    same_position p a (omega (arith, row, h.row_from, h.row_to)) (omega (arith, column, h.column_from, h.column_to))

module _ (z : Size) (class : Start) (p : Position) (some : 0 < z.width) (played : List TokenKind) (w : TwoCellPlays)
    (kept : AreKept z class p played w) where
  low_there : w.low.pen.cursor ≡ (low_final z class played).cursor
  low_there = ap (λ (v : CellPlay). v.pen.cursor) kept.low

  high_there : w.high.pen.cursor ≡ (high_final z class played).cursor
  high_there = ap (λ (v : CellPlay). v.pen.cursor) kept.high

  -- where a byte is printed well
  pub none_decides : PrintsWell z class played → ¬ Decides z w
  none_decides well (inl differ) =
      let same : (low_final z class played).cursor ≡ (high_final z class played).cursor =
      well.at_one_position (low_start z class) (high_start z class) (low_is_start z class some)
      (high_is_start z class some) in
      differ (low_there ∙ same ∙ sym high_there)
  none_decides well (inr below) = well.never_below (low_start z class) (low_is_start z class some)
      (ap (λ (q : Position). q.row) (sym low_there) ∙ below)

  -- where a printed byte has a fault
  pub fault_decides : (cause : Cause) → All PrintsByte played → IsClean z class played
      → HasPrintFault z class played cause → Decides z w
  fault_decides PrintUnknownPlace prints clean (s, t, start_s, start_t, differ) =
      elim (position_eq w.low.pen.cursor w.high.pen.cursor) [
        | inl same ↦
            let one : (low_final z class played).cursor ≡ (high_final z class played).cursor =
            sym low_there ∙ same ∙ high_there in
            let here = λ (u : State) (start : IsStart z class u).
            between_one _ _ _ one (cursor_between z class some played prints clean u start) in
            absurd (differ (here s start_s ∙ sym (here t start_t)))
        | inr ne ↦ inl ne
      ]
  fault_decides PrintBelow prints clean f =
      inr (ap (λ (q : Position). q.row) low_there ∙ f.1 (low_start z class) (low_is_start z class some))
  fault_decides _ prints clean f = absurd f

-- one blank more is one more in the end
pub blanks_more : (tokens : List TokenKind) (n : ℕ)
    → then_blanks tokens n ++ Glyph blank ∷ [] ≡ then_blanks tokens (n + 1)
blanks_more tokens n =
    append_assoc tokens (replicate n (Glyph blank)) (Glyph blank ∷ [])
    ∙ ap (λ (ts : List TokenKind). tokens ++ ts) (replicate-append-replicate n 1 (Glyph blank))

module _ (z : Size) (class : Start) (p : Position) (tokens : List TokenKind) (cause : Cause)
    (fault : HasTabFault z class tokens cause) where
  -- before the first blank
  pub no_blanks : (w : TwoCellPlays) → AreKept z class p tokens w
      → AreBlanksKept z class p tokens cause fault 0 w
  no_blanks w h = record { before = omega arith; kept = rw (append-nil tokens) h }

  module _ (some : 0 < z.width) (n : ℕ) (w : TwoCellPlays)
      (h : AreBlanksKept z class p tokens cause fault n w) where
    -- at the blank that decides
    pub decided : Decides z w → n ≡ fault.blanks_before
    decided decides = elim (cases_lt n fault.blanks_before) [
      | inl less ↦ absurd (none_decides z class p some (then_blanks tokens n) w h.kept
          (printed_well z class (then_blanks tokens n) (λ c. fault.earlier n c less)) decides)
      | inr not_less ↦ omega (arith, h.before)
    ]

    module _ (prints : All PrintsByte tokens) (clean : IsClean z class tokens) where
      -- before it
      pub undecided : ¬ Decides z w → n < fault.blanks_before
      undecided not = elim (cases_lt n fault.blanks_before) [
        | inl less ↦ less
        | inr not_less ↦
            let there : n ≡ fault.blanks_before = omega (arith, h.before) in
            absurd (not (fault_decides z class p some (then_blanks tokens n) w h.kept cause
            (blanks_print tokens n prints)
            (clean_blanks z class n tokens clean (λ m c lt. fault.earlier m c (omega arith)))
            (subst (λ (m : ℕ). HasPrintFault z class (then_blanks tokens m) cause) (sym there) fault.fault)))
      ]

      -- so one blank more is clean
      pub clean_with_blank : ¬ Decides z w → IsClean z class (then_blanks tokens n ++ Glyph blank ∷ [])
      clean_with_blank not =
          let less : n < fault.blanks_before = undecided not in
          rw (blanks_more tokens n) (clean_blanks z class (n + 1) tokens clean
          (λ m c lt. fault.earlier m c (omega arith)))

  -- a tab goes on to the blank that decides
  pub within_tab : (w : TwoCellPlays) → 0 < z.width → AreKept z class p tokens w
      → fault.blanks_before < tab_blanks w.low.pen.cursor.column
  within_tab w some h =
      rw (ap (λ (v : CellPlay). v.pen.cursor.column) h.low)
      (fault.goes_on (low_start z class) (low_is_start z class some))
