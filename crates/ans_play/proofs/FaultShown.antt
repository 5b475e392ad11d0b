-- The fault that a half-known state shows at a token is the token's.
use Rattle.std.proofs.Common.{◌≡◌, ℕ, ◌+◌, ◌<◌, Bool, true, false, refl, List, Some, None, inl, inr, subst}
use Rattle.std.specs.Prelude.{◌||◌, if◌then◌else◌, nat_lt, ◌==◌}
use Rattle.std.proofs.lemmas.Bool.{eqb-true, eqb-false, ltb-true, ltb-false}
use Rattle.ans_model.specs.Sequence.TokenKind.{TokenKind, Glyph, LineFeed, Tab, Place, EraseLine, Mode, Keys, Ask}
use Rattle.ans_model.specs.Screen.State.{Size}
use Rattle.ans_model.specs.declared.start.Start.{Start}
use Rattle.ans_model.specs.Verdict.TokenFault.{HasFault}
use Rattle.ans_model.specs.declared.fault.Cause.{Cause}
use Rattle.ans_model.specs.declared.fault.Cause.TheVariants.{KeyReassigned, ScreenMode, ReportAsked, OutsideScreen}
use Rattle.ans_model.specs.declared.fault.Cause.TheVariants.{Scrolls, EraseUnknownPlace, MayScroll}
use Rattle.ans_play.specs.HalfState.{HalfState}
use Rattle.ans_play.specs.HalfFault.{half_fault, is_one_position}
use Rattle.ans_play.specs.Stands.{IsKnownAfter}
use Rattle.std.proofs.lemmas.Option.{same_Some}
use Rattle.ans_play.proofs.PrintFaults.{print_has_fault}
use Rattle.ans_play.proofs.Tabs.{tab_has_fault}
use Rattle.ans_play.proofs.Positions.{positions_differ, all_in_spare_row, some_in_spare_row, some_above}

module _ (z : Size) (class : Start) (played : List TokenKind) (h : HalfState) (w : 0 < z.width)
    (st : IsKnownAfter z class played h) where
  -- each token by the tests that its fault makes
  erase_has_fault : (cause : Cause) (p : Bool) → is_one_position h.cursor ≡ p →
      (if p then None else Some EraseUnknownPlace) ≡ Some cause → HasFault z class played EraseLine cause
  erase_has_fault cause true one e = absurd (cc)
  erase_has_fault cause false one e =
      subst (λ (c : Cause). HasFault z class played EraseLine c) (same_Some EraseUnknownPlace cause e)
      (inr (positions_differ z class played h w st one))

  line_feed_has_fault : (cause : Cause) (p q : Bool) → nat_lt h.cursor.high.row z.lines ≡ p →
      (h.cursor.low.row == z.lines) ≡ q →
      (if p then None else if q then Some Scrolls else Some MayScroll) ≡ Some cause →
      HasFault z class played LineFeed cause
  line_feed_has_fault cause true q above bottom e = absurd (cc)
  line_feed_has_fault cause false true above bottom e =
      subst (λ (c : Cause). HasFault z class played LineFeed c) (same_Some Scrolls cause e)
      (inr (all_in_spare_row z class played h w st (eqb-true h.cursor.low.row z.lines bottom)))
  line_feed_has_fault cause false false above bottom e =
      subst (λ (c : Cause). HasFault z class played LineFeed c) (same_Some MayScroll cause e)
      (inr (
        some_in_spare_row z class played h w st (ltb-false h.cursor.high.row z.lines above),
        some_above z class played h w st (eqb-false h.cursor.low.row z.lines bottom),
      ))

  place_has_fault : (row column : ℕ) (cause : Cause) (p q : Bool) → nat_lt (z.lines + 1) row ≡ p →
      nat_lt z.width column ≡ q →
      (if p || q then Some OutsideScreen else None) ≡ Some cause → HasFault z class played (Place row column) cause
  place_has_fault row column cause true q r c e =
      subst (λ (c : Cause). HasFault z class played (Place row column) c) (same_Some OutsideScreen cause e)
      (inl (inl (ltb-true (z.lines + 1) row r)))
  place_has_fault row column cause false true r c e =
      subst (λ (c : Cause). HasFault z class played (Place row column) c) (same_Some OutsideScreen cause e)
      (inl (inr (ltb-true z.width column c)))
  place_has_fault row column cause false false r c e = absurd (cc)

  -- the fault that it shows is the token's
  pub token_has_fault : (t : TokenKind) (cause : Cause) → half_fault z h t ≡ Some cause
      → HasFault z class played t cause
  token_has_fault Keys cause e = subst (λ (c : Cause). HasFault z class played Keys c) (same_Some KeyReassigned cause e)
      (inl tt)
  token_has_fault Mode cause e = subst (λ (c : Cause). HasFault z class played Mode c) (same_Some ScreenMode cause e)
      (inl tt)
  token_has_fault Ask cause e = subst (λ (c : Cause). HasFault z class played Ask c) (same_Some ReportAsked cause e)
      (inl tt)
  token_has_fault Tab cause e = inr (tab_has_fault z class played h w st cause e)
  token_has_fault (Place row column) cause e =
      place_has_fault row column cause (nat_lt (z.lines + 1) row) (nat_lt z.width column) refl refl e
  token_has_fault (Glyph b) cause e = inr (print_has_fault z class played h w st cause e)
  token_has_fault EraseLine cause e = erase_has_fault cause (is_one_position h.cursor) refl e
  token_has_fault LineFeed cause e = line_feed_has_fault cause (nat_lt h.cursor.high.row z.lines)
      (h.cursor.low.row == z.lines) refl refl e
  token_has_fault _ cause e = absurd (cc)
