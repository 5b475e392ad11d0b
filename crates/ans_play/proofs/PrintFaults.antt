-- The fault that a half-known state shows at a printed byte is the fault that it has.
use Rattle.std.proofs.Common.{◌≡◌, ◌≢◌, ◌<◌, Bool, true, false, refl, ap, arith, List, Some, None, subst}
use Rattle.std.specs.Prelude.{if◌then◌else◌, ◌==◌}
use Rattle.std.proofs.lemmas.Bool.{eqb-true, eqb-false}
use Rattle.std.proofs.lemmas.Option.{same_Some}
use Rattle.ans_model.specs.Sequence.TokenKind.{TokenKind}
use Rattle.ans_model.specs.Screen.State.{Size, State}
use Rattle.ans_model.specs.Screen.Step.{final}
use Rattle.ans_model.specs.Screen.StartClass.{IsStart, low_start}
use Rattle.ans_model.specs.declared.cell.Position.{Position}
use Rattle.ans_model.specs.declared.start.Start.{Start}
use Rattle.ans_model.specs.declared.fault.Cause.{Cause}
use Rattle.ans_model.specs.declared.fault.Cause.TheVariants.{PrintBelow, PrintUnknownPlace}
use Rattle.ans_model.specs.Verdict.TokenFault.{HasPrintFault}
use Rattle.ans_model.proofs.StartLemmas.{low_is_start}
use Rattle.ans_play.specs.HalfState.{HalfState}
use Rattle.ans_play.specs.HalfFault.{half_print_fault, is_one_position}
use Rattle.ans_play.specs.Stands.{IsKnownAfter}
use Rattle.ans_play.proofs.Allowed.{IsOnePosition}
use Rattle.ans_play.proofs.Positions.{one_position_if, one_position_then, positions_differ, positions_agree}
use Rattle.ans_play.proofs.Positions.{agree_or_differ, low_on_screen, all_in_spare_row, one_position_of_all}

-- where it shows none, the cursor stands at one position above the spare row
pub record IsPrintable (z : Size) (h : HalfState) : Type 0 where
  pub one : IsOnePosition h.cursor
  pub above : h.cursor.low.row < z.lines

module _ (z : Size) (class : Start) (played : List TokenKind) (h : HalfState) (w : 0 < z.width)
    (st : IsKnownAfter z class played h) where
  shown_by_tests : (cause : Cause) (p q : Bool) → is_one_position h.cursor ≡ p → (h.cursor.low.row == z.lines) ≡ q →
      (if p then (if q then Some PrintBelow else None) else Some PrintUnknownPlace) ≡ Some cause →
      HasPrintFault z class played cause
  shown_by_tests cause true true one bottom e =
      subst (λ (c : Cause). HasPrintFault z class played c) (same_Some PrintBelow cause e) (
        positions_agree z class played h st one,
        all_in_spare_row z class played h w st (eqb-true h.cursor.low.row z.lines bottom),
      )
  shown_by_tests cause true false one bottom e = absurd (cc)
  shown_by_tests cause false q one bottom e =
      subst (λ (c : Cause). HasPrintFault z class played c) (same_Some PrintUnknownPlace cause e)
      (positions_differ z class played h w st one)

  -- the fault that it shows is the one that a printed byte has
  pub print_has_fault : (cause : Cause) → half_print_fault z h ≡ Some cause → HasPrintFault z class played cause
  print_has_fault cause e = shown_by_tests cause (is_one_position h.cursor) (h.cursor.low.row == z.lines) refl refl e

  printable_by_tests : (p q : Bool) → is_one_position h.cursor ≡ p → (h.cursor.low.row == z.lines) ≡ q →
      (if p then (if q then Some PrintBelow else None) else Some PrintUnknownPlace) ≡ None → IsPrintable z h
  printable_by_tests true true one bottom e = absurd (cc)
  printable_by_tests true false one bottom e =
      let ne : h.cursor.low.row ≢ z.lines = eqb-false h.cursor.low.row z.lines bottom in
      record { one = one_position_if h.cursor one; above = omega (arith, low_on_screen z class played h w st) }
  printable_by_tests false q one bottom e = absurd (cc)

  pub print_is_allowed : half_print_fault z h ≡ None → IsPrintable z h
  print_is_allowed e = printable_by_tests (is_one_position h.cursor) (h.cursor.low.row == z.lines) refl refl e

  -- and there a printed byte has no fault
  pub printable_has_no_fault : (cause : Cause) → IsPrintable z h → ¬ HasPrintFault z class played cause
  printable_has_no_fault PrintUnknownPlace ok f =
      agree_or_differ z class played (positions_agree z class played h st (one_position_then h.cursor ok.one)) f
  printable_has_no_fault PrintBelow ok f =
      let low : State = low_start z class in
      let start : IsStart z class low = low_is_start z class w in
      let here : (final z low played).cursor ≡ h.cursor.low =
      one_position_of_all z class played h w st ok.one low start in
      let bottom : (final z low played).cursor.row ≡ z.lines = f.1 low start in
      omega (arith, ok.above, ap (λ (p : Position). p.row) here)
  printable_has_no_fault _ ok f = f

  pub print_has_no_fault : (cause : Cause) → half_print_fault z h ≡ None → ¬ HasPrintFault z class played cause
  print_has_no_fault cause e = printable_has_no_fault cause (print_is_allowed e)
