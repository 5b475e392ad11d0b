-- A tab is played as its blanks: what is known after them, and the fault of the first that has one.
use Rattle.std.proofs.Common.{◌≡◌, ℕ, zero, suc, ◌<◌, Bool, true, false, refl, sym, ap, ◌∙◌, arith, inl, inr}
use Rattle.std.proofs.Common.{List, [], ◌∷◌, ◌++◌, Option, Some, None, subst, lit<}
use Rattle.std.specs.Option.{option_or}
use Rattle.std.proofs.lemmas.Bool.{cases_eq}
use Rattle.std.proofs.lemmas.List.{append-nil}
use Rattle.ans_model.specs.Bytes.{blank}
use Rattle.ans_model.specs.Sequence.TokenKind.{TokenKind, Glyph, Tab}
use Rattle.ans_model.specs.declared.cell.Position.{Position}
use Rattle.ans_model.specs.declared.fault.Cause.{Cause}
use Rattle.ans_model.specs.declared.fault.Cause.TheVariants.{PrintUnknownPlace}
use Rattle.ans_model.specs.declared.start.Start.{Start}
use Rattle.ans_model.specs.Screen.State.{Size, State}
use Rattle.ans_model.specs.Screen.Step.{final, tab_blanks}
use Rattle.ans_model.specs.Screen.StartClass.{IsStart, low_start, high_start}
use Rattle.ans_model.specs.Verdict.TokenFault.{HasPrintFault, HasTabFault, then_blanks, TabGoesOn, FromEvery}
use Rattle.ans_model.proofs.StartLemmas.{low_is_start, high_is_start}
use Rattle.ans_model.proofs.CleanLemmas.{some_blanks}
use Rattle.ans_model.proofs.TabLemmas.{final_with_tab}
use Rattle.ans_play.specs.HalfState.{HalfState}
use Rattle.ans_play.specs.HalfStep.{half_put, half_blanks}
use Rattle.ans_play.specs.HalfFault.{half_print_fault, half_blanks_fault, is_one_position}
use Rattle.ans_play.specs.Stands.{IsKnownAfter}
use Rattle.ans_play.proofs.Clean.{one_blank_first}
use Rattle.ans_play.proofs.KnownAfter.{known_more}
use Rattle.ans_play.proofs.Positions.{one_position_if, one_position_of_all, positions_differ}
use Rattle.ans_play.proofs.PrintFaults.{IsPrintable, print_has_fault, print_is_allowed, print_has_no_fault}

-- where the first of two options is none, the two are the second
pub or_none : (o p : Option Cause) → o ≡ None → option_or o p ≡ p
or_none o p e = rw e refl

-- the first of n blanks that has a fault
record IsFirstBlankFault (z : Size) (class : Start) (played : List TokenKind) (n : ℕ) (cause : Cause) : Type 0 where
  before : ℕ
  within : before < n
  earlier : (m : ℕ) (c : Cause) → m < before → ¬ HasPrintFault z class (then_blanks played m) c
  fault : HasPrintFault z class (then_blanks played before) cause

module _ (z : Size) (class : Start) (w : 0 < z.width) where
  -- no blank is printed yet
  fault_at_none : (played : List TokenKind) (c : Cause) → HasPrintFault z class played c →
      HasPrintFault z class (then_blanks played 0) c
  fault_at_none played c f = subst (λ (ts : List TokenKind). HasPrintFault z class ts c) (sym (append-nil played)) f

  none_at_none : (played : List TokenKind) (c : Cause) → ¬ HasPrintFault z class played c →
      ¬ HasPrintFault z class (then_blanks played 0) c
  none_at_none played c none f =
      none (subst (λ (ts : List TokenKind). HasPrintFault z class ts c) (append-nil played) f)

  -- after one blank that has no fault
  pub one_blank_known : (played : List TokenKind) (h : HalfState) → IsKnownAfter z class played h →
      half_print_fault z h ≡ None → IsKnownAfter z class (played ++ Glyph blank ∷ []) (half_put z h blank)
  one_blank_known played h st e =
      let ok : IsPrintable z h = print_is_allowed z class played h w st e in
      known_more z class played h (Glyph blank) w (lit< tt) st (ok.one, ok.above)

  -- of two blanks and more, the first has no fault where none has
  pub first_has_none : (h : HalfState) (n : ℕ) (o : Option Cause) → half_print_fault z h ≡ o →
      option_or o (half_blanks_fault z (half_put z h blank) n) ≡ None → half_print_fault z h ≡ None
  first_has_none h n None shown e = shown
  first_has_none h n (Some c) shown e = absurd (cc)

  -- nor have the others
  pub others_have_none : (h : HalfState) (n : ℕ) → half_print_fault z h ≡ None →
      half_blanks_fault z h (suc n) ≡ None → half_blanks_fault z (half_put z h blank) n ≡ None
  others_have_none h n none e =
      sym (or_none (half_print_fault z h) (half_blanks_fault z (half_put z h blank) n) none) ∙ e

  -- after n blanks of which none has a fault
  blanks_known : (n : ℕ) (played : List TokenKind) (h : HalfState) → IsKnownAfter z class played h →
      half_blanks_fault z h n ≡ None → IsKnownAfter z class (then_blanks played n) (half_blanks z h n)
  blanks_known zero played h st e =
      subst (λ (ts : List TokenKind). IsKnownAfter z class ts h) (sym (append-nil played)) st
  blanks_known (suc n) played h st e =
      let none : half_print_fault z h ≡ None = first_has_none h n (half_print_fault z h) refl e in
      subst (λ (ts : List TokenKind). IsKnownAfter z class ts (half_blanks z h (suc n))) (one_blank_first played n)
      (blanks_known n (played ++ Glyph blank ∷ []) (half_put z h blank) (one_blank_known played h st none)
      (others_have_none h n none e))

  -- and then none has one
  blanks_have_none : (n : ℕ) (played : List TokenKind) (h : HalfState) → IsKnownAfter z class played h →
      half_blanks_fault z h n ≡ None → (m : ℕ) (c : Cause) → m < n → ¬ HasPrintFault z class (then_blanks played m) c
  blanks_have_none zero played h st e m c lt f = absurd (let no : ⊥ = omega arith in no)
  blanks_have_none (suc n) played h st e zero c lt f =
      none_at_none played c
      (print_has_no_fault z class played h w st c (first_has_none h n (half_print_fault z h) refl e)) f
  blanks_have_none (suc n) played h st e (suc m) c lt f =
      let none : half_print_fault z h ≡ None = first_has_none h n (half_print_fault z h) refl e in
      blanks_have_none n (played ++ Glyph blank ∷ []) (half_put z h blank) (one_blank_known played h st none)
      (others_have_none h n none e) m c (omega arith)
      (subst (λ (ts : List TokenKind). HasPrintFault z class ts c) (sym (one_blank_first played m)) f)

  -- the fault that is shown at n blanks is that of the first that has one
  blanks_have_fault : (n : ℕ) (played : List TokenKind) (h : HalfState) (cause : Cause) →
      IsKnownAfter z class played h → half_blanks_fault z h n ≡ Some cause →
      IsFirstBlankFault z class played n cause
  blanks_have_fault zero played h cause st e = absurd (cc)
  blanks_have_fault (suc n) played h cause st e = by_first (half_print_fault z h) refl e
      (λ none rest. blanks_have_fault n (played ++ Glyph blank ∷ []) (half_put z h blank) cause
      (one_blank_known played h st none) rest)
    where
      by_first : (o : Option Cause) → half_print_fault z h ≡ o →
          option_or o (half_blanks_fault z (half_put z h blank) n) ≡ Some cause →
          (half_print_fault z h ≡ None → half_blanks_fault z (half_put z h blank) n ≡ Some cause →
          IsFirstBlankFault z class (played ++ Glyph blank ∷ []) n cause) →
          IsFirstBlankFault z class played (suc n) cause
      by_first (Some c) shown e later = record {
        before = 0;
        within = omega arith;
        earlier = λ m d lt. absurd (let no : ⊥ = omega arith in no);
        fault = fault_at_none played cause (print_has_fault z class played h w st cause (shown ∙ e));
      }
      by_first None shown e later =
          let rest : IsFirstBlankFault z class (played ++ Glyph blank ∷ []) n cause = later shown e in
          record {
            before = suc rest.before;
            within = omega (arith, rest.within);
            earlier = earlier_too rest;
            fault = subst (λ (ts : List TokenKind). HasPrintFault z class ts cause)
                (one_blank_first played rest.before) rest.fault;
          }
        where
          earlier_too : (rest : IsFirstBlankFault z class (played ++ Glyph blank ∷ []) n cause) → (m : ℕ) (c : Cause) →
              m < suc rest.before → ¬ HasPrintFault z class (then_blanks played m) c
          earlier_too rest zero c lt f = none_at_none played c (print_has_no_fault z class played h w st c shown) f
          earlier_too rest (suc m) c lt f =
              rest.earlier m c (omega arith)
              (subst (λ (ts : List TokenKind). HasPrintFault z class ts c) (sym (one_blank_first played m)) f)

module _ (z : Size) (class : Start) (played : List TokenKind) (h : HalfState) (w : 0 < z.width)
    (st : IsKnownAfter z class played h) where
  -- at one position, a tab prints the same blanks from every start
  same_column : is_one_position h.cursor ≡ true → (s : State) → IsStart z class s →
      (final z s played).cursor.column ≡ h.cursor.low.column
  same_column one s start = ap (λ (p : Position). p.column)
      (one_position_of_all z class played h w st (one_position_if h.cursor one) s start)

  goes_on : (cause : Cause) (f : IsFirstBlankFault z class played (tab_blanks h.cursor.low.column) cause) (p : Bool) →
      is_one_position h.cursor ≡ p → FromEvery z class (TabGoesOn z played f.before)
  goes_on cause f true one s start = rw (same_column one s start) f.within
  goes_on cause f false one s start = elim (cases_eq f.before 0) [
    | inl none ↦ rw none (some_blanks (final z s played).cursor.column)
    | inr some ↦ absurd (f.earlier 0 PrintUnknownPlace (omega arith)
        (fault_at_none z class w played PrintUnknownPlace (positions_differ z class played h w st one)))
  ]

  -- the fault that is shown at a tab is the tab's
  pub tab_has_fault : (cause : Cause) → half_blanks_fault z h (tab_blanks h.cursor.low.column) ≡ Some cause →
      HasTabFault z class played cause
  tab_has_fault cause e =
      let f : IsFirstBlankFault z class played (tab_blanks h.cursor.low.column) cause =
      blanks_have_fault z class w (tab_blanks h.cursor.low.column) played h cause st e in
      record {
        blanks_before = f.before;
        goes_on = goes_on cause f (is_one_position h.cursor) refl;
        earlier = f.earlier;
        fault = f.fault;
      }

  -- where some blanks show no fault, the cursor stands at one position
  pub printable : (n : ℕ) → 0 < n → half_blanks_fault z h n ≡ None → IsPrintable z h
  printable zero some e = absurd (let no : ⊥ = omega arith in no)
  printable (suc n) some e =
      print_is_allowed z class played h w st (first_has_none z class w h n (half_print_fault z h) refl e)

  -- so it stands before a tab that shows no fault
  at_tab : half_blanks_fault z h (tab_blanks h.cursor.low.column) ≡ None → (s : State) → IsStart z class s →
      (final z s played).cursor ≡ h.cursor.low
  at_tab e s start =
      one_position_of_all z class played h w st
      (printable (tab_blanks h.cursor.low.column) (some_blanks h.cursor.low.column) e).one s start

  -- a tab that shows no fault has none
  pub tab_has_no_fault : (cause : Cause) → half_blanks_fault z h (tab_blanks h.cursor.low.column) ≡ None →
      ¬ HasTabFault z class played cause
  tab_has_no_fault cause e f =
      let low : State = low_start z class in
      let start : IsStart z class low = low_is_start z class w in
      let within : f.blanks_before < tab_blanks h.cursor.low.column =
      rw (at_tab e low start) at (f.goes_on low start) in
      blanks_have_none z class w (tab_blanks h.cursor.low.column) played h st e f.blanks_before cause within f.fault

  -- after a tab the state is as after its blanks
  as_after_blanks : half_blanks_fault z h (tab_blanks h.cursor.low.column) ≡ None → (s : State) → IsStart z class s →
      final z s (then_blanks played (tab_blanks h.cursor.low.column)) ≡ final z s (played ++ Tab ∷ [])
  as_after_blanks e s start =
      ap (λ (p : Position). final z s (then_blanks played (tab_blanks p.column))) (sym (at_tab e s start))
      ∙ sym (final_with_tab z s played)

  -- and what is known after a tab that shows no fault is what is known after its blanks
  pub known_tab : half_blanks_fault z h (tab_blanks h.cursor.low.column) ≡ None →
      IsKnownAfter z class (played ++ Tab ∷ []) (half_blanks z h (tab_blanks h.cursor.low.column))
  known_tab e =
      let n : ℕ = tab_blanks h.cursor.low.column in
      let k : IsKnownAfter z class (then_blanks played n) (half_blanks z h n) =
      blanks_known z class w n played h st e in
      record {
        is_hull = rw (
          ← as_after_blanks e (low_start z class) (low_is_start z class w),
          ← as_after_blanks e (high_start z class) (high_is_start z class w),
        ) k.is_hull;
        describes = λ s start. rw (← as_after_blanks e s start) (k.describes s start);
        well_formed = λ s start. rw (← as_after_blanks e s start) (k.well_formed s start);
      }
