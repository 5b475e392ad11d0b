-- What is known after clean tokens from two classes, and what both know: it is what is known from the class that knows
-- what both know.
use Rattle.std.proofs.Common.{◌≡◌, ℕ, zero, suc, ◌+◌, ◌<◌, ◌≤◌, Bool, true, false, refl, sym, ap, ◌∙◌, arith}
use Rattle.std.proofs.Common.{List, [], ◌∷◌, ◌++◌, length, take, get_or, replicate, All, Option, Some, None, subst}
use Rattle.std.specs.Prelude.{◌&&◌}
use Rattle.std.proofs.lemmas.List.{take_more, take_all}
use Rattle.std.proofs.lemmas.List.Elements.{All-get_or}
use Rattle.std.proofs.lemmas.Option.{slice_get-get_or}
use Rattle.ans_model.specs.Bytes.{blank}
use Rattle.ans_model.specs.Sequence.TokenKind.{TokenKind, PrintsByte, Glyph, LineFeed, EraseLine, Bell, Tab}
use Rattle.ans_model.specs.Screen.State.{Size, cell_count}
use Rattle.ans_model.specs.Screen.Step.{tab_blanks}
use Rattle.ans_model.specs.Screen.StartClass.{all_known, both_known, cleared, IsStart}
use Rattle.ans_model.specs.Verdict.TokenFault.{IsClean}
use Rattle.ans_model.specs.declared.fault.Cause.{Cause}
use Rattle.ans_model.specs.declared.cell.Position.{Position}
use Rattle.ans_model.specs.declared.start.Start.{Start}
use Rattle.ans_model.proofs.ClassLemmas.{covers_starts}
use Rattle.ans_model.proofs.CleanLemmas.{some_blanks}
use Rattle.ans_model.proofs.PositionLemmas.{same_position}
use Rattle.ans_model.proofs.StartLemmas.{low_is_start}
use Rattle.ans_screen.specs.declared.cell.HalfCell.{HalfCell}
use Rattle.ans_play.specs.HalfState.{HalfState}
use Rattle.ans_play.specs.HalfStart.{start_cell, start_span, start_attribute, start_wrap, half_start}
use Rattle.ans_play.specs.HalfStep.{half_put, half_blanks, half_step}
use Rattle.ans_play.specs.HalfFault.{half_print_fault, half_blanks_fault, half_fault}
use Rattle.ans_play.specs.Meet.{meet_bits, meet_cell, meet_span, meet_wrap, meet}
use Rattle.ans_play.specs.Stands.{IsKnownAfter}
use Rattle.ans_play.proofs.Allowed.{IsOnePosition, IsOneStep, IsAllowed}
use Rattle.ans_play.proofs.Clean.{clean_none, clean_more}
use Rattle.ans_play.proofs.FaultShown.{token_has_fault}
use Rattle.ans_play.proofs.KnownAfter.{known_at_start, known_fits}
use Rattle.ans_play.proofs.MeetSteps.{same_half, meet_step}
use Rattle.ans_play.proofs.NoFaultShown.{token_is_allowed, token_has_no_fault, known_next, allowed_shows_none}
use Rattle.ans_play.proofs.PairedScreens.{paired-replicate}
use Rattle.ans_play.proofs.Positions.{one_position_of_all}
use Rattle.ans_play.proofs.SpanLemmas.{same_span}
use Rattle.ans_play.proofs.Tabs.{or_none, one_blank_known, first_has_none, others_have_none, printable}

-- ---- at the start
meet_start_cell : (a b : Bool) → meet_cell (start_cell a) (start_cell b) ≡ start_cell (a && b)
meet_start_cell true true = refl
meet_start_cell true false = refl
meet_start_cell false true = refl
meet_start_cell false false = refl

meet_start_span : (z : Size) (a b : Bool) → meet_span (start_span z a) (start_span z b) ≡ start_span z (a && b)
meet_start_span z true true = refl
meet_start_span z true false = same_span (omega arith) (omega arith) (omega arith) (omega arith)
meet_start_span z false true = same_span (omega arith) (omega arith) (omega arith) (omega arith)
meet_start_span z false false = same_span (omega arith) (omega arith) (omega arith) (omega arith)

meet_start_attribute : (a b : Bool) → meet_bits (start_attribute a) (start_attribute b) ≡ start_attribute (a && b)
meet_start_attribute true true = refl
meet_start_attribute true false = refl
meet_start_attribute false true = refl
meet_start_attribute false false = refl

meet_start_wrap : (a b : Bool) → meet_wrap (start_wrap a) (start_wrap b) ≡ start_wrap (a && b)
meet_start_wrap true true = refl
meet_start_wrap true false = refl
meet_start_wrap false true = refl
meet_start_wrap false false = refl

meet_half_start : (z : Size) (a b : Start) → meet (half_start z a) (half_start z b) ≡ half_start z (both_known a b)
meet_half_start z a b =
    same_half
    (paired-replicate meet_cell (cell_count z) (start_cell a.screen) (start_cell b.screen)
    ∙ ap (λ (c : HalfCell). replicate (cell_count z) c) (meet_start_cell a.screen b.screen))
    (meet_start_span z a.cursor b.cursor)
    (meet_start_span z a.saved b.saved)
    (meet_start_attribute a.colours b.colours)
    (meet_start_wrap a.wrap b.wrap)

-- ---- two classes
-- the cleared state is a start of every class
pub cleared_is_start : (z : Size) (class : Start) → 0 < z.width → IsStart z class (cleared z)
cleared_is_start z class w =
    covers_starts z class all_known (cleared z)
    (record { screen = λ k. refl; cursor = λ k. refl; saved = λ k. refl; colours = λ k. refl; wrap = λ k. refl })
    (low_is_start z all_known w)

-- where each of two states stands at one position, and at the same, both together do
meet_one_position : (g h : HalfState) → IsOnePosition g.cursor → IsOnePosition h.cursor →
    g.cursor.low ≡ h.cursor.low → IsOnePosition (meet g h).cursor
meet_one_position g h one_g one_h same =
    same_position _ _
    (omega (
      arith,
      ap (λ (p : Position). p.row) one_g,
      ap (λ (p : Position). p.row) one_h,
      ap (λ (p : Position). p.row) same,
    ))
    (omega (
      arith,
      ap (λ (p : Position). p.column) one_g,
      ap (λ (p : Position). p.column) one_h,
      ap (λ (p : Position). p.column) same,
    ))

-- and what is allowed in each is allowed in what both know
meet_allowed : (z : Size) (g h : HalfState) (t : TokenKind) →
    (IsOnePosition g.cursor → IsOnePosition h.cursor → g.cursor.low ≡ h.cursor.low) → IsAllowed z g t →
    IsAllowed z h t → IsAllowed z (meet g h) t
meet_allowed z g h (Glyph byte) same j k =
    (meet_one_position g h j.0 k.0 (same j.0 k.0), omega (arith, j.1))
meet_allowed z g h EraseLine same j k = meet_one_position g h j k (same j k)
meet_allowed z g h LineFeed same j k = omega (arith, j, k)
meet_allowed z g h Tab same j k = j
meet_allowed z g h _ same j k = tt

-- where neither state shows a fault at the token, what both know shows none, and is after it what both know then
record MeetsAt (z : Size) (g h : HalfState) (t : TokenKind) : Type 0 where
  shows_none : half_fault z (meet g h) t ≡ None
  step : meet (half_step z g t) (half_step z h t) ≡ half_step z (meet g h) t

module _ (z : Size) (a b : Start) (w : 0 < z.width) where
  -- both describe the play from the cleared start
  same_place : (played : List TokenKind) (g h : HalfState) → IsKnownAfter z a played g → IsKnownAfter z b played h →
      IsOnePosition g.cursor → IsOnePosition h.cursor → g.cursor.low ≡ h.cursor.low
  same_place played g h p q one_g one_h =
      sym (one_position_of_all z a played g w p one_g (cleared z) (cleared_is_start z a w))
      ∙ one_position_of_all z b played h w q one_h (cleared z) (cleared_is_start z b w)

  -- ---- one token
  -- any token but a tab is one step
  meet_one_step : (t : TokenKind) (played : List TokenKind) (g h : HalfState) → IsOneStep t →
      IsKnownAfter z a played g → IsKnownAfter z b played h → half_fault z g t ≡ None → half_fault z h t ≡ None →
      MeetsAt z g h t
  meet_one_step t played g h one p q e f =
      let ok : IsAllowed z (meet g h) t = meet_allowed z g h t (same_place played g h p q)
      (token_is_allowed z a played g w p t one e) (token_is_allowed z b played h w q t one f) in
      record {
        shows_none = allowed_shows_none z g (meet g h) t ok e;
        step = meet_step z g h (known_fits z a played g w p) (known_fits z b played h w q) t ok;
      }

  -- n blanks
  meet_blanks : (n : ℕ) (played : List TokenKind) (g h : HalfState) → IsKnownAfter z a played g →
      IsKnownAfter z b played h → half_blanks_fault z g n ≡ None → half_blanks_fault z h n ≡ None →
      (half_blanks_fault z (meet g h) n ≡ None)
      × (meet (half_blanks z g n) (half_blanks z h n) ≡ half_blanks z (meet g h) n)
  meet_blanks zero played g h p q e f = (refl, refl)
  meet_blanks (suc n) played g h p q e f =
      let none_g : half_print_fault z g ≡ None = first_has_none z a w g n (half_print_fault z g) refl e in
      let none_h : half_print_fault z h ≡ None = first_has_none z b w h n (half_print_fault z h) refl f in
      let put : MeetsAt z g h (Glyph blank) = meet_one_step (Glyph blank) played g h tt p q none_g none_h in
      let rest : (half_blanks_fault z (meet (half_put z g blank) (half_put z h blank)) n ≡ None)
      × (meet (half_blanks z g (suc n)) (half_blanks z h (suc n))
      ≡ half_blanks z (meet (half_put z g blank) (half_put z h blank)) n) =
      meet_blanks n (played ++ Glyph blank ∷ []) (half_put z g blank) (half_put z h blank)
      (one_blank_known z a w played g p none_g) (one_blank_known z b w played h q none_h)
      (others_have_none z a w g n none_g e) (others_have_none z b w h n none_h f) in (
        or_none _ _ put.shows_none ∙ ap (λ (k : HalfState). half_blanks_fault z k n) (sym put.step) ∙ rest.0,
        rest.1 ∙ ap (λ (k : HalfState). half_blanks z k n) put.step,
      )

  -- a tab prints as many blanks after both
  meet_tab : (played : List TokenKind) (g h : HalfState) → IsKnownAfter z a played g → IsKnownAfter z b played h →
      half_fault z g Tab ≡ None → half_fault z h Tab ≡ None → MeetsAt z g h Tab
  meet_tab played g h p q e f =
      let same : g.cursor.low.column ≡ h.cursor.low.column = ap (λ (x : Position). x.column)
      (same_place played g h p q
      (printable z a played g w p (tab_blanks g.cursor.low.column) (some_blanks g.cursor.low.column) e).one
      (printable z b played h w q (tab_blanks h.cursor.low.column) (some_blanks h.cursor.low.column) f).one) in
      let n : ℕ = tab_blanks h.cursor.low.column in
      let as_g : tab_blanks g.cursor.low.column ≡ n = ap (λ (k : ℕ). tab_blanks k) same in
      let as_meet : tab_blanks (meet g h).cursor.low.column ≡ n =
      ap (λ (k : ℕ). tab_blanks k) (omega (arith, same)) in
      let both = meet_blanks n played g h p q (rw as_g at e) f in
      record { shows_none = rw as_meet both.0; step = rw (as_g, as_meet) both.1 }

  -- so any token
  meet_next : (t : TokenKind) (played : List TokenKind) (g h : HalfState) → IsKnownAfter z a played g →
      IsKnownAfter z b played h → half_fault z g t ≡ None → half_fault z h t ≡ None → MeetsAt z g h t
  meet_next Tab played g h p q e f = meet_tab played g h p q e f
  meet_next t played g h p q e f = meet_one_step t played g h tt p q e f

-- ---- along tokens
-- what is known after tokens from each class, and from the class that knows what both know
pub record IsKnownFromBoth (z : Size) (a b : Start) (played : List TokenKind) : Type 0 where
  pub g : HalfState
  pub h : HalfState
  pub known_g : IsKnownAfter z a played g
  pub known_h : IsKnownAfter z b played h
  pub clean : IsClean z (both_known a b) played
  pub known : IsKnownAfter z (both_known a b) played (meet g h)

-- before any token
none_from_both : (z : Size) (a b : Start) → IsKnownFromBoth z a b []
none_from_both z a b = record {
  g = half_start z a;
  h = half_start z b;
  known_g = known_at_start z a;
  known_h = known_at_start z b;
  clean = clean_none z (both_known a b);
  known = subst (λ (k : HalfState). IsKnownAfter z (both_known a b) [] k) (sym (meet_half_start z a b))
      (known_at_start z (both_known a b));
}

-- after one token more that shows no fault from either class
more_from_both : (z : Size) (a b : Start) (played : List TokenKind) (t : TokenKind) → 0 < z.width → PrintsByte t →
    (s : IsKnownFromBoth z a b played) → half_fault z s.g t ≡ None → half_fault z s.h t ≡ None →
    IsKnownFromBoth z a b (played ++ t ∷ [])
more_from_both z a b played t w byte s e f =
    let m : MeetsAt z s.g s.h t = meet_next z a b w t played s.g s.h s.known_g s.known_h e f in
    record {
      g = half_step z s.g t;
      h = half_step z s.h t;
      known_g = known_next z a played s.g w s.known_g t byte e;
      known_h = known_next z b played s.h w s.known_h t byte f;
      clean = clean_more z (both_known a b) played t s.clean (λ cause.
          token_has_no_fault z (both_known a b) played (meet s.g s.h) w s.known t cause m.shows_none);
      known = subst (λ (k : HalfState). IsKnownAfter z (both_known a b) (played ++ t ∷ []) k) (sym m.step)
          (known_next z (both_known a b) played (meet s.g s.h) w s.known t byte m.shows_none);
    }

-- at a clean token no fault is shown
shows_none : (z : Size) (class : Start) (tokens : List TokenKind) (n : ℕ) (h : HalfState) (o : Option Cause) →
    0 < z.width → IsClean z class tokens → n < length tokens → IsKnownAfter z class (take n tokens) h →
    half_fault z h (get_or tokens n Bell) ≡ o → half_fault z h (get_or tokens n Bell) ≡ None
shows_none z class tokens n h None w clean lt st e = e
shows_none z class tokens n h (Some cause) w clean lt st e = absurd (clean n cause (
  get_or tokens n Bell,
  slice_get-get_or tokens n Bell lt,
  token_has_fault z class (take n tokens) h w st (get_or tokens n Bell) cause e,
))

module _ (z : Size) (a b : Start) (w : 0 < z.width) (tokens : List TokenKind) (prints : All PrintsByte tokens)
    (clean_a : IsClean z a tokens) (clean_b : IsClean z b tokens) where
  -- the first n tokens
  from_both_to : (n : ℕ) → n ≤ length tokens → IsKnownFromBoth z a b (take n tokens)
  from_both_to zero le = none_from_both z a b
  from_both_to (suc n) le =
      let s : IsKnownFromBoth z a b (take n tokens) = from_both_to n (omega arith) in
      let t : TokenKind = get_or tokens n Bell in
      let more : take (n + 1) tokens ≡ take n tokens ++ t ∷ [] = take_more tokens n Bell (omega arith) in
      let next : n + 1 ≡ suc n = omega arith in
      subst (λ (ts : List TokenKind). IsKnownFromBoth z a b ts) (sym more ∙ ap (λ (k : ℕ). take k tokens) next)
      (more_from_both z a b (take n tokens) t w (All-get_or PrintsByte tokens n Bell (omega arith) prints) s
      (shows_none z a tokens n s.g (half_fault z s.g t) w clean_a (omega arith) s.known_g refl)
      (shows_none z b tokens n s.h (half_fault z s.h t) w clean_b (omega arith) s.known_h refl))

  -- tokens that are clean from both classes are clean from the class that knows what both know
  pub from_both : IsKnownFromBoth z a b tokens
  from_both =
      subst (λ (ts : List TokenKind). IsKnownFromBoth z a b ts) (take_all (length tokens) tokens (omega arith))
      (from_both_to (length tokens) (omega arith))
