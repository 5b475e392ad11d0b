-- A token has one fault at most, and from the one cleared start a certain one.
use Rattle.std.proofs.Common.{◌≡◌, ◌⊎◌, ℕ, inl, inr, refl, ap, sym, ◌∙◌, arith, subst, Option, Some, None, List}
use Rattle.std.specs.Prelude.{IfSome}
use Rattle.std.proofs.lemmas.Bool.{cases_lt}
use Rattle.ans_model.specs.Sequence.TokenKind.{TokenKind, Glyph, LineFeed, EraseLine, Tab, Place, Mode, Keys, Ask}
use Rattle.ans_model.specs.declared.fault.Cause.{Cause}
use Rattle.ans_model.specs.declared.fault.Cause.TheVariants.{KeyReassigned, ScreenMode, ReportAsked}
use Rattle.ans_model.specs.declared.fault.Cause.TheVariants.{OutsideScreen, PrintBelow, Scrolls, PrintUnknownPlace}
use Rattle.ans_model.specs.declared.fault.Cause.TheVariants.{EraseUnknownPlace, MayScroll}
use Rattle.ans_model.specs.Verdict.Certain.{IsCertain}
use Rattle.ans_model.specs.Screen.State.{Size, State}
use Rattle.ans_model.specs.Screen.StartClass.{all_known, cleared, IsStart}
use Rattle.ans_model.specs.declared.start.Start.{Start}
use Rattle.ans_model.specs.Screen.Step.{final}
use Rattle.ans_model.specs.Verdict.TokenFault.{HasStaticFault, HasPrintFault, HasTabFault, HasFaultAfter, HasFault}
use Rattle.ans_model.specs.Verdict.TokenFault.{FromEvery, FromSome, then_blanks}
use Rattle.ans_model.specs.Verdict.TokenFault.{SamePosition, PositionsDiffer, IsInSpareRow}

-- ---- static faults
static_cause : TokenKind → Option Cause
static_cause Keys = Some KeyReassigned
static_cause Mode = Some ScreenMode
static_cause Ask = Some ReportAsked
static_cause (Place row column) = Some OutsideScreen
static_cause _ = None

-- a static fault is the one of its kind
cause_of_static_fault : (z : Size) (t : TokenKind) (c : Cause) → HasStaticFault z t c → static_cause t ≡ Some c
unfolding static_cause
cause_of_static_fault z Keys KeyReassigned h = refl
cause_of_static_fault z Mode ScreenMode h = refl
cause_of_static_fault z Ask ReportAsked h = refl
cause_of_static_fault z (Place row column) OutsideScreen h = refl
cause_of_static_fault z _ _ h = absurd h

-- it is certain
static_certain : (t : TokenKind) → IfSome (static_cause t) IsCertain
unfolding static_cause
static_certain Keys = tt
static_certain Mode = tt
static_certain Ask = tt
static_certain (Place row column) = tt
static_certain _ = tt

-- ---- faults that depend on what was played
-- what a fault of printing says of the starts
fault_of_print_after : (z : Size) (class : Start) (played : List TokenKind) (c : Cause)
    → HasPrintFault z class played c
    → ((c ≡ PrintUnknownPlace) × PositionsDiffer z class played) ⊎ ((c ≡ PrintBelow) × SamePosition z class played)
fault_of_print_after z class played PrintUnknownPlace h = inl (refl, h)
fault_of_print_after z class played PrintBelow h = inr (refl, h.0)
fault_of_print_after z class played _ h = absurd h

-- what a fault of erasing says of the starts
fault_of_erasing_after : (z : Size) (class : Start) (played : List TokenKind) (c : Cause)
    → HasFaultAfter z class played EraseLine c → (c ≡ EraseUnknownPlace) × PositionsDiffer z class played
fault_of_erasing_after z class played EraseUnknownPlace h = (refl, h)
fault_of_erasing_after z class played _ h = absurd h

-- from some starts the cursor stands in the spare row, from others it does not
abbrev MayStandInSpareRow : Size → Start → List TokenKind → Type 0
MayStandInSpareRow z class played = FromSome z class (IsInSpareRow z played)
    × FromSome z class (λ s. ¬ IsInSpareRow z played s)

-- what a fault of a line feed says of the starts
fault_of_line_feed_after : (z : Size) (class : Start) (played : List TokenKind) (c : Cause)
    → HasFaultAfter z class played LineFeed c
    → ((c ≡ Scrolls) × FromEvery z class (IsInSpareRow z played))
    ⊎ ((c ≡ MayScroll) × MayStandInSpareRow z class played)
fault_of_line_feed_after z class played Scrolls h = inl (refl, h)
fault_of_line_feed_after z class played MayScroll h = inr (refl, h)
fault_of_line_feed_after z class played _ h = absurd h

-- what has such a fault has no static one
after_not_static : (z : Size) (class : Start) (played : List TokenKind) (t : TokenKind) (c : Cause)
    → HasFaultAfter z class played t c → static_cause t ≡ None
unfolding static_cause
after_not_static z class played (Glyph byte) c h = refl
after_not_static z class played Tab c h = refl
after_not_static z class played EraseLine c h = refl
after_not_static z class played LineFeed c h = refl
after_not_static z class played _ c h = absurd h

-- ---- one cause
not_same_and_different_position : (z : Size) (class : Start) (played : List TokenKind) → PositionsDiffer z class played
    → SamePosition z class played → ⊥
not_same_and_different_position z class played h g = h.4 (g h.0 h.1 h.2 h.3)

-- a cursor is not in the spare row both always and not always
not_always_and_sometimes_in_spare_row : (z : Size) (class : Start) (played : List TokenKind)
    → FromEvery z class (IsInSpareRow z played)
    → MayStandInSpareRow z class played → ⊥
not_always_and_sometimes_in_spare_row z class played h g = g.1.2 (h g.1.0 g.1.1)

-- of two causes that exclude each other one stands
one_of_two : {A B : Type 0} (a b c d : Cause) → (A → B → ⊥) → ((c ≡ a) × A) ⊎ ((c ≡ b) × B)
    → ((d ≡ a) × A) ⊎ ((d ≡ b) × B) → c ≡ d
one_of_two a b c d never (inl h) (inl g) = h.0 ∙ sym g.0
one_of_two a b c d never (inl h) (inr g) = absurd (never h.1 g.1)
one_of_two a b c d never (inr h) (inl g) = absurd (never g.1 h.1)
one_of_two a b c d never (inr h) (inr g) = h.0 ∙ sym g.0

one_print_cause : (z : Size) (class : Start) (played : List TokenKind) (c d : Cause) → HasPrintFault z class played c
    → HasPrintFault z class played d → c ≡ d
one_print_cause z class played c d h g = one_of_two PrintUnknownPlace PrintBelow c d
    (not_same_and_different_position z class played)
    (fault_of_print_after z class played c h) (fault_of_print_after z class played d g)

-- the first blank that has a fault is one
one_tab_cause : (z : Size) (class : Start) (played : List TokenKind) (c d : Cause) → HasTabFault z class played c
    → HasTabFault z class played d → c ≡ d
one_tab_cause z class played c d h g = elim (cases_lt h.blanks_before g.blanks_before) [
  | inl less ↦ absurd (g.earlier h.blanks_before c less h.fault)
  | inr not_less ↦ elim (cases_lt g.blanks_before h.blanks_before) [
    | inl less ↦ absurd (h.earlier g.blanks_before d less g.fault)
    | inr not_more ↦
        let same : g.blanks_before ≡ h.blanks_before = omega arith in
        one_print_cause z class (then_blanks played h.blanks_before) c d h.fault
        (subst (λ (n : ℕ). HasPrintFault z class (then_blanks played n) d) same g.fault)
  ]
]

one_cause_after : (z : Size) (class : Start) (played : List TokenKind) (t : TokenKind) (c d : Cause)
    → HasFaultAfter z class played t c → HasFaultAfter z class played t d → c ≡ d
one_cause_after z class played (Glyph byte) c d h g = one_print_cause z class played c d h g
one_cause_after z class played Tab c d h g = one_tab_cause z class played c d h g
one_cause_after z class played EraseLine c d h g = (fault_of_erasing_after z class played c h).0
    ∙ sym (fault_of_erasing_after z class played d g).0
one_cause_after z class played LineFeed c d h g = one_of_two Scrolls MayScroll c d
    (not_always_and_sometimes_in_spare_row z class played)
    (fault_of_line_feed_after z class played c h) (fault_of_line_feed_after z class played d g)
one_cause_after z class played _ c d h g = absurd h

static_or_after_not_both : (z : Size) (class : Start) (played : List TokenKind) (t : TokenKind) (c d : Cause)
    → HasStaticFault z t c
    → HasFaultAfter z class played t d → ⊥
static_or_after_not_both z class played t c d h g =
    let apart : Some c ≡ None = sym (cause_of_static_fault z t c h) ∙ after_not_static z class played t d g in
    cc

-- A token has one fault at most.
pub one_cause : (z : Size) (class : Start) (played : List TokenKind) (t : TokenKind) (c d : Cause)
    → HasFault z class played t c → HasFault z class played t d → c ≡ d
one_cause z class played t c d (inl h) (inl g) =
    let same : Some c ≡ Some d = sym (cause_of_static_fault z t c h) ∙ cause_of_static_fault z t d g in
    cc
one_cause z class played t c d (inl h) (inr g) = absurd (static_or_after_not_both z class played t c d h g)
one_cause z class played t c d (inr h) (inl g) = absurd (static_or_after_not_both z class played t d c g h)
one_cause z class played t c d (inr h) (inr g) = one_cause_after z class played t c d h g

-- ---- the one cleared start
-- it is the cleared state
pub is_cleared : (z : Size) (s : State) → IsStart z all_known s → s ≡ cleared z
is_cleared z s h = λ i. record {
  screen = h.screen refl i;
  cursor = h.cursor refl i;
  saved = h.saved refl i;
  attribute = h.attribute refl i;
  wrap = h.wrap refl i;
}

pub cleared_is_one : (z : Size) (s t : State) → IsStart z all_known s → IsStart z all_known t → s ≡ t
cleared_is_one z s t h g = is_cleared z s h ∙ sym (is_cleared z t g)

cleared_start_has_one_position : (z : Size) (played : List TokenKind) → PositionsDiffer z all_known played → ⊥
cleared_start_has_one_position z played h =
    h.4 (ap (λ (s : State). (final z s played).cursor) (cleared_is_one z h.0 h.1 h.2 h.3))

cleared_start_has_one_row : (z : Size) (played : List TokenKind) → MayStandInSpareRow z all_known played → ⊥
cleared_start_has_one_row z played h = h.1.2
    (subst (IsInSpareRow z played) (cleared_is_one z h.0.0 h.1.0 h.0.1 h.1.1) h.0.2)

print_certain : (z : Size) (played : List TokenKind) (c : Cause) → HasPrintFault z all_known played c → IsCertain c
print_certain z played c h = elim (fault_of_print_after z all_known played c h) [
  | inl g ↦ absurd (cleared_start_has_one_position z played g.1)
  | inr g ↦ rw g.0 tt
]

-- from the cleared start a fault of a token is certain
certain_after : (z : Size) (played : List TokenKind) (t : TokenKind) (c : Cause)
    → HasFaultAfter z all_known played t c → IsCertain c
certain_after z played (Glyph byte) c h = print_certain z played c h
certain_after z played Tab c h = print_certain z (then_blanks played h.blanks_before) c h.fault
certain_after z played EraseLine c h = absurd
    (cleared_start_has_one_position z played (fault_of_erasing_after z all_known played c h).1)
certain_after z played LineFeed c h = elim (fault_of_line_feed_after z all_known played c h) [
  | inl g ↦ rw g.0 tt
  | inr g ↦ absurd (cleared_start_has_one_row z played g.1)
]
certain_after z played _ c h = absurd h

-- From the one cleared start a token's fault is certain.
pub static_is_certain : (z : Size) (t : TokenKind) (c : Cause) → HasStaticFault z t c → IsCertain c
static_is_certain z t c h = rw (cause_of_static_fault z t c h) at (static_certain t)

-- so is each fault of a token, static or not
pub certain_cause : (z : Size) (played : List TokenKind) (t : TokenKind) (c : Cause)
    → HasFault z all_known played t c → IsCertain c
certain_cause z played t c (inl h) = static_is_certain z t c h
certain_cause z played t c (inr h) = certain_after z played t c h
