-- What goes where a walk stops: at a token that does not stay, or at what has no reading.
use Rattle.std.proofs.Common.{◌≡◌, inl, inr, ℕ, Bool, true, false, not, List, [], ◌++◌, length, Option, Some, None}
use Rattle.std.proofs.Common.{refl, sym, ap, ◌∙◌, subst, Err, ◌+◌, ◌-◌, ◌≤◌, length-append, arith}
use Rattle.std.specs.Prelude.{IsTrue, IfNone, IfSome}
use Rattle.std.specs.List.{list_any}
use Rattle.std.proofs.lemmas.Bool.{false≢true}
use Rattle.std.proofs.lemmas.List.{append-nil}
use Rattle.ans_model.specs.declared.fault.Cause.{Cause}
use Rattle.ans_model.specs.declared.fault.Cause.TheVariants.{EndInSequence, BrokenSequence, NumberTooLarge}
use Rattle.ans_model.specs.declared.fault.Cause.TheVariants.{TooManyParameters}
use Rattle.ans_model.specs.Sequence.TokenKind.{TokenKind, Keys}
use Rattle.ans_model.specs.Sequence.Reads.{SpellsToken}
use Rattle.ans_model.specs.Sequence.Spelling.{IsUnfinished, is_quote}
use Rattle.ans_model.specs.Verdict.FirstFault.{IsRefused}
use Rattle.ans_model.proofs.Reading.{MeansWell, means_well, nothing_not_unfinished, one_token_in_front}
use Rattle.ans_model.proofs.Reading.{refused_no_token, token_nonempty, unfinished_no_token}
use Rattle.ans_model.proofs.Refusing.{unfinished_not_refused}
use Rattle.ans_tokens.specs.Walk.{HasNoReading}
use Rattle.ans_forms.specs.Here.{IsForm, IsGoingHere, IsTokenHere, NoneGoesHere, ends_plainly, is_keys}
use Rattle.ans_forms.specs.Unwanted.{BeginsStaying, ReassignsNone, stays, unwanted_form}
use Rattle.ans_forms.specs.declared.kinds.Before.{Before}
use Rattle.ans_forms.specs.declared.kinds.Going.{Going}
use Rattle.ans_forms.specs.declared.kinds.Unwanted.{Unwanted}
use Rattle.ans_forms.specs.declared.kinds.Unwanted.TheVariants as unwanted
use Rattle.ans_forms.proofs.FormEnds.{found_is, found_of_kind, no_form_in_nothing}

-- ---- by a form
-- what stands behind the form is no longer than what is left, and the text is the rest
pub form_is : (before : Before) (left : List ℕ) (place : ℕ) (kind : Unwanted) (behind : List ℕ)
    → unwanted_form before left ≡ Some (kind, behind) → (length behind ≤ length left)
    × IsForm before left place (record { kind = kind; place = place; length = length left - length behind })
form_is before left place kind behind e =
    let (text, whole) = (found_is before left kind behind e).1 in
    let size : length left ≡ length text + length behind = ap length whole ∙ length-append text behind in (
      omega (arith, size),
      record {
        text = text;
        rest = behind;
        whole = whole;
        form = e;
        place_is = refl;
        length_is = omega (arith, size);
      },
    )

pub form_goes : (before : Before) (left : List ℕ) (place : ℕ) (going : Going) → ReassignsNone left
    → IsForm before left place going → IsGoingHere before left place going
form_goes before left place going none h = record {
  text = h.text;
  rest = h.rest;
  whole = h.whole;
  of_kind = found_of_kind before going.kind h.text h.rest (found_is before left going.kind h.rest h.form).0
      (subst ReassignsNone h.whole none) (rw h.whole at h.form);
  place_is = h.place_is;
  length_is = h.length_is;
}

pub form_goes_if : (before : Before) (left : List ℕ) (place : ℕ) (result : Option Going) → ReassignsNone left
    → IfSome result (IsForm before left place) → IfSome result (IsGoingHere before left place)
form_goes_if before left place None none h = tt
form_goes_if before left place (Some going) none h = form_goes before left place going none h

-- ---- by no kind
pub if_none : (result : Option Going) (P Q : Type 0) → IfNone result P → (P → Q) → IfNone result Q
if_none None P Q h f = f h
if_none (Some going) P Q h f = tt

pub none_goes : (before : Before) (left : List ℕ) → unwanted_form before left ≡ None
    → ReassignsNone left → (IsUnfinished left → ¬ IsTrue (not (list_any is_quote left))) → NoneGoesHere before left
none_goes before left no_form no_keys no_end unwanted.ReassignedKey text rest e is = no_keys text rest e is
none_goes before left no_form no_keys no_end unwanted.Unfinished text rest e is =
    let all : text ≡ left = sym (e ∙ ap (λ (v : List ℕ). text ++ v) is.0 ∙ append-nil text) in
    no_end (subst IsUnfinished all is.1) (subst (λ (v : List ℕ). IsTrue (not (list_any is_quote v))) all is.2)
none_goes before left no_form no_keys no_end kind text rest e is =
    let no : ◌≡◌ {A = Option (Unwanted × List ℕ)} None (Some (kind, rest)) =
    sym no_form ∙ ap (unwanted_form before) e ∙ is.1 in cc

-- ---- where nothing is left
pub nothing_stays : ¬ BeginsStaying []
nothing_stays b = token_nonempty b.token b.text b.rest b.spelled (sym b.whole)

pub nothing_goes : (before : Before) → NoneGoesHere before []
nothing_goes before =
    none_goes before [] (no_form_in_nothing before) (λ text rest e is. token_nonempty Keys text rest is (sym e))
    (λ unfinished plain. nothing_not_unfinished [] refl unfinished)

-- ---- at a token
keys_is : (t : TokenKind) → is_keys t ≡ true → t ≡ Keys
keys_is Keys e = refl
keys_is _ e = absurd (false≢true e)

module _ (left : List ℕ) (long : ℕ) (reassigns : Bool) (h : IsTokenHere left long reassigns) where
  pub stopped_stays : ¬ BeginsStaying left
  stopped_stays b =
      let same : h.token ≡ b.token =
      (one_token_in_front h.token b.token h.text b.text h.rest b.rest h.spelled b.spelled (sym h.whole ∙ b.whole)).0 in
      false≢true (sym h.stops ∙ ap stays same ∙ b.stays)

  pub keys_go : (before : Before) (place : ℕ) → reassigns ≡ true → (going : Going)
      → going.kind ≡ unwanted.ReassignedKey → going.place ≡ place → going.length ≡ long
      → IsGoingHere before left place going
  keys_go before place is going kind at size = record {
    text = h.text;
    rest = h.rest;
    whole = h.whole;
    of_kind = rw kind (subst (λ (t : TokenKind). SpellsToken t h.text) (keys_is h.token (sym h.keys ∙ is)) h.spelled);
    place_is = at;
    length_is = size ∙ h.long_is;
  }

  pub no_keys_there : reassigns ≡ false → ReassignsNone left
  no_keys_there is text rest e keys =
      let same : h.token ≡ Keys =
      (one_token_in_front h.token Keys h.text text h.rest rest h.spelled keys (sym h.whole ∙ e)).0 in
      false≢true (sym is ∙ h.keys ∙ ap is_keys same)

  pub none_at_token : (before : Before) → reassigns ≡ false → unwanted_form before left ≡ None
      → NoneGoesHere before left
  none_at_token before is no_form =
      none_goes before left no_form (no_keys_there is)
      (λ unfinished plain. unfinished_no_token h.token h.text h.rest h.spelled (subst IsUnfinished h.whole unfinished))

-- ---- where the reading refuses
-- what is refused is not refused for its end
not_for_its_end : (text : List ℕ) (cause : Cause) → IsRefused text cause → cause ≡ EndInSequence → ⊥
not_for_its_end text cause (inl h) e =
    let well : MeansWell (Err cause) = subst MeansWell h.means (means_well h.raw) in
    let at_end : MeansWell (Err EndInSequence) = subst (λ (c : Cause). MeansWell (Err c)) e well in
    at_end
not_for_its_end text cause (inr h) e = elim h.why [
  | inl (never, is) ↦ let apart : ◌≡◌ {A = Cause} BrokenSequence EndInSequence = sym is ∙ e in cc
  | inr why ↦ elim why [
    | inl (loose, digit, is) ↦ let apart : ◌≡◌ {A = Cause} NumberTooLarge EndInSequence = sym is ∙ e in cc
    | inr (loose, byte, is) ↦ let apart : ◌≡◌ {A = Cause} TooManyParameters EndInSequence = sym is ∙ e in cc
  ]
]

plain_end : (cause : Cause) (bytes : List ℕ) → ends_plainly cause bytes ≡ true
    → (cause ≡ EndInSequence) × IsTrue (not (list_any is_quote bytes))
plain_end EndInSequence bytes e = (refl, e)
plain_end _ bytes e = absurd (false≢true e)

module _ (left : List ℕ) (cause : Cause) (h : HasNoReading left cause) where
  no_token : (t : TokenKind) (text rest : List ℕ) → left ≡ text ++ rest → ¬ SpellsToken t text
  no_token t text rest e spelled = elim h [
    | inl begins ↦
        refused_no_token t begins.text text begins.rest rest cause begins.refused spelled (sym begins.whole ∙ e)
    | inr (unfinished, is) ↦ unfinished_no_token t text rest spelled (subst IsUnfinished e unfinished)
  ]

  pub no_keys_refused : ReassignsNone left
  no_keys_refused text rest e keys = no_token Keys text rest e keys

  pub refused_stays : ¬ BeginsStaying left
  refused_stays b = no_token b.token b.text b.rest b.whole b.spelled

  ends : cause ≡ EndInSequence → IsUnfinished left
  ends e = elim h [
    | inl begins ↦ absurd (not_for_its_end begins.text cause begins.refused e)
    | inr (unfinished, is) ↦ unfinished
  ]

  pub end_goes : (before : Before) (place : ℕ) (going : Going) → ends_plainly cause left ≡ true
      → unwanted_form before left ≡ None → going.kind ≡ unwanted.Unfinished → going.place ≡ place
      → going.length ≡ length left → IsGoingHere before left place going
  end_goes before place going plain no_form kind at size =
      let (is, no_quote) = plain_end cause left plain in
      record {
        text = left;
        rest = [];
        whole = sym (append-nil left);
        of_kind = rw kind (refl, ends is, no_quote, no_form);
        place_is = at;
        length_is = size;
      }

  -- no end goes where it is not plain
  no_plain_end : (c : Cause) → cause ≡ c → ends_plainly c left ≡ false → IsUnfinished left
      → ¬ IsTrue (not (list_any is_quote left))
  no_plain_end EndInSequence e plain unfinished no_quote = false≢true (sym plain ∙ no_quote)
  no_plain_end c e plain unfinished no_quote = elim h [
    | inl begins ↦ unfinished_not_refused left begins.text begins.rest cause unfinished begins.refused begins.whole
    | inr (_, is) ↦ let apart : ◌≡◌ {A = Cause} c EndInSequence = sym e ∙ is in cc
  ]

  pub none_at_fault : (before : Before) → ends_plainly cause left ≡ false → unwanted_form before left ≡ None
      → NoneGoesHere before left
  none_at_fault before plain no_form =
      none_goes before left no_form no_keys_refused (no_plain_end cause refl plain)
