-- What goes where a walk stops. Only private contracts cite it.
use Rattle.std.specs.Prelude.{◌≡◌, ℕ, Bool, true, false, not, List, ◌++◌, length, Some}
use Rattle.std.specs.List.{list_any}
use Rattle.ans_model.specs.Sequence.TokenKind.{TokenKind, Keys}
use Rattle.ans_model.specs.Sequence.Reads.{SpellsToken}
use Rattle.ans_model.specs.Sequence.Spelling.{is_quote}
use Rattle.ans_model.specs.declared.fault.Cause.{Cause}
use Rattle.ans_model.specs.declared.fault.Cause.TheVariants.{EndInSequence}
use Rattle.ans_forms.specs.Unwanted.{IsOfKind, stays, unwanted_form}
use Rattle.ans_forms.specs.declared.kinds.Before.{Before}
use Rattle.ans_forms.specs.declared.kinds.Going.{Going}
use Rattle.ans_forms.specs.declared.kinds.Unwanted.{Unwanted}

abbrev pub is_keys : TokenKind → Bool
is_keys Keys = true
is_keys _ = false

-- the bytes have this fault since they end in a sequence, and have no quote
abbrev pub ends_plainly : Cause → List ℕ → Bool
ends_plainly EndInSequence bytes = not (list_any is_quote bytes)
ends_plainly _ bytes = false

-- what is left begins with a token of this length that does not stay, and reassigns a key or does not
pub record IsTokenHere (left : List ℕ) (long : ℕ) (reassigns : Bool) : Type 0 where
  pub token : TokenKind
  pub text : List ℕ
  pub rest : List ℕ
  pub whole : left ≡ text ++ rest
  pub spelled : SpellsToken token text
  pub stops : stays token ≡ false
  pub long_is : long ≡ length text
  pub keys : reassigns ≡ is_keys token

-- what goes is what is left, up to the end of its form
pub record IsForm (before : Before) (left : List ℕ) (place : ℕ) (going : Going) : Type 0 where
  pub text : List ℕ
  pub rest : List ℕ
  pub whole : left ≡ text ++ rest
  pub form : unwanted_form before left ≡ Some (going.kind, rest)
  pub place_is : going.place ≡ place
  pub length_is : going.length ≡ length text

-- this goes, at the place where what is left begins
pub record IsGoingHere (before : Before) (left : List ℕ) (place : ℕ) (going : Going) : Type 0 where
  pub text : List ℕ
  pub rest : List ℕ
  pub whole : left ≡ text ++ rest
  pub of_kind : IsOfKind before going.kind text rest
  pub place_is : going.place ≡ place
  pub length_is : going.length ≡ length text

-- no kind is there that goes
abbrev pub NoneGoesHere : Before → List ℕ → Type 0
NoneGoesHere before left =
    (kind : Unwanted) (text rest : List ℕ) → left ≡ text ++ rest → ¬ IsOfKind before kind text rest
