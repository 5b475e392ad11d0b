-- What a walk over tokens that stay has been over. Only private contracts cite it.
use Rattle.std.specs.Prelude.{◌≡◌, ℕ, Bool, true, false, List, [], ◌∷◌, ◌++◌, length}
use Rattle.std.specs.List.{concat}
use Rattle.ans_model.specs.Sequence.TokenKind.{TokenKind}
use Rattle.ans_model.specs.Sequence.Reads.{SpellsToken}
use Rattle.ans_tokens.specs.Walk.{Front}
use Rattle.ans_forms.specs.Here.{is_keys}
use Rattle.ans_forms.specs.Unwanted.{AllStay, before_after, stays}
use Rattle.ans_forms.specs.declared.kinds.Before.{Before}
use Rattle.ans_forms.specs.declared.next.Keeping.{Keeping}

-- all its tokens stay
pub record AllKept (before : Before) (front : Front) (now : Keeping) : Type 0 where
  pub all_stay : AllStay front.tokens front.texts
  pub before_is : now.before ≡ before_after before front.tokens

-- all stay but the last, which does not
pub record StopsAtFirst (before : Before) (front : Front) (now : Keeping) : Type 0 where
  pub tokens : List TokenKind
  pub texts : List (List ℕ)
  pub all_stay : AllStay tokens texts
  pub before_is : now.before ≡ before_after before tokens
  pub token : TokenKind
  pub text : List ℕ
  pub spelled : SpellsToken token text
  pub stops : stays token ≡ false
  pub tokens_are : front.tokens ≡ tokens ++ token ∷ []
  pub texts_are : front.texts ≡ texts ++ text ∷ []
  pub place_is : now.place ≡ length (concat texts)
  pub length_is : now.length ≡ length text
  pub keys : now.is_keys ≡ is_keys token

-- a walk over the front, which comes after what `before` describes, goes on or stops
abbrev pub HasKept : Before → Front → Keeping → Bool → Type 0
HasKept before front now true = AllKept before front now
HasKept before front now false = StopsAtFirst before front now
