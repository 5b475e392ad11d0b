-- A scanner that takes bytes one by one.
use Rattle.std.specs.Prelude.{◌≡◌, ◌⊎◌, ℕ, ◌+◌, ◌-◌, List, [], ◌∷◌, map, take, drop}
use Rattle.ans_model.specs.Sequence.TokenKind.{TokenKind}
use Rattle.ans_model.specs.Inside.ShownKind.{shown_kind}
use Rattle.ans_tokens.specs.ScannerView.{ScannerView, StaysUnfinished, EndsToken}
use Rattle.ans_tokens.specs.Token.{kind_of, start_of, length_of}
use Rattle.ans_tokens.specs.declared.token.Token.{Token}

-- The scanner takes a byte without a fault: the open part stays unfinished, and the tokens are those that come later;
-- or the byte ends a token, and then come those.
pub record TakesByte (old : ScannerView) (byte : ℕ) (new : ScannerView) (tokens later : List Token) : Type 0 where
  pub offset : new.offset ≡ old.offset + 1
  pub gives : (StaysUnfinished old new byte × (tokens ≡ later))
      ⊎ ((t : Token) × EndsToken old new byte t × (tokens ≡ t ∷ later))

-- the scanner takes the bytes one by one without a fault, and gives these tokens
abbrev pub TakesBytes : ScannerView → List ℕ → List Token → ScannerView → Type 0
TakesBytes old [] tokens new = (tokens ≡ []) × (new ≡ old)
TakesBytes old (b ∷ bytes) tokens new =
    (next : ScannerView) × (later : List Token) × TakesByte old b next tokens later × TakesBytes next bytes later new

-- what the tokens are
abbrev pub kinds_of : List Token → List TokenKind
kinds_of tokens = map (λ t. shown_kind (kind_of t)) tokens

-- the bytes of a token, where the first of all bytes is at this offset
abbrev pub text_of : ℕ → List ℕ → Token → List ℕ
text_of offset bytes t = take (length_of t) (drop (start_of t - offset) bytes)

-- the bytes of each token
abbrev pub token_texts : ℕ → List ℕ → List Token → List (List ℕ)
token_texts offset bytes tokens = map (text_of offset bytes) tokens
