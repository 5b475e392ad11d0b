-- The lines of tokens as the scanner returns them.
use Rattle.std.specs.Prelude.{◌≡◌, ℕ, Bool, true, false, List, [], ◌∷◌, ◌++◌, map, codes, decimal, Option}
use Rattle.std.specs.List.{join_with_byte}
use Rattle.ans_model.specs.Bytes.{semicolon}
use Rattle.ans_model.specs.declared.fault.Fault.{Fault}
use Rattle.ans_model.specs.Inside.ShownKind.{shown_kind}
use Rattle.ans_model.specs.Text.FaultText.{line_of}
use Rattle.ans_model.specs.Sequence.TokenKind.{TokenKind, Glyph, Up, Down, Forward, Backward, Place, Colours}
use Rattle.ans_model.specs.Text.Hexadecimal.{hex_byte}
use Rattle.ans_model.specs.Text.TokensText.{token_name, token_lines, TokensText}
use Rattle.ans_tokens.specs.Token.{kind_of, start_of, length_of}
use Rattle.ans_tokens.specs.declared.token.Token.{Token}
use Rattle.ans_tokens.specs.Walk.{Front}
use Rattle.ans_report.specs.declared.tokens_text.TokenLines.{TokenLines}
use Rattle.ans_write.specs.Puts.{Puts, device_failed}
use Rattle.ans_write.specs.declared.outbox.Outbox.{Outbox}

-- numbers with a `;` between each two
abbrev pub numbers_text : List ℕ → List ℕ
numbers_text numbers = join_with_byte semicolon (map decimal numbers)

-- a number after a `;`
abbrev pub later_number : ℕ → List ℕ
later_number n = semicolon ∷ decimal n

-- what follows the word of a kind's name: the digits of its byte, or its numbers
abbrev pub numbers_of : TokenKind → List ℕ
numbers_of (Glyph b) = hex_byte b
numbers_of (Up n) = decimal n
numbers_of (Down n) = decimal n
numbers_of (Forward n) = decimal n
numbers_of (Backward n) = decimal n
numbers_of (Place row column) = decimal row ++ (codes ";" ++ decimal column)
numbers_of (Colours parameters) = numbers_text parameters
numbers_of _ = []

-- a token's line by its start, its length and its kind
abbrev pub token_text : Token → List ℕ
token_text t =
    line_of (decimal (start_of t)
    ++ (codes " " ++ (decimal (length_of t) ++ (codes " " ++ token_name (shown_kind (kind_of t))))))

-- The text of the content's tokens was put, and `told` is the fault that ends it unless the device has failed.
pub record PutsTokens {W : Type 0} (contents : W → Option (List ℕ)) (old new : Outbox W) (content : List ℕ)
    (told : Option Fault) : Type 0 where
  pub fault : Option Fault
  pub text : List ℕ
  pub is_text : TokensText content fault text
  pub puts : Puts contents old new text
  pub told_is : device_failed new ≡ false → told ≡ fault

-- The lines of a front's tokens were put, and the walk stops where the device has failed.
pub record PutsLines {W : Type 0} (contents : W → Option (List ℕ)) (first : TokenLines W) (front : Front)
    (now : TokenLines W) (goes_on : Bool) : Type 0 where
  pub same_outbox : now.out.ghost_name ≡ first.out.ghost_name
  pub puts : Puts contents first.out.now now.out.now (token_lines 0 front.tokens front.texts)
  pub stops : goes_on ≡ false → device_failed now.out.now ≡ true
