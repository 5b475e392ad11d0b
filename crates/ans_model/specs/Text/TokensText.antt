-- The text of the content's tokens, up to the first fault of their reading.
use Rattle.std.specs.Prelude.{◌≡◌, ◌⊎◌, ℕ, ◌+◌, true, false, List, [], ◌∷◌, ◌++◌, length, map, codes, decimal, Option}
use Rattle.std.specs.Prelude.{Some, None}
use Rattle.std.specs.List.{join_with_byte}
use Rattle.ans_model.specs.declared.fault.Fault.{Fault}
use Rattle.ans_model.specs.declared.fault.Cause.{Cause}
use Rattle.ans_model.specs.declared.fault.Cause.TheVariants.{EndInSequence}
use Rattle.ans_model.specs.Bytes.{semicolon}
use Rattle.ans_model.specs.Sequence.TokenKind.{TokenKind, Glyph, Bell, BackSpace, LineFeed, CarriageReturn, Tab, Up}
use Rattle.ans_model.specs.Sequence.TokenKind.{Down, Forward, Backward, Place, Clear, EraseLine, Save, Restore}
use Rattle.ans_model.specs.Sequence.TokenKind.{Colours, Wrap, Mode, Keys, Ask}
use Rattle.ans_model.specs.Sequence.Spelling.{IsUnfinished}
use Rattle.ans_model.specs.Sequence.Reads.{ReadsAs}
use Rattle.ans_model.specs.File.Refusals.{fault_at}
use Rattle.ans_model.specs.Verdict.FirstFault.{IsRefused}
use Rattle.ans_model.specs.Text.Hexadecimal.{hex_byte}
use Rattle.ans_model.specs.Text.FaultText.{line_of, fault_line}

-- the name of a kind, with its numbers
abbrev pub token_name : TokenKind → List ℕ
token_name (Glyph b) = codes "glyph " ++ hex_byte b
token_name Bell = codes "bell"
token_name BackSpace = codes "backspace"
token_name LineFeed = codes "linefeed"
token_name CarriageReturn = codes "return"
token_name Tab = codes "tab"
token_name (Up n) = codes "up " ++ decimal n
token_name (Down n) = codes "down " ++ decimal n
token_name (Forward n) = codes "forward " ++ decimal n
token_name (Backward n) = codes "backward " ++ decimal n
token_name (Place row column) = codes "place " ++ (decimal row ++ (codes ";" ++ decimal column))
token_name Clear = codes "clear"
token_name EraseLine = codes "erase"
token_name Save = codes "save"
token_name Restore = codes "restore"
token_name (Colours parameters) = codes "colours " ++ join_with_byte semicolon (map decimal parameters)
token_name (Wrap true) = codes "wrap on"
token_name (Wrap false) = codes "wrap off"
token_name Mode = codes "mode"
token_name Keys = codes "keys"
token_name Ask = codes "ask"

-- a token's start, its length and its name
abbrev pub token_line : ℕ → TokenKind → List ℕ → List ℕ
token_line start token text =
    line_of (decimal start ++ (codes " " ++ (decimal (length text) ++ (codes " " ++ token_name token))))

-- the lines of tokens with these spellings, the first of which begins at start
abbrev pub token_lines : ℕ → List TokenKind → List (List ℕ) → List ℕ
token_lines start (token ∷ tokens) (text ∷ texts) = token_line start token text
    ++ token_lines (start + length text) tokens texts
token_lines start _ _ = []

-- What is left after the tokens: nothing, a text that the reading refuses and any rest, or an unfinished sequence.
abbrev pub Leaves : ℕ → List ℕ → Option Fault → Type 0
Leaves start left None = left ≡ []
Leaves start left (Some fault) =
    ((text rest : List ℕ) × (cause : Cause) × (left ≡ text ++ rest) × IsRefused text cause
    × (fault ≡ fault_at start cause))
    ⊎ (IsUnfinished left × (fault ≡ fault_at start EndInSequence))

-- the line of the fault, if there is one
abbrev pub fault_end : Option Fault → List ℕ
fault_end None = []
fault_end (Some fault) = fault_line fault

-- the content's tokens, the fault that ends their reading, and the text of both
pub record TokensText (content : List ℕ) (fault : Option Fault) (text : List ℕ) : Type 0 where
  pub front : List ℕ
  pub left : List ℕ
  pub whole : content ≡ front ++ left
  pub tokens : List TokenKind
  pub texts : List (List ℕ)
  pub reads : ReadsAs front tokens texts
  pub leaves : Leaves (length front) left fault
  pub text_is : text ≡ token_lines 0 tokens texts ++ fault_end fault
