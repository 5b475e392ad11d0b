-- Sequences by their bytes, piece by piece.
use Rattle.std.specs.Prelude.{ℕ, Bool, false, not, ◌||◌, ◌==◌, nat_lt, List, [], ◌∷◌, drop, Option, None, Some}
use Rattle.std.specs.Prelude.{is_some, option_and_then, if◌then◌else◌}
use Rattle.std.specs.Int.{is_in_range}
use Rattle.std.specs.List.{position_or_len}
use Rattle.ans_model.specs.Bytes.{semicolon}
use Rattle.ans_model.specs.Sequence.Spelling.{is_mark_byte}
use Rattle.ans_forms.specs.declared.pieces.FormPiece.{FormPiece}
use Rattle.ans_forms.specs.declared.pieces.FormPiece.TheVariants.{Byte, Either, MusicLetter, Digits, Notes, Mark}
use Rattle.ans_forms.specs.declared.pieces.FormPiece.TheVariants.{Parameters}

abbrev pub is_digit : ℕ → Bool
is_digit b = is_in_range 0x30 0x39 b

-- a letter, a digit, one of `#+-.<>`, or a blank
abbrev pub is_note : ℕ → Bool
is_note b =
    is_in_range 0x41 0x5A b || is_in_range 0x61 0x7A b || is_digit b || b == 0x23 || b == 0x2B || b == 0x2D
    || b == 0x2E || b == 0x3C || b == 0x3E || b == 0x20

-- a digit or a semicolon
abbrev pub is_parameter : ℕ → Bool
is_parameter b = is_digit b || b == semicolon

-- how many of the first bytes pass the test
abbrev pub count_front : (ℕ → Bool) → List ℕ → ℕ
count_front passes bytes = position_or_len (λ b. not (passes b)) bytes

-- a byte that a piece of one byte may be
abbrev pub allows : FormPiece → ℕ → Bool
allows (Byte only) b = b == only
allows (Either one other) b = b == one || b == other
allows MusicLetter b = b == 0x4D || b == 0x4E || b == 0x7C
allows _ b = false

-- what comes after the first byte, if that byte is allowed
abbrev pub behind_byte : FormPiece → List ℕ → Option (List ℕ)
behind_byte piece [] = None
behind_byte piece (first ∷ rest) = if allows piece first then Some rest else None

-- what comes after the digits, or the notes, that the bytes begin with
abbrev pub behind_digits : List ℕ → Option (List ℕ)
behind_digits bytes =
    if count_front is_digit bytes == 0 then None else Some (drop (count_front is_digit bytes) bytes)

abbrev pub behind_notes : List ℕ → Option (List ℕ)
behind_notes bytes =
    if nat_lt 250 (count_front is_note bytes) then None else Some (drop (count_front is_note bytes) bytes)

-- what comes after the mark, if the bytes begin with one
abbrev pub behind_mark : List ℕ → List ℕ
behind_mark [] = []
behind_mark (first ∷ rest) = if is_mark_byte first then rest else first ∷ rest

-- what comes after a piece that the bytes begin with
abbrev pub behind_piece : FormPiece → List ℕ → Option (List ℕ)
behind_piece Digits bytes = behind_digits bytes
behind_piece Notes bytes = behind_notes bytes
behind_piece Mark bytes = Some (behind_mark bytes)
behind_piece Parameters bytes = Some (drop (count_front is_parameter bytes) bytes)
behind_piece piece bytes = behind_byte piece bytes

-- what comes after the pieces, if the bytes begin with them, one after the other
abbrev pub behind_form : List FormPiece → List ℕ → Option (List ℕ)
behind_form [] bytes = Some bytes
behind_form (piece ∷ more) bytes = option_and_then (behind_form more) (behind_piece piece bytes)

-- the bytes begin with the pieces, one after the other
abbrev pub begins_with_form : List FormPiece → List ℕ → Bool
begins_with_form pieces bytes = is_some (behind_form pieces bytes)
