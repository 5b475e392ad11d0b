-- Escape sequences (ANSI.SYS): what they consist of, and the bytes that spell them.
use Rattle.std.specs.Prelude.{◌≡◌, ◌≢◌, ℕ, ◌<◌, ◌≤◌, not, ◌||◌, Bool, IsTrue, ◌==◌, List, [], ◌∷◌, ◌++◌, length, ⊤}
use Rattle.std.specs.List.{AllZip, AllByRecursion, join_with_byte, list_all}
use Rattle.std.specs.Char.{is_ascii_digit, is_ascii_alphabetic}
use Rattle.std.specs.Str.Parse.{digits_value}
use Rattle.ans_model.specs.Bytes.{escape, bracket, semicolon, double_quote, single_quote, largest_number}
use Rattle.ans_model.specs.Bytes.{most_parameters}
use Rattle.ans_model.specs.declared.mark.Mark.{Mark}
use Rattle.ans_model.specs.declared.mark.Mark.TheVariants.{Unmarked, Equals, Question}

-- a parameter between semicolons: nothing, a number, or a string with its quote
pub data Member : Type 0 where
  Omitted : Member
  Number : (value : ℕ) → Member
  Quoted : (quote : ℕ) (text : List ℕ) → Member

-- a sequence as it is spelled
pub record Raw : Type 0 where
  pub mark : Mark
  pub members : List Member
  pub letter : ℕ

-- no byte, `=` or `?`
abbrev pub mark_bytes : Mark → List ℕ
mark_bytes Unmarked = []
mark_bytes Equals = 0x3D ∷ []
mark_bytes Question = 0x3F ∷ []

-- `=` or `?`
abbrev pub is_mark_byte : ℕ → Bool
is_mark_byte b = b == 0x3D || b == 0x3F

-- `"` or `'`
abbrev pub is_quote : ℕ → Bool
is_quote b = b == double_quote || b == single_quote

-- An omitted member has no bytes, a number is one or more digits with that value, and a string is enclosed in two
-- equal quotes and does not contain that quote.
abbrev pub SpellsMember : Member → List ℕ → Type 0
SpellsMember Omitted bytes = bytes ≡ []
SpellsMember (Number n) bytes = (0 < length bytes) × IsTrue (list_all is_ascii_digit bytes)
    × (digits_value 10 bytes ≡ n)
SpellsMember (Quoted quote text) bytes =
    IsTrue (is_quote quote) × IsTrue (list_all (λ b. not (b == quote)) text) × (bytes ≡ quote ∷ (text ++ quote ∷ []))

-- The bytes are ESC, `[`, the mark, the members joined by `;`, and the letter. A list of one omitted member is the
-- empty list.
pub record Loose (raw : Raw) (bytes : List ℕ) : Type 0 where
  pub texts : List (List ℕ)
  pub members : AllZip SpellsMember raw.members texts
  pub not_one_omitted : raw.members ≢ Omitted ∷ []
  pub letter : IsTrue (is_ascii_alphabetic raw.letter)
  pub whole : bytes ≡ escape ∷ bracket ∷ (mark_bytes raw.mark ++ (join_with_byte semicolon texts ++ raw.letter ∷ []))

-- a number is at most 255 (profile)
abbrev pub IsInLimit : Member → Type 0
IsInLimit (Number n) = n ≤ largest_number
IsInLimit _ = ⊤

-- The bytes spell the sequence: also, each number and their count are within the limits (profile).
pub record Spells (raw : Raw) (bytes : List ℕ) : Type 0 where
  pub loose : Loose raw bytes
  pub numbers : AllByRecursion IsInLimit raw.members
  pub count : length raw.members ≤ most_parameters

-- bytes begin a spelling, or are one
pub record IsPrefixOfSpelling (bytes : List ℕ) : Type 0 where
  pub raw : Raw
  pub rest : List ℕ
  pub spelled : Spells raw (bytes ++ rest)

-- bytes begin a loose spelling, or are one
pub record IsPrefixOfLoose (bytes : List ℕ) : Type 0 where
  pub raw : Raw
  pub rest : List ℕ
  pub spelled : Loose raw (bytes ++ rest)

-- bytes are a nonempty proper prefix of a spelling
pub record IsUnfinished (bytes : List ℕ) : Type 0 where
  pub raw : Raw
  pub rest : List ℕ
  pub spelled : Spells raw (bytes ++ rest)
  pub begun : 0 < length bytes
  pub more : 0 < length rest
