-- A token that is taken whole from the bytes that begin with it.
use Rattle.std.specs.Prelude.{◌≡◌, ℕ, ◌-◌, ◌<◌, ◌≤◌, IsTrue, true, false, List, length, map, take, slice_index_or}
use Rattle.std.specs.List.{list_all, list_any}
use Rattle.std.specs.Char.{is_ascii_digit}
use Rattle.std.specs.Str.Parse.{digits_value}
use Rattle.ans_model.specs.Bytes.{largest_number}
use Rattle.ans_model.specs.Sequence.Omitted.{omits, opens_member}
use Rattle.ans_model.specs.Sequence.Spelling.{Raw, Spells}
use Rattle.ans_model.specs.declared.mark.Mark.{Mark}
use Rattle.ans_model.specs.Sequence.TokenKind.{TokenKind}
use Rattle.ans_model.specs.Sequence.Meaning.{colour_number, is_quoted}
use Rattle.ans_model.specs.Sequence.Reads.{SpellsToken}
use Rattle.ans_model.specs.Inside.ShownKind.{shown_kind}
use Rattle.ans_tokens.specs.Token.{kind_of, start_of, length_of}
use Rattle.ans_tokens.specs.declared.token.Token.{Token}

-- the bytes begin with this many digits of a number within the limit, and a byte that is none; no digits count as 0
pub record IsNumberFront (bytes : List ℕ) (value count : ℕ) : Type 0 where
  pub followed : count < length bytes
  pub digits : IsTrue (list_all is_ascii_digit (take count bytes))
  pub ends : is_ascii_digit (slice_index_or bytes count 0) ≡ false
  pub value_is : digits_value 10 (take count bytes) ≡ value
  pub in_limit : value ≤ largest_number

-- the first `count` bytes spell a sequence with this mark, a number for each member, no string, and this letter
pub record IsSequenceFront (bytes : List ℕ) (mark : Mark) (numbers : List ℕ) (letter count : ℕ) : Type 0 where
  pub raw : Raw
  pub within : count ≤ length bytes
  pub spelled : Spells raw (take count bytes)
  pub mark_is : raw.mark ≡ mark
  pub numbers_are : map colour_number raw.members ≡ numbers
  pub no_string : list_any is_quoted raw.members ≡ false
  pub letter_is : raw.letter ≡ letter

-- at this index a member begins, and none before it is omitted
pub record OpensMember (bytes : List ℕ) (index : ℕ) : Type 0 where
  pub some : 0 < index
  pub within : index ≤ length bytes
  pub opens : opens_member (slice_index_or bytes (index - 1) 0) ≡ true
  pub none_omitted : omits (take index bytes) ≡ false

-- the first `count` bytes, at least one, spell the token
pub record IsTokenFront (bytes : List ℕ) (token : TokenKind) (count : ℕ) : Type 0 where
  pub nonempty : 0 < count
  pub within : count ≤ length bytes
  pub spelled : SpellsToken token (take count bytes)

-- the bytes begin with the token, which is at this offset
pub record IsTokenAt (offset : ℕ) (bytes : List ℕ) (token : Token) : Type 0 where
  pub front : IsTokenFront bytes (shown_kind (kind_of token)) (length_of token)
  pub starts : start_of token ≡ offset
