-- What follows a record and is none of the drawing.
use Rattle.std.specs.Prelude.{◌≡◌, ◌⊎◌, ℕ, ◌+◌, IsTrue, Bool, false, ◌&&◌, ◌||◌, ◌==◌, nat_lt, List, take, drop, not}
use Rattle.std.specs.Prelude.{Some}
use Rattle.std.specs.List.{list_all}
use Rattle.ans_model.specs.Bytes.{most_columns, most_lines}
use Rattle.ans_model.specs.File.Layout.{is_end_mark}
use Rattle.ans_model.specs.File.Record.{data_type, file_type, tinfo}
use Rattle.ans_model.specs.File.Refusals.{has_record}
use Rattle.ans_sauce.specs.Found.{IsLastRecord, record_in}
use Rattle.ans_sauce.specs.Grown.{is_grown}

-- 00h, a line feed, a return, an end mark: what transfers and editors put after a file
abbrev pub is_tail_byte : ℕ → Bool
is_tail_byte b = b == 0x00 || b == 0x0A || b == 0x0D || is_end_mark b

-- the file ends in a record of type Character/ANSi
abbrev pub ends_in_ansi : List ℕ → Bool
ends_in_ansi file = has_record file && (data_type (record_in file) == 1 && file_type (record_in file) == 1)

-- a record states more columns or lines than the profile allows
abbrev pub is_beyond_limits : List ℕ → Bool
is_beyond_limits record_bytes = nat_lt most_columns (tinfo 1 record_bytes) || nat_lt most_lines (tinfo 2 record_bytes)

-- The bytes are a record and a tail: only such bytes follow the first 128, which are a record within the limits, and
-- all together are no grown record.
abbrev pub ends_in_tail : List ℕ → Bool
ends_in_tail bytes =
    list_all is_tail_byte (drop 128 bytes) && not (is_grown bytes) && not (is_beyond_limits (take 128 bytes))

-- The file ends in no such record. From the last record of version 00 that counts, which is here, it ends in a tail.
pub record HasTail (file : List ℕ) (place : ℕ) : Type 0 where
  pub other_end : ends_in_ansi file ≡ false
  pub last : IsLastRecord file (Some place)
  pub tail : IsTrue (ends_in_tail (drop place file))

-- The tail is cut; and if there is none, nothing is.
abbrev pub IsTailCut : List ℕ → List ℕ → Type 0
IsTailCut file cut =
    ((place : ℕ) × HasTail file place × (cut ≡ take (place + 128) file))
    ⊎ (((place : ℕ) → ¬ HasTail file place) × (cut ≡ file))
