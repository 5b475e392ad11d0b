-- Which files are accepted, and why the others are refused.
use Rattle.std.specs.Prelude.{◌≡◌, ℕ, ◌+◌, ◌-◌, ◌*◌, ◌≤◌, Bool, not, ◌&&◌, ◌||◌, IsTrue, nat_lt, nat_le, ◌==◌, List}
use Rattle.std.specs.Prelude.{[], ◌∷◌, length, take, drop, codes, Option, Some, None, bytes_eq, if◌then◌else◌}
use Rattle.std.specs.List.{position_or_len}
use Rattle.ans_model.specs.declared.fault.Fault.{Fault}
use Rattle.ans_model.specs.declared.fault.Cause.{Cause}
use Rattle.ans_model.specs.declared.fault.Cause.TheVariants.{NoRecord, WrongVersion, WrongKind, CommentsMissing}
use Rattle.ans_model.specs.declared.fault.Cause.TheVariants.{LinesUnstated, WidthTooLarge, LinesTooLarge}
use Rattle.ans_model.specs.declared.fault.Cause.TheVariants.{BytesAfterEndMark}
use Rattle.ans_model.specs.Bytes.{most_columns, most_lines}
use Rattle.ans_model.specs.File.Record.{version_field, data_type, file_type, tinfo, comment_count}
use Rattle.ans_model.specs.File.Layout.{FileParts, Laid, content, after_content, is_clean_end, is_end_mark}

-- The file is laid out so, and nothing in it is refused.
pub record Accepts (file : List ℕ) (parts : FileParts) : Type 0 where
  pub laid : Laid file parts
  pub version_00 : version_field parts.record_bytes ≡ codes "00"
  pub character : data_type parts.record_bytes ≡ 1
  pub ansi : file_type parts.record_bytes ≡ 1
  pub lines_stated : 1 ≤ tinfo 2 parts.record_bytes
  pub width_in_limit : tinfo 1 parts.record_bytes ≤ most_columns
  pub lines_in_limit : tinfo 2 parts.record_bytes ≤ most_lines
  pub clean_end : IsTrue (is_clean_end parts.body)

-- the fault of this cause at this offset
abbrev pub fault_at : ℕ → Cause → Fault
fault_at offset cause = record { offset = offset; cause = cause }

-- a refusal: when it applies, at which offset, and its cause
pub record Refusal : Type 0 where
  pub applies : Bool
  pub offset : ℕ
  pub cause : Cause

-- a refusal that applies where the test holds
abbrev pub refused_if : Bool → ℕ → Cause → Refusal
refused_if applies offset cause = record { applies = applies; offset = offset; cause = cause }

-- the first that applies
abbrev pub first_refusal : List Refusal → Option Fault
first_refusal [] = None
first_refusal (r ∷ rs) = if r.applies then Some (fault_at r.offset r.cause) else first_refusal rs

-- the length of the block of this many comments
abbrev pub block_size : ℕ → ℕ
block_size count = if count == 0 then 0 else 5 + 64 * count

-- whether the bytes before the record end in a block of this many comments
abbrev pub has_block : ℕ → List ℕ → Bool
has_block count front = count == 0 || (nat_le (block_size count) (length front)
    && bytes_eq (take 5 (drop (length front - block_size count) front)) (codes "COMNT"))

-- whether the file's last 128 bytes are a record
abbrev pub has_record : List ℕ → Bool
has_record file = nat_le 128 (length file) && bytes_eq (take 5 (drop (length file - 128) file)) (codes "SAUCE")

-- the refusals of a file with a record, in their order; front is what comes before the record
abbrev pub refusals : List ℕ → List ℕ → List Refusal
refusals front record_bytes =
    let at = length front in
    let body = take (at - block_size (comment_count record_bytes)) front in
    refused_if (not (bytes_eq (version_field record_bytes) (codes "00"))) (at + 5) WrongVersion
    ∷ refused_if (not (data_type record_bytes == 1 && file_type record_bytes == 1)) (at + 94) WrongKind
    ∷ refused_if (not (has_block (comment_count record_bytes) front)) (at + 104) CommentsMissing
    ∷ refused_if (tinfo 2 record_bytes == 0) (at + 98) LinesUnstated
    ∷ refused_if (nat_lt most_columns (tinfo 1 record_bytes)) (at + 96) WidthTooLarge
    ∷ refused_if (nat_lt most_lines (tinfo 2 record_bytes)) (at + 98) LinesTooLarge
    ∷ refused_if (not (is_clean_end body))
    (length (content body) + position_or_len (λ b. not (is_end_mark b)) (after_content body)) BytesAfterEndMark
    ∷ []

-- all the refusals of a file, in their order
abbrev pub file_refusals : List ℕ → List Refusal
file_refusals file =
    let at = length file - 128 in
    refused_if (not (has_record file)) (length file) NoRecord ∷ refusals (take at file) (drop at file)

-- the fault of a file's record, where it has one
abbrev pub record_fault : List ℕ → Option Fault
record_fault file = first_refusal (file_refusals file)
