-- What is in a file whose record or layout is refused.
use Rattle.std.specs.Prelude.{◌≡◌, ◌⊎◌, ℕ, ◌+◌, ◌-◌, ◌<◌, ◌≤◌, ◌↔◌, IsTrue, List, length, take, drop, codes}
use Rattle.std.specs.Prelude.{Option, None, Some}
use Rattle.memchr.specs.Find.{FindsLastNeedle, OccursAt, IsLast}
use Rattle.ans_model.specs.declared.fault.Cause.{Cause}
use Rattle.ans_model.specs.declared.fault.Cause.TheVariants.{NoRecord, WrongVersion, WrongKind, CommentsMissing}
use Rattle.ans_model.specs.declared.fault.Cause.TheVariants.{LinesUnstated, WidthTooLarge, LinesTooLarge}
use Rattle.ans_model.specs.declared.fault.Cause.TheVariants.{BytesAfterEndMark}
use Rattle.ans_model.specs.File.Record.{version_field, data_type, file_type, tinfo, comment_count}
use Rattle.ans_model.specs.File.Layout.{after_content}
use Rattle.ans_model.specs.File.Refusals.{block_size}
use Rattle.ans_sauce.specs.Grown.{grown_by}
use Rattle.ans_sauce.specs.declared.found.Found.{Found}
use Rattle.ans_sauce.specs.declared.found.Found.TheVariants as found

-- `SAUCE00` and 121 more bytes are here
pub record IsRecordAt (bytes : List ℕ) (place : ℕ) : Type 0 where
  pub id : OccursAt bytes (codes "SAUCE00") place
  pub whole : place + 128 ≤ length bytes

-- and none begins in the 127 bytes before: of two that overlap the earlier counts
pub record CountsAt (bytes : List ℕ) (place : ℕ) : Type 0 where
  pub is_record : IsRecordAt bytes place
  pub apart : (earlier : ℕ) → earlier < place → place < earlier + 128 → ¬ IsRecordAt bytes earlier

-- the last place of a record of version 00 that counts, if there is one
abbrev pub IsLastRecord : List ℕ → Option ℕ → Type 0
IsLastRecord bytes place = IsLast (CountsAt bytes) 0 (length bytes) place

-- there is a record of version 00 somewhere
abbrev pub HoldsRecord : List ℕ → Type 0
HoldsRecord bytes = (place : ℕ) × IsRecordAt bytes place

-- the file's last 128 bytes, and those before them
abbrev pub record_in : List ℕ → List ℕ
record_in file = drop (length file - 128) file

abbrev pub front_in : List ℕ → List ℕ
front_in file = take (length file - 128) file

-- the file's body, which ends where the comment block would begin
abbrev pub body_in : List ℕ → List ℕ
body_in file = take (length (front_in file) - block_size (comment_count (record_in file))) (front_in file)

-- what follows the first end mark, up to the comment block
abbrev pub after_end_mark : List ℕ → List ℕ
after_end_mark file = drop 1 (after_content (body_in file))

-- this is found in the file where it is refused for the cause
abbrev pub IsFound : List ℕ → Found → Cause → Type 0
IsFound file found.NoRecord cause = (cause ≡ NoRecord) × FindsLastNeedle file (codes "SAUCE00") None
IsFound file (found.Remains offset bytes) cause =
    (cause ≡ NoRecord) × IsLastRecord file None × FindsLastNeedle file (codes "SAUCE00") (Some offset)
    × (offset + bytes ≡ length file)
IsFound file (found.Record offset behind) cause =
    (cause ≡ NoRecord) × IsLastRecord file (Some offset) × (grown_by (drop offset file) ≡ None)
    × (offset + 128 + behind ≡ length file)
IsFound file (found.Grown offset bytes returns) cause =
    (cause ≡ NoRecord) × IsLastRecord file (Some offset) × (grown_by (drop offset file) ≡ Some returns)
    × (offset + bytes ≡ length file)
IsFound file (found.Version bytes) cause = (cause ≡ WrongVersion) × (bytes.now ≡ version_field (record_in file))
IsFound file (found.Kind kind subkind) cause =
    (cause ≡ WrongKind) × (kind ≡ data_type (record_in file)) × (subkind ≡ file_type (record_in file))
IsFound file (found.Comments count) cause = (cause ≡ CommentsMissing) × (count ≡ comment_count (record_in file))
IsFound file (found.Width width) cause = (cause ≡ WidthTooLarge) × (width ≡ tinfo 1 (record_in file))
IsFound file (found.Lines lines) cause =
    ((cause ≡ LinesUnstated) ⊎ (cause ≡ LinesTooLarge)) × (lines ≡ tinfo 2 (record_in file))
IsFound file (found.AfterEndMark bytes holds_record) cause =
    (cause ≡ BytesAfterEndMark) × (bytes.now ≡ after_end_mark file)
    × (IsTrue holds_record ↔ HoldsRecord (after_end_mark file))
