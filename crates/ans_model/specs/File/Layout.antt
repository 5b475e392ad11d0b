-- How a file with a SAUCE record is laid out (SAUCE 00.5): the body, the comment block, the record.
use Rattle.std.specs.Prelude.{◌≡◌, ℕ, ◌*◌, Bool, ◌==◌, List, [], ◌++◌, length, take, drop, codes, if◌then◌else◌}
use Rattle.std.specs.List.{list_all, before_first}
use Rattle.ans_model.specs.Bytes.{end_mark}
use Rattle.ans_model.specs.File.Record.{comment_count}

-- SAUCE 00.5, comment block: where there are comments, `COMNT` and their lines of 64 bytes
abbrev pub comment_block : ℕ → List ℕ → List ℕ
comment_block count comment_bytes = if count == 0 then [] else codes "COMNT" ++ comment_bytes

-- the parts of a file: what comes before the comments and the record, the comments' lines, and the record
pub record FileParts : Type 0 where
  pub body : List ℕ
  pub comment_bytes : List ℕ
  pub record_bytes : List ℕ

-- a file of this body, these comments and this record
abbrev pub file_parts : List ℕ → List ℕ → List ℕ → FileParts
file_parts body comment_bytes record_bytes =
    record { body = body; comment_bytes = comment_bytes; record_bytes = record_bytes }

-- SAUCE 00.5, file layout: the body, then the comment block, then the record
abbrev pub laid_file : FileParts → List ℕ
laid_file parts =
    parts.body ++ (comment_block (comment_count parts.record_bytes) parts.comment_bytes ++ parts.record_bytes)

-- The file is laid out so.
pub record Laid (file : List ℕ) (parts : FileParts) : Type 0 where
  pub size : length parts.record_bytes ≡ 128
  pub id : take 5 parts.record_bytes ≡ codes "SAUCE"
  pub comments : length parts.comment_bytes ≡ 64 * comment_count parts.record_bytes
  pub whole : file ≡ laid_file parts

-- the byte 1Ah
abbrev pub is_end_mark : ℕ → Bool
is_end_mark b = b == end_mark

-- The content is the longest prefix of the body without an end mark.
abbrev pub content : List ℕ → List ℕ
content body = before_first is_end_mark body

-- what follows the content in the body
abbrev pub after_content : List ℕ → List ℕ
after_content body = drop (length (content body)) body

-- after the content there are only end marks (profile)
abbrev pub is_clean_end : List ℕ → Bool
is_clean_end body = list_all is_end_mark (after_content body)
