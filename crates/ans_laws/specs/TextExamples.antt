-- Files and contents of the examples.
use Rattle.std.specs.Prelude.{◌≡◌, ℕ, List, [], ◌∷◌, ◌++◌, codes, replicate, Option, Some, None}
use Rattle.std.specs.Int.{to_le_bytes, w16, w32}
use Rattle.ans_model.specs.Bytes.{escape, blank, end_mark}
use Rattle.ans_model.specs.declared.note.Note.{Note}
use Rattle.ans_model.specs.declared.start.Start.{Start}
use Rattle.ans_model.specs.Screen.State.{Size}
use Rattle.ans_model.specs.Verdict.Good.{Picture}
use Rattle.ans_model.specs.declared.cell.Cell.{Cell}
use Rattle.ans_model.specs.Text.ReportText.{Heading}
use Rattle.ans_model.specs.File.Layout.{comment_block}
use Rattle.ans_model.specs.File.Refusals.{fault_at, record_fault}
use Rattle.ans_model.specs.Text.TokensText.{TokensText}
use Rattle.ans_model.specs.declared.fault.Cause.{Cause}
use Rattle.ans_model.specs.File.NoteConditions.{notes}

-- ---- records
-- the fields of a record that the examples change
pub record Fields : Type 0 where
  pub id : List ℕ
  pub version : List ℕ
  pub date : List ℕ
  pub file_size : ℕ
  pub data_type : ℕ
  pub file_type : ℕ
  pub width : ℕ
  pub lines : ℕ
  pub comments : ℕ
  pub flags : ℕ

-- two columns, one line, and two bytes of content
abbrev pub plain : Fields
plain = record {
  id = codes "SAUCE";
  version = codes "00";
  date = codes "19960101";
  file_size = 2;
  data_type = 1;
  file_type = 1;
  width = 2;
  lines = 1;
  comments = 0;
  flags = 0;
}

-- the record with blanks for title, author and group, and zero bytes for TInfo3, TInfo4 and the font
abbrev pub record_with : Fields → List ℕ
record_with f =
    f.id ++ f.version ++ replicate 75 blank ++ f.date ++ to_le_bytes w32 f.file_size ++ f.data_type ∷ f.file_type ∷ []
    ++ to_le_bytes w16 f.width ++ to_le_bytes w16 f.lines ++ replicate 4 0 ++ f.comments ∷ f.flags ∷ []
    ++ replicate 22 0

-- `Hi` and the end mark
abbrev pub hi : List ℕ
hi = 0x48 ∷ 0x69 ∷ end_mark ∷ []

-- the text, filled up with this many blanks
abbrev pub padded_with : ℕ → List ℕ → List ℕ
padded_with count text = text ++ replicate count blank

-- a record with each field set, and its one comment
abbrev pub sample_record : List ℕ
sample_record =
    codes "SAUCE00" ++ padded_with 31 (codes "Test") ++ padded_with 17 (codes "Ann") ++ padded_with 20 []
    ++ codes "19960101"
    ++ to_le_bytes w32 2 ++ 1 ∷ 1 ∷ [] ++ to_le_bytes w16 2 ++ to_le_bytes w16 1 ++ replicate 4 0 ++ 1 ∷ 1 ∷ []
    ++ codes "IBM VGA" ++ replicate 15 0

-- the one comment of that record, with its padding
abbrev pub sample_comment : List ℕ
sample_comment = padded_with 59 (codes "hello")

-- the file of a body and a record is refused for this, at this offset
abbrev pub IsRefusedAt : List ℕ → Fields → ℕ → Cause → Type 0
IsRefusedAt body f offset cause = record_fault (body ++ record_with f) ≡ Some (fault_at offset cause)

-- The file of a body, comments and a record is accepted, with these notes.
abbrev pub IsAccepted : List ℕ → List ℕ → Fields → List Note → Type 0
IsAccepted body comment_bytes f expected =
    (record_fault (body ++ comment_block f.comments comment_bytes ++ record_with f) ≡ None)
    × (notes body (record_with f) ≡ expected)

-- ---- reports
-- the picture of these cells
abbrev pub picture : Size → List Cell → Picture
picture z cells = record { size = z; cells = cells }

-- a heading; that of a text of what a content needs names no start
abbrev pub heading_with : Size → Option Start → ℕ → List Note → Heading
heading_with size start content_length expected =
    record { size = size; start = start; content_length = content_length; notes = expected }

-- ---- contents
-- ESC and a text
abbrev pub esc : List ℕ → List ℕ
esc text = escape ∷ text

-- the content begins with a sequence that is refused so, and its text is only that line
abbrev pub IsRefusedAs : List ℕ → Cause → List ℕ → Type 0
IsRefusedAs sequence cause said =
    TokensText (esc sequence) (Some (fault_at 0 cause)) (codes "at 0: " ++ (said ++ codes "\n"))

-- colours, a glyph, and an unfinished sequence
abbrev pub cut_content : List ℕ
cut_content = esc (codes "[1;37mH") ++ esc (codes "[3")

-- moves, a place, wrap, colours and a bell, with and without their parameters
abbrev pub short_forms : List ℕ
short_forms = esc (codes "[2A") ++ esc (codes "[;3f") ++ esc (codes "[=7l") ++ esc (codes "[m") ++ esc (codes "[1;m")
    ++ 0x07 ∷ []

-- one token of most other kinds
abbrev pub other_kinds : List ℕ
other_kinds =
    (0x07 ∷ 0x08 ∷ 0x0A ∷ 0x0D ∷ 0x09 ∷ [])
    ++ esc (codes "[B")
    ++ esc (codes "[2C")
    ++ esc (codes "[9D")
    ++ esc (codes "[2J")
    ++ esc (codes "[K")
    ++ esc (codes "[s")
    ++ esc (codes "[u")
    ++ esc (codes "[?7h")
    ++ esc (codes "[?25h")
    ++ esc (codes "[6n")
    ++ 0xFF ∷ []
