-- The text of a record.
use Rattle.std.specs.Prelude.{ℕ, ◌+◌, zero, suc, List, [], ◌++◌, codes, decimal, flat_map}
use Rattle.ans_model.specs.declared.note.Note.{Note}
use Rattle.ans_model.specs.File.Record.{title_field, author_field, group_field, date_field, font_field, file_size}
use Rattle.ans_model.specs.File.Record.{comment_count, flags, trimmed, stated_size, comment}
use Rattle.ans_model.specs.File.Layout.{FileParts}
use Rattle.ans_model.specs.File.NoteConditions.{notes}
use Rattle.ans_model.specs.Text.Characters.{shown_bytes}
use Rattle.ans_model.specs.Text.Hexadecimal.{hex_byte}
use Rattle.ans_model.specs.Text.FaultText.{line_of, note_line}
use Rattle.ans_model.specs.Text.ReportText.{size_text}

-- a name, a colon and a text
abbrev pub named_line : List ℕ → List ℕ → List ℕ
named_line name text = line_of (name ++ (codes ": " ++ text))

-- a name, and the text of a field as it is shown
abbrev pub field_line : List ℕ → List ℕ → List ℕ
field_line name field = named_line name (shown_bytes (trimmed field))

-- the lines of this many comments from the i-th on
abbrev pub comment_lines : ℕ → ℕ → List ℕ → List ℕ
comment_lines i zero comment_bytes = []
comment_lines i (suc n) comment_bytes = named_line (codes "comment") (shown_bytes (comment comment_bytes i))
    ++ comment_lines (i + 1) n comment_bytes

-- the lines of a record, of its comments and of its notes
abbrev pub record_lines : List ℕ → List ℕ → List Note → List ℕ
record_lines record_bytes comment_bytes notes =
    field_line (codes "title") (title_field record_bytes)
    ++ (field_line (codes "author") (author_field record_bytes)
    ++ (field_line (codes "group") (group_field record_bytes)
    ++ (field_line (codes "date") (date_field record_bytes)
    ++ (named_line (codes "size") (size_text (stated_size record_bytes))
    ++ (named_line (codes "flags") (hex_byte (flags record_bytes))
    ++ (field_line (codes "font") (font_field record_bytes)
    ++ (named_line (codes "file size") (decimal (file_size record_bytes))
    ++ (named_line (codes "comments") (decimal (comment_count record_bytes))
    ++ (comment_lines 0 (comment_count record_bytes) comment_bytes
    ++ flat_map note_line notes)))))))))

-- the text of a file's record
abbrev pub record_text : FileParts → List ℕ
record_text parts = record_lines parts.record_bytes parts.comment_bytes (notes parts.body parts.record_bytes)
