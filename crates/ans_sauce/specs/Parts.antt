-- What a file's parts show.
use Rattle.std.specs.Prelude.{◌≡◌, ℕ, List}
use Rattle.ans_model.specs.declared.note.Note.{Note}
use Rattle.ans_model.specs.File.Record.{stated_width, stated_lines, stated_size}
use Rattle.ans_model.specs.File.Layout.{FileParts, content}
use Rattle.ans_model.specs.File.NoteConditions.{notes}
use Rattle.ans_model.specs.Screen.State.{Size}
use Rattle.ans_sauce.specs.declared.parts.Parts.{Parts}
use Rattle.ans_sauce.specs.RecordBytes.{sauce_bytes}

-- `parts.content()`
abbrev pub content_of : Parts → List ℕ
content_of parts = parts.content.now

-- `parts.comments()`, 64 bytes for each comment
abbrev pub comments_of : Parts → List ℕ
comments_of parts = parts.comments.now

-- the 128 bytes of `parts.sauce()`
abbrev pub record_of : Parts → List ℕ
record_of parts = sauce_bytes parts.sauce

-- `parts.width()`
abbrev pub width_of : Parts → ℕ
width_of parts = stated_width (record_of parts)

-- `parts.lines()`
abbrev pub lines_of : Parts → ℕ
lines_of parts = stated_lines (record_of parts)

-- `parts.size()`
abbrev pub size_of : Parts → Size
size_of parts = stated_size (record_of parts)

-- `parts.notes()`
abbrev pub notes_of : Parts → List Note
notes_of parts = parts.notes.items

-- the parts show this file taken apart
pub record ShowsParts (apart : FileParts) (parts : Parts) : Type 0 where
  pub content : content_of parts ≡ content apart.body
  pub comments : comments_of parts ≡ apart.comment_bytes
  pub sauce : record_of parts ≡ apart.record_bytes
  pub notes : notes_of parts ≡ notes apart.body apart.record_bytes
