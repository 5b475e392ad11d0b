-- The notes on a record, each at most once, in their order.
use Rattle.std.specs.Prelude.{ℕ, ◌+◌, Bool, not, ◌||◌, ◌==◌, List, [], ◌∷◌, ◌++◌, length, bit_and, if◌then◌else◌}
use Rattle.std.specs.List.{list_any, list_all}
use Rattle.std.specs.Char.{is_ascii_digit}
use Rattle.ans_model.specs.declared.note.Note.{Note}
use Rattle.ans_model.specs.declared.note.Note.TheVariants.{WidthAssumed, NoEndMark, SizeDiffers, OddDate, FlagBits}
use Rattle.ans_model.specs.declared.note.Note.TheVariants.{FlagPair}
use Rattle.ans_model.specs.File.Record.{tinfo, file_size, date_field, flags, letter_spacing, aspect_ratio}
use Rattle.ans_model.specs.File.Layout.{content, is_end_mark}

-- the flags' three highest bits, which have no meaning
abbrev pub unused_flags : ℕ
unused_flags = 0xE0

-- the note where the test holds, and else none
abbrev pub note_if : Bool → Note → List Note
note_if test note = if test then note ∷ [] else []

-- N1 to N6: width 0; no end mark; a file size that is neither the length of the content nor one more; a date that is
-- not eight digits; an unused flag that is set; a pair of flags that is 11
abbrev pub notes : List ℕ → List ℕ → List Note
notes body record_bytes =
    note_if (tinfo 1 record_bytes == 0) WidthAssumed
    ++ note_if (not (list_any is_end_mark body)) NoEndMark
    ++ note_if (not (file_size record_bytes == length (content body)
    || file_size record_bytes == length (content body) + 1)) SizeDiffers
    ++ note_if (not (list_all is_ascii_digit (date_field record_bytes))) OddDate
    ++ note_if (not (bit_and (flags record_bytes) unused_flags == 0)) FlagBits
    ++ note_if (aspect_ratio record_bytes == 3 || letter_spacing record_bytes == 3) FlagPair
