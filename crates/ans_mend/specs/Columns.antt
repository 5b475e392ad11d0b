-- The width that a record states.
use Rattle.std.specs.Prelude.{ℕ, List, Option, None, Some, if◌then◌else◌}
use Rattle.ans_model.specs.File.Record.{stated_width}
use Rattle.ans_model.specs.File.Refusals.{has_record}
use Rattle.ans_sauce.specs.Fields.{overwritten, two_bytes, with_record}
use Rattle.ans_sauce.specs.Found.{record_in}
use Rattle.ans_sauce.specs.declared.writing.Reset.{Reset}

-- TInfo1, the width in columns
abbrev pub with_width : ℕ → List ℕ → List ℕ
with_width width record_bytes = overwritten 96 (two_bytes width) record_bytes

-- the file with this width in its record, if it has one
abbrev pub with_columns : ℕ → List ℕ → List ℕ
with_columns width file =
    if has_record file then with_record (with_width width (record_in file)) file else file

-- the width that the record stated, and this one, if there is a record
abbrev pub columns_set : ℕ → List ℕ → Option Reset
columns_set width file =
    if has_record file then Some (record { was = stated_width (record_in file); is = width }) else None
