-- An older record between a drawing and its record.
use Rattle.std.specs.Prelude.{ℕ, ◌+◌, Bool, ◌&&◌, nat_eq, nat_le, List, ◌++◌, length, take, drop, codes, Option, None}
use Rattle.std.specs.Prelude.{Some, if◌then◌else◌}
use Rattle.std.specs.List.{list_all, starts_with}
use Rattle.ans_model.specs.File.Refusals.{has_record}
use Rattle.ans_mend.specs.Tail.{is_tail_byte}
use Rattle.ans_pens.specs.declared.times.Times.{Times}
use Rattle.ans_sauce.specs.Contents.{content_in}
use Rattle.ans_sauce.specs.Found.{after_end_mark}

-- the bytes are a record of version 00 and a tail, and none of a drawing
abbrev pub is_older_record : List ℕ → Bool
is_older_record bytes =
    nat_le 128 (length bytes)
    && (starts_with nat_eq bytes (codes "SAUCE00") && list_all is_tail_byte (drop 128 bytes))

-- nothing but that follows the first end mark, up to the comments that are counted
abbrev pub has_older : List ℕ → Bool
has_older file = has_record file && is_older_record (after_end_mark file)

-- where it begins
abbrev pub older_place : List ℕ → ℕ
older_place file = length (content_in file) + 1

-- the file without it, if there is one
abbrev pub without_older : List ℕ → List ℕ
without_older file =
    if has_older file then take (older_place file) file ++ drop (older_place file + length (after_end_mark file)) file
    else file

-- how many bytes that takes out, and where the first was
abbrev pub older_gone : List ℕ → Option Times
older_gone file =
    if has_older file then Some (record { count = length (after_end_mark file); first = older_place file }) else None
