-- The end mark after the content.
use Rattle.std.specs.Prelude.{ℕ, Bool, not, ◌&&◌, List, length, if◌then◌else◌, Option, Some, None}
use Rattle.std.specs.List.{list_any}
use Rattle.ans_model.specs.Bytes.{end_mark}
use Rattle.ans_model.specs.File.Layout.{is_end_mark}
use Rattle.ans_model.specs.File.Refusals.{has_record}
use Rattle.ans_sauce.specs.Found.{body_in}
use Rattle.ans_mend.specs.Drafts.{with_byte}

-- the file has a record, and there is no end mark before the comments that it counts
abbrev pub lacks_end_mark : List ℕ → Bool
lacks_end_mark file = has_record file && not (list_any is_end_mark (body_in file))

-- the file with an end mark after its content, before the comments, where it lacks one
abbrev pub with_end_mark : List ℕ → List ℕ
with_end_mark file = if lacks_end_mark file then with_byte (length (body_in file)) end_mark file else file

-- where it is put, if it is
abbrev pub end_mark_put : List ℕ → Option ℕ
end_mark_put file = if lacks_end_mark file then Some (length (body_in file)) else None
