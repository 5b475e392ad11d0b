-- A file whose content is redrawn.
use Rattle.std.specs.Prelude.{◌≡◌, ℕ, ◌-◌, ◌^◌, ◌≤◌, ◌<◌, min, List, [], ◌∷◌, ◌++◌, length, drop}
use Rattle.std.specs.Prelude.{Option, Some, None, if◌then◌else◌}
use Rattle.std.specs.List.{list_any}
use Rattle.ans_model.specs.Bytes.{end_mark, longest_file}
use Rattle.ans_model.specs.File.Layout.{after_content, is_end_mark}
use Rattle.ans_model.specs.File.Record.{file_size}
use Rattle.ans_model.specs.Verdict.Good.{Picture}
use Rattle.ans_sauce.specs.Found.{body_in, front_in, record_in}
use Rattle.ans_sauce.specs.Fields.{with_file_size}
use Rattle.ans_sauce.specs.Contents.{content_in}
use Rattle.ans_redraw.specs.Form.{form_bytes}
use Rattle.ans_redraw.specs.declared.outcome.Redrawn.{Redrawn}
use Rattle.ans_redraw.specs.declared.outcome.Unredrawn.{Unredrawn}
use Rattle.ans_redraw.specs.declared.outcome.Unredrawn.TheVariants as unredrawn

-- the end marks after a body's content, and one if there are none
abbrev pub marked_end : List ℕ → List ℕ
marked_end body = if list_any is_end_mark body then after_content body else end_mark ∷ []

-- what is between a file's body and its record: the comments
abbrev pub block_in : List ℕ → List ℕ
block_in file = drop (length (body_in file)) (front_in file)

-- The file with the form of the picture as its content. End marks and comments stay, one end mark is added if there is
-- none, and only the FileSize of the record changes: it is the length of the content.
abbrev pub redrawn_file : List ℕ → Picture → List ℕ
redrawn_file file picture =
    form_bytes picture
    ++ (marked_end (body_in file)
    ++ (block_in file ++ with_file_size (length (form_bytes picture)) (record_in file)))

-- where an end mark is put, if it is, in bytes from the new file's start
abbrev pub end_mark_put : List ℕ → Picture → Option ℕ
end_mark_put file picture = if list_any is_end_mark (body_in file) then None else Some (length (form_bytes picture))

-- what was changed of a file that is redrawn with this picture
pub record IsToldOf (file : List ℕ) (picture : Picture) (redrawn : Redrawn) : Type 0 where
  pub length_was : redrawn.content.was ≡ length (content_in file)
  pub length_is : redrawn.content.is ≡ length (form_bytes picture)
  pub end_mark : redrawn.end_mark ≡ end_mark_put file picture
  pub size_was : redrawn.file_size.was ≡ file_size (record_in file)
  pub size_is : redrawn.file_size.is ≡ length (form_bytes picture)
  pub whole : redrawn.whole ≡ length (redrawn_file file picture)

-- a file has room for it, and this was changed
pub record IsRedrawnWith (file : List ℕ) (picture : Picture) (redrawn : Redrawn) : Type 0 where
  pub told : IsToldOf file picture redrawn
  pub room : length (redrawn_file file picture) ≤ longest_file

-- No file has room for it, and its length is reported, or 2^64 - 1 if it is more.
pub record IsTooLong (file : List ℕ) (picture : Picture) (reason : Unredrawn) : Type 0 where
  pub reason_is : reason ≡ unredrawn.TooLong (min (length (redrawn_file file picture)) (2 ^ 64 - 1))
  pub long : longest_file < length (redrawn_file file picture)
