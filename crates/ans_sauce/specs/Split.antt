-- Which parts belong to which file.
use Rattle.std.specs.Prelude.{◌≡◌, ℕ, ◌-◌, ◌*◌, IsTrue, List, ◌++◌, length, take, drop, None}
use Rattle.ans_model.specs.File.Record.{comment_count}
use Rattle.ans_model.specs.File.Layout.{FileParts, comment_block}
use Rattle.ans_model.specs.File.Refusals.{Accepts, Refusal, refusals, has_record, first_refusal}
use Rattle.ans_sauce.specs.declared.parts.Parts.{Parts}
use Rattle.ans_sauce.specs.Parts.{ShowsParts}

-- Some body, comments and record lay the file out, nothing in it is refused, and the parts show them.
pub record IsSplit (file : List ℕ) (parts : Parts) : Type 0 where
  pub apart : FileParts
  pub accepts : Accepts file apart
  pub shows : ShowsParts apart parts

-- the last 128 bytes of the file are a record, and the front is what comes before them
pub record EndsInRecord (file front record_bytes : List ℕ) : Type 0 where
  pub found : IsTrue (has_record file)
  pub front_is : front ≡ take (length file - 128) file
  pub record_is : record_bytes ≡ drop (length file - 128) file

-- what comes before the record is the body and the block of this many comments
pub record IsCut (count : ℕ) (front body comment_bytes : List ℕ) : Type 0 where
  pub comments : length comment_bytes ≡ 64 * count
  pub whole : front ≡ body ++ comment_block count comment_bytes

-- F2 to F7, the refusals of a file with a record except for the last
abbrev pub record_refusals : List ℕ → List ℕ → List Refusal
record_refusals front record_bytes = take 6 (refusals front record_bytes)

-- none of these applies, and the front is the body and the block of the comments that the record counts
pub record PassesRecord (front record_bytes body comment_bytes : List ℕ) : Type 0 where
  pub none : first_refusal (record_refusals front record_bytes) ≡ None
  pub cut : IsCut (comment_count record_bytes) front body comment_bytes
