-- A file that is refused since it states no lines, and would otherwise be accepted.
use Rattle.std.specs.Prelude.{◌≡◌, Bool, not, ◌&&◌, List, ℕ, nat_lt}
use Rattle.ans_model.specs.Bytes.{most_columns}
use Rattle.ans_model.specs.File.Layout.{content, is_clean_end}
use Rattle.ans_model.specs.File.Record.{tinfo}
use Rattle.ans_model.specs.File.Refusals.{has_record}
use Rattle.ans_sauce.specs.Found.{body_in, record_in}
use Rattle.ans_sauce.specs.RecordBytes.{sauce_bytes}
use Rattle.ans_sauce.specs.declared.no_lines.WithoutLines.{WithoutLines}

-- After F5 neither F6 nor F8 would follow: the width is within the limit, and there are only end marks after the
-- content.
abbrev pub lacks_lines_alone : List ℕ → Bool
lacks_lines_alone file =
    has_record file && not (nat_lt most_columns (tinfo 1 (record_in file))) && is_clean_end (body_in file)

-- the file's content and its record
pub record IsWithoutLines (file : List ℕ) (found : WithoutLines) : Type 0 where
  pub content_is : found.content.now ≡ content (body_in file)
  pub record_is : sauce_bytes found.sauce ≡ record_in file
