-- What is done on the way to a mended file. Only private contracts cite it.
use Rattle.std.specs.Prelude.{◌≡◌, ◌⊎◌, ◌↔◌, ℕ, ◌+◌, ◌<◌, ◌≤◌, ◌==◌, Bool, true, false, IsTrue, List, Option}
use Rattle.std.specs.Prelude.{length, if◌then◌else◌}
use Rattle.ans_model.specs.Bytes.{longest_file}
use Rattle.ans_model.specs.File.Layout.{FileParts, content}
use Rattle.ans_model.specs.File.Record.{file_size, is_non_blink, stated_lines, stated_size}
use Rattle.ans_model.specs.File.Refusals.{Accepts}
use Rattle.ans_model.specs.Screen.State.{Size}
use Rattle.ans_model.specs.Screen.StartClass.{all_known, none_known}
use Rattle.ans_model.specs.Verdict.Good.{IsGood}
use Rattle.ans_model.specs.declared.fault.Fault.{Fault}
use Rattle.ans_model.specs.declared.mends.Mends.{Mends}
use Rattle.ans_sauce.specs.Fields.{with_file_size, with_record}
use Rattle.ans_sauce.specs.Found.{record_in}
use Rattle.ans_model.specs.Screen.Beginning.{mending}
use Rattle.ans_mend.specs.declared.outcome.Unmended.{Unmended}
use Rattle.ans_pens.specs.declared.times.Times.{Times}
use Rattle.ans_sauce.specs.Contents.{content_in}
use Rattle.ans_mend.specs.declared.judging.Judgement.{Judgement}
use Rattle.ans_mend.specs.declared.judging.Reading.{Reading}
use Rattle.ans_mend.specs.declared.outcome.Edits.{Edits}
use Rattle.ans_mend.specs.declared.outcome.Unmended.TheVariants.{Refused, TooLong}
use Rattle.ans_mend.specs.Mending.{AreNamed, IsEdited, IsFaulty, WantsMending, front_bytes, returned}

-- what is read of a file by its record and its content; none of the lines, if their number is still to be settled
abbrev pub reading_by : Bool → List ℕ → List ℕ → Reading
reading_by lacks sauce content = record {
  size = stated_size sauce;
  non_blink = is_non_blink sauce;
  lines = if lacks then 0 else stated_lines sauce;
  file_size = file_size sauce;
  content = length content;
  counts_end_mark = file_size sauce == length content + 1;
}

abbrev pub reading_in : Bool → List ℕ → Reading
reading_in lacks file = reading_by lacks (record_in file) (content_in file)

-- the file is accepted, and its content passes from the cleared start; the front is wanted where it does not from every
-- start
pub record IsJudgement (mends : Mends) (file : List ℕ) (judgement : Judgement) : Type 0 where
  pub apart : FileParts
  pub accepts : Accepts file apart
  pub cleared : IsGood (stated_size apart.record_bytes) all_known (content apart.body)
  pub every : judgement.front ≡ false → IsGood (stated_size apart.record_bytes) none_known (content apart.body)
  pub wants : IsTrue judgement.front ↔ WantsMending mends (stated_size apart.record_bytes) (content apart.body)
  pub reading : judgement.reading ≡ reading_in false file

-- the reason is a fault that the file has
abbrev pub IsRefused : List ℕ → Unmended → Type 0
IsRefused file reason = (fault : Fault) × (reason ≡ Refused fault) × IsFaulty file fault

-- with its colours named the file is too long
abbrev pub IsNamedTooLong : Mends → List ℕ → Type 0
IsNamedTooLong mends file = (new : List ℕ) × (times : Option Times) × AreNamed mends file new times
    × (longest_file < length new)

-- the file is too long with its returns, or with all that is changed of its content
abbrev pub IsEditedTooLong : Mends → Size → List ℕ → Unmended → Type 0
IsEditedTooLong mends z file reason = (reason ≡ TooLong) × ((longest_file < length (returned mends file))
    ⊎ ((edited : List ℕ) × (edits : Edits) × IsEdited mends z file edited edits × (longest_file < length edited)))

-- The FileSize was set to this for a content of `count` bytes, with what is put before it.
pub record IsSized (front : Bool) (count : ℕ) (counts_end_mark : Bool) (settled : List ℕ) (size : ℕ) (draft : List ℕ)
    : Type 0 where
  pub draft_is : draft ≡ with_record (with_file_size size (record_in settled)) settled
  pub size_is : size ≡ count + length (front_bytes front) + (if counts_end_mark then 1 else 0)
  pub room : length settled + length (front_bytes front) ≤ longest_file

-- the mending is wanted, and there is no room for it
abbrev pub IsTooLong : Bool → List ℕ → Unmended → Type 0
IsTooLong front settled reason = (reason ≡ TooLong) × (front ≡ true) × (longest_file < length settled + length mending)
