-- What is true of the file of a row.
use Rattle.std.specs.Prelude.{◌≡◌, ◌↔◌, ℕ, ◌+◌, ◌-◌, Bool, ◌||◌, IsTrue, IsFalse, List, length, drop, codes}
use Rattle.std.specs.Prelude.{Option, Some, None, Result, Ok, Err, option_map, if◌then◌else◌}
use Rattle.ans_model.specs.declared.cell.Position.{Position}
use Rattle.ans_model.specs.declared.fault.Fault.{Fault}
use Rattle.ans_model.specs.declared.start.Start.{Start}
use Rattle.ans_model.specs.File.Refusals.{has_record}
use Rattle.ans_model.specs.Screen.State.{Size}
use Rattle.ans_model.specs.Screen.StartClass.{all_known}
use Rattle.ans_model.specs.Verdict.Needs.{IsLeast}
use Rattle.ans_sauce.specs.Parts.{content_of, record_of, size_of}
use Rattle.ans_sauce.specs.RecordBytes.{sauce_bytes}
use Rattle.ans_sauce.specs.Judged.{IsJudged, IsRecordFault, parts_in}
use Rattle.ans_sauce.specs.declared.judged.Judged.{Judged}
use Rattle.ans_sauce.specs.declared.judged.Judged.TheVariants.{NoContent, Refused, Passes}
use Rattle.ans_sauce.specs.declared.parts.Parts.{Parts}
use Rattle.ans_model.specs.Verdict.LastFault.{IsDeserved}
use Rattle.ans_pens.specs.Evidence.{ShowsCursors}
use Rattle.ans_kinds.specs.SaidOfPlayers.{IsSaidOfPlayers}
use Rattle.ans_pens.specs.Taller.{IsTaller}
use Rattle.ans_table.specs.declared.counts.Outcome.{Outcome}
use Rattle.ans_table.specs.declared.counts.Outcome.TheVariants as outcome
use Rattle.ans_table.specs.declared.finding.FaultFinding.{FaultFinding}
use Rattle.ans_table.specs.declared.finding.PassFinding.{PassFinding}
use Rattle.ans_table.specs.declared.finding.RecordFinding.{RecordFinding}
use Rattle.ans_table.specs.declared.finding.Unread.{Unread}
use Rattle.ans_table.specs.declared.finding.Unread.TheVariants as why
use Rattle.ans_table.specs.Unopened.{reason_text}

-- before the fault the cursor is in this row and this column, counted from 1, in the play from the cleared start
pub record StandsIn (z : Size) (content : List ℕ) (fault : Fault) (row column : ℕ) : Type 0 where
  pub position : Position
  pub shows : ShowsCursors z all_known content fault position position
  pub row_is : row ≡ position.row + 1
  pub column_is : column ≡ position.column + 1

-- the record in the file's last 128 bytes, if there is one
abbrev pub IsRecordOf : List ℕ → Option (List ℕ) → Type 0
IsRecordOf file (Some bytes) = IsTrue (has_record file) × (bytes ≡ drop (length file - 128) file)
IsRecordOf file None = IsFalse (has_record file)

-- what is said of a record or a layout that is refused is true of the file
pub record IsRecordFinding (file : List ℕ) (said : RecordFinding) : Type 0 where
  pub refused : IsRecordFault file said.fault
  pub sauce : IsRecordOf file (option_map sauce_bytes said.sauce)

-- what is said of a content that is refused from the cleared start is true of it
pub record IsFaultFinding (parts : Parts) (said : FaultFinding) : Type 0 where
  pub deserved : IsDeserved (size_of parts) all_known (content_of parts) said.fault
  pub stands : StandsIn (size_of parts) (content_of parts) said.fault said.row said.column

-- what is said of a content that passes from the cleared start is true of it
pub record IsPassFinding (parts : Parts) (said : PassFinding) : Type 0 where
  pub needs : IsLeast (size_of parts) (content_of parts) said.needs
  pub players : IsSaidOfPlayers (size_of parts) (content_of parts) said.players
  pub taller : IsTrue said.taller ↔ IsTaller (size_of parts) said.needs (content_of parts)

-- what is found of a file that was read
abbrev pub Finding : Type 0
Finding = Judged RecordFinding FaultFinding PassFinding

-- what a row says of a file: what is found of it, or why it was not read
abbrev pub RowFinding : Type 0
RowFinding = Result Finding Unread

-- what is said of a file that was read is true of it
abbrev pub IsFindingOf : List ℕ → Finding → Type 0
IsFindingOf file finding = IsJudged (IsRecordFinding file) IsFaultFinding IsPassFinding file finding

-- the parts of a file that was read, if it has some
abbrev pub parts_of : RowFinding → Option Parts
parts_of (Ok finding) = parts_in finding
parts_of (Err reason) = None

-- the record of a file that was read, if it has one
abbrev pub sauce_in : Finding → Option (List ℕ)
sauce_in (NoContent said) = option_map sauce_bytes said.sauce
sauce_in (Refused parts said) = Some (record_of parts)
sauce_in (Passes parts said) = Some (record_of parts)

-- the record of the file, if one was read
abbrev pub sauce_of : RowFinding → Option (List ℕ)
sauce_of (Ok finding) = sauce_in finding
sauce_of (Err reason) = None

-- whether the starts of this class have to be as the cleared screen in some part
abbrev pub has_needs : Start → Bool
has_needs needs = needs.screen || needs.cursor || needs.saved || needs.colours || needs.wrap

-- a content that passes from the cleared start passes from each start, or only if a part is as on the cleared screen
abbrev pub pass_outcome : Start → Outcome
pass_outcome needs = if has_needs needs then outcome.Cleared else outcome.Pass

-- the outcome of a file that was read
abbrev pub outcome_in : Finding → Outcome
outcome_in (NoContent said) = outcome.Refused
outcome_in (Refused parts said) = outcome.Refused
outcome_in (Passes parts said) = pass_outcome said.needs

-- the outcome of any file
abbrev pub outcome_of : RowFinding → Outcome
outcome_of (Ok finding) = outcome_in finding
outcome_of (Err reason) = outcome.Unread

-- why a file was not read
abbrev pub unread_text : Unread → List ℕ
unread_text (why.Unopened reason) = reason_text reason
unread_text why.ReadFailed = codes "cannot read the file"
unread_text why.TooLong = codes "file above 16777216 bytes"
unread_text why.Memory = codes "out of memory"
unread_text why.NameNotText = codes "name is not UTF-8"
