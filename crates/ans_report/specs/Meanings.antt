-- What is said of each fault and of each note: the columns of the program's own tables.
use Rattle.std.specs.Prelude.{ℕ, ◌-◌, nat_lt, List, [], get_or, map, if◌then◌else◌}
use Rattle.ans_model.specs.Text.FaultText.{cause_number, note_number}
use Rattle.ans_model.specs.declared.fault.Cause.{Cause}
use Rattle.ans_model.specs.declared.fault.Cause.TheVariants.{BrokenSequence, EndInSequence, KeyReassigned}
use Rattle.ans_model.specs.declared.fault.Cause.TheVariants.{LinesUnstated}
use Rattle.ans_model.specs.declared.fault.Cause.TheVariants.{NoRecord, NumberTooLarge, OutsideScreen, PrintBelow}
use Rattle.ans_model.specs.declared.fault.Cause.TheVariants.{ReportAsked, ScreenMode, Scrolls, TooManyParameters}
use Rattle.ans_model.specs.declared.fault.Cause.TheVariants.{UnknownSequence, WrongParameters}
use Rattle.ans_model.specs.declared.note.Note.{Note}
use Rattle.ans_report.specs.declared.meanings.Help.{Help}
use Rattle.ans_report.specs.declared.meanings.Help.TheVariants.{LeastLines, Look, Place, Record, Rows, TakeOut}
use Rattle.ans_report.specs.declared.meanings.TheConstants.{FAULTS, NOTES}

-- where the row of a fault is: there is no F18
abbrev pub fault_place : Cause → ℕ
fault_place cause = if nat_lt (cause_number cause) 18 then cause_number cause - 1 else cause_number cause - 2

-- what a fault means, and how it is mended
abbrev pub fault_meaning : Cause → List ℕ
fault_meaning cause = get_or (map (λ row. row.2.now) FAULTS) (fault_place cause) []

-- what may be asked for of a file with a fault, for it to be mended
abbrev pub fault_help : Cause → Help
fault_help NoRecord = Record
fault_help LinesUnstated = LeastLines
fault_help BrokenSequence = TakeOut
fault_help NumberTooLarge = TakeOut
fault_help TooManyParameters = TakeOut
fault_help EndInSequence = TakeOut
fault_help UnknownSequence = TakeOut
fault_help WrongParameters = TakeOut
fault_help KeyReassigned = TakeOut
fault_help ScreenMode = TakeOut
fault_help ReportAsked = TakeOut
fault_help OutsideScreen = Place
fault_help PrintBelow = Rows
fault_help Scrolls = Rows
fault_help _ = Look

-- what a note means, and how it is mended
abbrev pub note_meaning : Note → List ℕ
note_meaning note = get_or (map (λ row. row.1.now) NOTES) (note_number note - 1) []
