-- The words and labels of a row: its verdict, taller screens, faults and notes.
use Rattle.std.specs.Prelude.{ℕ, Bool, true, false, List, [], ◌++◌, map, codes, decimal}
use Rattle.ans_model.specs.declared.fault.Cause.{Cause}
use Rattle.ans_model.specs.declared.note.Note.{Note}
use Rattle.ans_model.specs.Text.FaultText.{cause_number, note_number}
use Rattle.ans_model.specs.Text.Words.{words_text}
use Rattle.ans_report.specs.Words.{later_word}
use Rattle.ans_table.specs.declared.counts.Outcome.{Outcome}
use Rattle.ans_table.specs.declared.counts.Outcome.TheVariants.{Pass, Cleared, Refused, Unread}

-- the verdict on a file
abbrev pub verdict_word : Outcome → List ℕ
verdict_word Pass = codes "pass"
verdict_word Cleared = codes "cleared"
verdict_word Refused = codes "refused"
verdict_word Unread = codes "error"

-- `same` if the picture is shown to be the same on every taller screen, else nothing
abbrev pub taller_word : Bool → List ℕ
taller_word true = codes "same"
taller_word false = []

-- the label of a fault, as `F20`
abbrev pub fault_label : Cause → List ℕ
fault_label cause = codes "F" ++ decimal (cause_number cause)

-- the label of each note, as `N1`
abbrev pub note_label : Note → List ℕ
note_label note = codes "N" ++ decimal (note_number note)

-- the labels of notes, with a blank between each two
abbrev pub labels_text : List Note → List ℕ
labels_text notes = words_text (map note_label notes)

-- the label of a note after a blank
abbrev pub later_label : Note → List ℕ
later_label note = later_word (note_label note)
