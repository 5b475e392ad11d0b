-- Each fault and each note has a number in the lists of them.
use Rattle.std.proofs.Common.{◌≡◌, ℕ, ◌-◌, ◌<◌, arith, get_or}
use Rattle.ans_model.specs.Text.FaultText.{cause_number, note_number}
use Rattle.ans_model.specs.declared.fault.Cause.{Cause}
use Rattle.ans_model.specs.declared.fault.Cause.TheVariants.{NoRecord, UnknownCell}
use Rattle.ans_model.specs.declared.fault.TheConstants.Cause as causes
use Rattle.ans_model.specs.declared.note.Note.{Note}
use Rattle.ans_model.specs.declared.note.Note.TheVariants.{WidthAssumed}
use Rattle.ans_model.specs.declared.note.TheConstants.Note as notes
use Rattle.ans_report.specs.Meanings.{fault_place}

pub no_cause : (number : ℕ) → ((k : ℕ) → k < 24 → cause_number (get_or causes.EACH k NoRecord) ≡ number → ⊥)
    → (cause : Cause) → cause_number cause ≡ number → ⊥
no_cause number h (UnknownCell row column) = h 23 (omega arith)
no_cause number h cause = h (fault_place cause) (omega arith)

pub no_note : (number : ℕ) → ((k : ℕ) → k < 6 → note_number (get_or notes.EACH k WidthAssumed) ≡ number → ⊥)
    → (note : Note) → note_number note ≡ number → ⊥
no_note number h WidthAssumed = h 0 (omega arith)
no_note number h note = h (note_number note - 1) (omega arith)
