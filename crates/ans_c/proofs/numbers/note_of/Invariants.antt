use Rattle.std.proofs.Common.{◌≡◌, ℕ, ◌<◌, get_or}
use Rattle.ans_model.specs.Text.FaultText.{note_number}
use Rattle.ans_model.specs.declared.note.Note.TheVariants.{WidthAssumed}
use Rattle.ans_model.specs.declared.note.TheConstants.Note.{EACH}
use Rattle.ans_c.proofs.numbers.note_of.Given as goal

abbrev pub invariant-loop-note : goal.invariant-loop-note
invariant-loop-note l = (k : ℕ) → k < l.note-index → note_number (get_or EACH k WidthAssumed) ≡ l.number → ⊥
