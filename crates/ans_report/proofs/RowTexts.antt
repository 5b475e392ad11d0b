-- The texts of the rows of faults and notes are those of the definitions.
use Rattle.std.proofs.Common.{◌≡◌, ℕ, List, [], get_or, map, refl}
use Rattle.std.specs.Borrow.{Bor}
use Rattle.ans_model.specs.Text.FaultText.{fault_text}
use Rattle.ans_model.specs.declared.fault.Cause.{Cause}
use Rattle.ans_model.specs.declared.fault.Cause.TheVariants.{UnknownCell}
use Rattle.ans_report.specs.Meanings.{fault_help, fault_place}
use Rattle.ans_report.specs.declared.meanings.Help.{Help}
use Rattle.ans_report.specs.declared.meanings.Help.TheVariants.{Look}
use Rattle.ans_report.specs.declared.meanings.TheConstants.{FAULTS}

abbrev pub FaultRow : Type 0
FaultRow = Bor (List ℕ) × Help × Bor (List ℕ)

abbrev pub NoteRow : Type 0
NoteRow = Bor (List ℕ) × Bor (List ℕ)

pub fault_text_is : (cause : Cause) → get_or (map (λ row. row.0.now) FAULTS) (fault_place cause) [] ≡ fault_text cause
fault_text_is (UnknownCell row col) = refl
fault_text_is cause = refl

pub fault_help_is : (cause : Cause) → get_or (map (λ row. row.1) FAULTS) (fault_place cause) Look ≡ fault_help cause
fault_help_is (UnknownCell row col) = refl
fault_help_is cause = refl
