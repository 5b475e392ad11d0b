use Rattle.ans_laws.proofs.StepChanges.{clears_screen, erases_line}
use Rattle.ans_laws.proofs.step_laws.erasures_blank_cells.Goals as goal

pub returns : goal.returns
returns c = record { clear = clears_screen; line = erases_line }
