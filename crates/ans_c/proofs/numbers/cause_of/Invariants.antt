use Rattle.std.proofs.Common.{◌≡◌, ℕ, ◌<◌, get_or}
use Rattle.ans_model.specs.Text.FaultText.{cause_number}
use Rattle.ans_model.specs.declared.fault.Cause.TheVariants.{NoRecord}
use Rattle.ans_model.specs.declared.fault.TheConstants.Cause.{EACH}
use Rattle.ans_c.proofs.numbers.cause_of.Given as goal

abbrev pub invariant-loop-cause : goal.invariant-loop-cause
invariant-loop-cause l = (k : ℕ) → k < l.cause-index → cause_number (get_or EACH k NoRecord) ≡ l.number → ⊥
