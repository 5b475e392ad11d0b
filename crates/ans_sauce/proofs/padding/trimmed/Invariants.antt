use Rattle.std.proofs.Common.{◌≡◌, ◌≤◌, length, take}
use Rattle.ans_model.specs.File.Record.{trimmed}
use Rattle.ans_sauce.proofs.padding.trimmed.Given as goal

abbrev pub decreases-loop-end : goal.decreases-loop-end
decreases-loop-end l = l.end

abbrev pub invariant-loop-end : goal.invariant-loop-end
invariant-loop-end l = (l.end ≤ length l.text) × (trimmed (take l.end l.text) ≡ trimmed l.text)
