use Rattle.std.proofs.Common.{◌≡◌, drop}
use Rattle.ans_samples.specs.Edits.{edited}
use Rattle.ans_samples.proofs.file.sample_file.Given as goal

-- the edits that are left lead to the record that all of them lead to
abbrev pub invariant-loop-at : goal.invariant-loop-at
invariant-loop-at l = edited l.sauce (drop l.at-index l.edits) ≡ edited l.initial.sauce l.edits
