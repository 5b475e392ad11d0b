use Rattle.std.specs.Prelude.{List, [], map}
use Rattle.std.proofs.Common.{drop}
use Rattle.ans_save.specs.Saving.{Knows}
use Rattle.ans_save.specs.declared.disk.Identity.{Identity}
use Rattle.ans_save.proofs.saves.Saves.new.Given as goal

-- what comes of the inputs that are left is what comes of all
abbrev pub invariant-loop-input : goal.invariant-loop-input
invariant-loop-input g l = (after : List Identity)
    → Knows g.D.Disk.sees g.D.Disk.fails l.disk l.known.items (map (λ n. n.now) (drop l.input-index l.inputs)) after
    → Knows g.D.Disk.sees g.D.Disk.fails l.disk [] (map (λ n. n.now) l.inputs) after
