use Rattle.std.proofs.Common.{◌-◌, length}
use Rattle.ans_mend.proofs.NamedGrowth.{GrownTo}
use Rattle.ans_mend.proofs.name_colours.growth_of.Given as goal

abbrev pub invariant-sequences : goal.invariant-sequences
invariant-sequences l = GrownTo l.content l.read l.times l.bytes

abbrev pub decreases-sequences : goal.decreases-sequences
decreases-sequences l = length l.content - l.read
