use Rattle.std.proofs.Common.{◌≡◌, length}
use Rattle.ans_fix.specs.Suggested.{only_width}
use Rattle.ans_fix.proofs.suggestions.only_width.Given as goal

abbrev pub invariant-widths : goal.invariant-widths
invariant-widths l = only_width l.rest ≡ only_width l.fn.fitting

abbrev pub decreases-widths : goal.decreases-widths
decreases-widths l = length l.rest
