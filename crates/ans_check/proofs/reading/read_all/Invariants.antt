use Rattle.std.proofs.Common.{◌≡◌, ◌+◌, ◌-◌, ◌≤◌, false, vec_len}
use Rattle.std.specs.Io.KnownBytes.{Consumes}
use Rattle.ans_write.specs.Tried.{has_failed, call_count, inner_of}
use Rattle.ans_check.proofs.reading.read_all.Given as goal

abbrev pub invariant-loop-n : goal.invariant-loop-n
invariant-loop-n g l = (has_failed l.r ≡ false) × (vec_len l.all ≤ 16777216)
    × (call_count l.r ≤ call_count l.fn.r + vec_len l.all)
    × Consumes (g.R.Read.remaining (inner_of l.fn.r)) (g.R.Read.remaining (inner_of l.r)) l.all.items

abbrev pub decreases-loop-n : goal.decreases-loop-n
decreases-loop-n g l = 16777217 - vec_len l.all
