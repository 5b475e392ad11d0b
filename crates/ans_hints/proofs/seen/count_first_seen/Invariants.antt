use Rattle.std.proofs.Common.{◌≡◌, ◌≤◌, ◌+◌, ℕ, List, Option}
use Rattle.ans_pens.specs.Counted.{count_of, counted_along}
use Rattle.ans_hints.specs.Walks.{seen_at}
use Rattle.ans_pens.specs.declared.times.Times.{Times}
use Rattle.ans_hints.proofs.seen.count_first_seen.Given as goal

-- those before this byte are counted
pub record Counts (first now : Option Times) (run : List ℕ) (offset i : ℕ) : Type 0 where
  pub value : now ≡ counted_along first (seen_at run) offset i
  pub within : count_of now ≤ count_of first + i

abbrev pub invariant-loop-i : goal.invariant-loop-i
invariant-loop-i l = Counts l.fn.times l.times l.run l.offset l.i
