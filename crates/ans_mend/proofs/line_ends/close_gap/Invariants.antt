use Rattle.std.proofs.Common.{◌≡◌, ◌+◌, ◌++◌, ℕ, List, length, take, drop}
use Rattle.ans_mend.specs.LineEnds.{with_returns}
use Rattle.ans_mend.proofs.line_ends.close_gap.Given as goal

-- The first bytes are written, those from the next one on still stand behind the gap, and both together are the whole.
abbrev pub invariant-loop-index : goal.invariant-loop-index
invariant-loop-index l =
    let start : List ℕ = l.fn.memory in
    let content : List ℕ = take l.count (drop l.gap start) in
    (length l.memory ≡ length start)
    × (l.written + length (with_returns l.last (drop l.index content)) ≡ length (with_returns 0 content))
    × (take l.written l.memory ++ with_returns l.last (drop l.index content) ≡ with_returns 0 content)
    × (drop (l.gap + l.index) l.memory ≡ drop (l.gap + l.index) start)
