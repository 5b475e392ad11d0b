use Rattle.std.proofs.Common.{◌≡◌, ◌+◌, ◌∷◌, ◌≤◌, drop}
use Rattle.ans_sauce.specs.Grown.{pairs}
use Rattle.ans_sauce.proofs.grown.count_pairs.Given as goal

-- the pairs that end in a later byte are still to be counted
abbrev pub invariant-loop-byte : goal.invariant-loop-byte
invariant-loop-byte l = record {
  count : l.count + pairs (l.last ∷ drop l.byte-index l.bytes) ≡ pairs l.bytes;
  within : l.count ≤ l.byte-index;
}
