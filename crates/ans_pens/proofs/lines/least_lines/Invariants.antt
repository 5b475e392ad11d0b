use Rattle.std.proofs.Common.{ℕ, ◌-◌, ◌<◌, ◌≤◌}
use Rattle.ans_model.specs.Bytes.{most_lines}
use Rattle.ans_pens.specs.Lines.{IsGoodOn}
use Rattle.ans_pens.proofs.lines.least_lines.Given as goal

-- the content is good with `enough` lines, and with fewer than `refused` it is not
abbrev pub invariant-halves : goal.invariant-halves
invariant-halves l = record {
  enough : IsGoodOn l.width l.content l.enough;
  fewer : (n : ℕ) → n < l.refused → ¬ IsGoodOn l.width l.content n;
  some : 0 < l.refused;
  order : l.refused ≤ l.enough;
  most : l.enough ≤ most_lines;
}

abbrev pub decreases-halves : goal.decreases-halves
decreases-halves l = l.enough - l.refused
