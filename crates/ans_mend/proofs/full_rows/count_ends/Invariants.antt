use Rattle.std.proofs.Common.{◌≡◌, ◌+◌, ◌-◌, ◌≤◌, List, length, drop}
use Rattle.ans_hints.specs.FullRowEnds.{AreEndsOver}
use Rattle.ans_hints.specs.declared.full_row_ends.FullRowEnd.{FullRowEnd}
use Rattle.ans_mend.proofs.full_rows.count_ends.Given as goal

-- those of the rest are still to be counted
abbrev pub invariant-ends : goal.invariant-ends
invariant-ends l = record {
  read : l.read ≡ l.rows.played;
  within : l.read ≤ length l.fn.content;
  few : l.count ≤ l.read;
  over : (ends : List FullRowEnd) → AreEndsOver l.fn.rows l.fn.content ends → (later : List FullRowEnd)
      × AreEndsOver l.rows (drop l.read l.fn.content) later
      × (length ends ≡ l.count + length later);
}

abbrev pub decreases-ends : goal.decreases-ends
decreases-ends l = length l.fn.content - l.read
