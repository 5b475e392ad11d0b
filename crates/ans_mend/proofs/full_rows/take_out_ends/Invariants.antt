use Rattle.std.proofs.Common.{◌≡◌, ◌≤◌, ◌-◌, ℕ, List, ◌++◌, length, take, drop, None}
use Rattle.std.specs.List.{flat_map}
use Rattle.ans_pens.specs.Counted.{count_of}
use Rattle.ans_hints.specs.FullRowEnds.{AreEndsOver, bytes_of, without, without_ends}
use Rattle.ans_hints.specs.declared.full_row_ends.FullRowEnd.{FullRowEnd}
use Rattle.ans_mend.specs.FullRows.{times_with}
use Rattle.ans_mend.proofs.full_rows.take_out_ends.Given as goal

-- What is kept so far, and what is kept of the rest, is what is left in the end.
abbrev pub invariant-ends : goal.invariant-ends
invariant-ends l =
    let start : List ℕ = take l.count l.fn.memory in
    record {
      same_length : length l.memory ≡ length l.fn.memory;
      read : l.read ≡ l.rows.played;
      order : l.kept ≤ l.read;
      within : l.read ≤ l.count;
      left : drop l.read l.memory ≡ drop l.read l.fn.memory;
      few : count_of l.times ≤ l.read;
      over : (ends : List FullRowEnd) → AreEndsOver l.fn.rows start ends → (later : List FullRowEnd)
          × AreEndsOver l.rows (drop l.read start) later
          × (take l.kept l.memory ++ without l.read (flat_map bytes_of later) (drop l.read start)
          ≡ without_ends 0 ends start)
          × (times_with l.times later ≡ times_with None ends);
    }

abbrev pub decreases-ends : goal.decreases-ends
decreases-ends l = l.count - l.read
