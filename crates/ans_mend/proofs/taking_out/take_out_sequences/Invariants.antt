use Rattle.std.proofs.Common.{◌≡◌, ◌≤◌, ◌-◌, ℕ, List, ◌++◌, length, take, drop}
use Rattle.ans_forms.specs.declared.kinds.TheConstants.Before as before
use Rattle.ans_mend.specs.TakingOut.{Gone, TakesOut, counted_of}
use Rattle.ans_forms.specs.declared.kinds.Before.{Before}
use Rattle.ans_mend.proofs.taking_out.take_out_sequences.Given as goal

-- What has gone so far, and what goes of the rest, goes in the end.
abbrev pub invariant-sequences : goal.invariant-sequences
invariant-sequences l =
    let start : List ℕ = take l.count l.fn.memory in
    record {
      same_length : length l.memory ≡ length l.fn.memory;
      order : l.kept ≤ l.read;
      within : l.read ≤ l.count;
      left : drop l.read l.memory ≡ drop l.read l.fn.memory;
      gone : List Gone;
      few : length gone ≤ l.read;
      told : l.told ≡ counted_of gone;
      goes_on : (more : List Gone) (left : List ℕ) (end : Before)
          → TakesOut l.before l.read more (drop l.read start) left end
          → TakesOut before.NOTHING 0 (gone ++ more) start (take l.kept l.memory ++ left) end;
    }

abbrev pub decreases-sequences : goal.decreases-sequences
decreases-sequences l = l.count - l.read
