use Rattle.std.proofs.Common.{◌≡◌, ◌≤◌, ◌-◌, ◌*◌, length, take}
use Rattle.ans_model.specs.Text.Characters.{shown_bytes}
use Rattle.ans_write.proofs.character_table.CharacterTable.write.Given as goal

abbrev pub invariant-loop-from : goal.invariant-loop-from
invariant-loop-from l = record {
  before : l.from ≤ length l.bytes;
  within : l.end ≤ 4 * l.from;
  so_far : take l.end l.text ≡ shown_bytes (take l.from l.bytes);
}

abbrev pub decreases-loop-from : goal.decreases-loop-from
decreases-loop-from l = length l.bytes - l.from
