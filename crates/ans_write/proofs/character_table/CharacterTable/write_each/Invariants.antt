use Rattle.std.proofs.Common.{◌≡◌, ◌≤◌, ◌+◌, ◌*◌, ◌++◌, take}
use Rattle.ans_model.specs.Text.Characters.{shown_bytes}
use Rattle.ans_write.proofs.character_table.CharacterTable.write_each.Given as goal

abbrev pub invariant-loop-byte : goal.invariant-loop-byte
invariant-loop-byte l = record {
  within : l.end ≤ l.start + 4 * l.byte-index;
  so_far : take l.end l.text ≡ take l.start l.fn.text ++ shown_bytes (take l.byte-index l.bytes);
}
