use Rattle.std.proofs.Common.{◌≡◌, ℕ, ◌<◌, List, length, get_or}
use Rattle.ans_write.specs.Tables.{byte_text, IsSpelling}
use Rattle.ans_write.proofs.character_table.CharacterTable.new.Given as goal

abbrev pub invariant-loop-byte : goal.invariant-loop-byte
invariant-loop-byte l = record {
  size : length l.bytes ≡ 256;
  sizes : length l.counts ≡ 256;
  so_far : (b : ℕ) (d : List ℕ) (k : ℕ) → b < l.byte
      → IsSpelling (get_or l.bytes b d) (get_or l.counts b k) (byte_text b);
}
