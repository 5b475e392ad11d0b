use Rattle.std.proofs.Common.{◌≡◌, ℕ, ◌<◌, List, length, get_or}
use Rattle.ans_model.specs.Text.Hexadecimal.{hex_byte}
use Rattle.ans_write.proofs.tables.digit_table.Given as goal

abbrev pub invariant-loop-byte : goal.invariant-loop-byte
invariant-loop-byte l = record {
  size : length l.table ≡ 256;
  so_far : (b : ℕ) (d : List ℕ) → b < l.byte → get_or l.table b d ≡ hex_byte b;
}
