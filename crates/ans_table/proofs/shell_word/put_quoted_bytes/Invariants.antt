use Rattle.std.proofs.Common.{take}
use Rattle.std.specs.List.{flat_map}
use Rattle.ans_write.specs.Puts.{Puts}
use Rattle.ans_table.specs.ShellWord.{quoted_byte}
use Rattle.ans_table.proofs.shell_word.put_quoted_bytes.Given as goal

abbrev pub invariant-loop-byte : goal.invariant-loop-byte
invariant-loop-byte g l = Puts g.W.Write.contents l.fn.out l.out (flat_map quoted_byte (take l.byte-index l.name))
