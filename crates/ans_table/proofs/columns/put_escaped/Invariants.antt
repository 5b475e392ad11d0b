use Rattle.std.proofs.Common.{take}
use Rattle.std.specs.List.{flat_map}
use Rattle.ans_write.specs.Puts.{Puts}
use Rattle.ans_table.specs.Columns.{escaped_byte}
use Rattle.ans_table.proofs.columns.put_escaped.Given as goal

abbrev pub invariant-loop-byte : goal.invariant-loop-byte
invariant-loop-byte g l =
    Puts g.W.Write.contents l.fn.out l.out (flat_map escaped_byte (take l.byte-index l.text))
