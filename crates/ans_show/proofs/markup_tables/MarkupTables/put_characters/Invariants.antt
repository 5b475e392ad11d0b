use Rattle.std.proofs.Common.{take}
use Rattle.std.specs.List.{flat_map}
use Rattle.ans_write.specs.Puts.{Puts}
use Rattle.ans_show.specs.Markups.{character_in}
use Rattle.ans_show.proofs.markup_tables.MarkupTables.put_characters.Given as goal

abbrev pub invariant-loop-byte : goal.invariant-loop-byte
invariant-loop-byte g l =
    Puts g.W.Write.contents l.fn.out l.out (flat_map (character_in l.self.markup) (take l.byte-index l.bytes))
