use Rattle.std.proofs.Common.{arith, ◌<◌, get_or}
use Rattle.ans_write.proofs.PutsLemmas.{Puts-same, Puts-next}
use Rattle.ans_show.specs.Markups.{character_in}
use Rattle.ans_show.proofs.markup_tables.MarkupTables.put_characters.Goals as goal

pub loop-byte-preserved : goal.loop-byte-preserved
loop-byte-preserved g c =
    let i = c.loop-byte.byte-index in
    let b = get_or c.args.bytes.now i 0 in
    let byte : b < 256 = omega (arith, (c.type_inv.bytes i).fits) in
    Puts-next (character_in c.args.self.now.markup) c.args.bytes.now i 0 c.loop-byte-test.true c.loop-byte.invariant
    (Puts-same (c.args.self.now.shown b c.index-self-byte.result byte) c.put.ensures)
