use Rattle.ans_write.proofs.PutsLemmas.{Puts-next}
use Rattle.ans_table.specs.Columns.{escaped_byte}
use Rattle.ans_table.proofs.columns.put_escaped.Goals as goal

pub loop-byte-preserved : goal.loop-byte-preserved
loop-byte-preserved g c =
    Puts-next escaped_byte c.args.text.now c.loop-byte.byte-index 0 c.loop-byte-test.true c.loop-byte.invariant
    c.put_escaped_byte.ensures
