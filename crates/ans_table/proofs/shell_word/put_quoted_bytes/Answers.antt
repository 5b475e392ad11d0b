use Rattle.ans_write.proofs.PutsLemmas.{Puts-next}
use Rattle.ans_table.specs.ShellWord.{quoted_byte}
use Rattle.ans_table.proofs.shell_word.put_quoted_bytes.Goals as goal

pub loop-byte-preserved : goal.loop-byte-preserved
loop-byte-preserved g c =
    Puts-next quoted_byte c.args.name.now c.loop-byte.byte-index 0 c.loop-byte-test.true c.loop-byte.invariant
    c.put_quoted_byte.ensures
