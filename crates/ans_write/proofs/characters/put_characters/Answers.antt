use Rattle.std.proofs.Common.{arith, sym}
use Rattle.ans_write.specs.Tables.{byte_text}
use Rattle.ans_write.proofs.RowTexts.{shown_bytes_is}
use Rattle.ans_write.proofs.PutsLemmas.{Puts-same, Puts-next, Puts-every}
use Rattle.ans_write.proofs.characters.put_characters.Goals as goal

pub loop-byte-preserved : goal.loop-byte-preserved
loop-byte-preserved g c =
    Puts-next byte_text c.args.bytes.now c.loop-byte.byte-index 0 c.loop-byte-test.true c.loop-byte.invariant
    c.put_character.ensures

pub returns : goal.returns
returns g c =
    let bytes = c.args.bytes.now in
    Puts-same (sym (shown_bytes_is bytes))
    (Puts-every byte_text bytes c.loop-byte.byte-index (omega arith) c.loop-byte.invariant)
