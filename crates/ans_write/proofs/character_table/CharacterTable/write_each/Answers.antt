use Rattle.std.proofs.Common.{arith, ◌≡◌, ◌≤◌, ◌<◌, ◌∙◌, length, get_or, take, ap, []}
use Rattle.std.proofs.lemmas.List.{length-take, length-drop}
use Rattle.ans_write.specs.Tables.{byte_text}
use Rattle.ans_write.proofs.RowTexts.{character_more}
use Rattle.ans_write.proofs.character_table.CharacterTable.write_each.Goals as goal

pub overflow_add-end-in-loop-byte : goal.overflow_add-end-in-loop-byte
overflow_add-end-in-loop-byte c =
    let b = get_or c.args.bytes.now c.loop-byte.byte-index 0 in
    let byte : b < 256 = omega (arith, (c.type_inv.bytes c.loop-byte.byte-index).fits) in
    let short : get_or c.args.self.now.counts b 0 ≤ 4 = (c.args.self.now.shown b [] 0 byte).short in
    grind (arith, c.loop-byte.invariant.within, short)

pub loop-byte-preserved : goal.loop-byte-preserved
loop-byte-preserved c =
    let i = c.loop-byte.byte-index in
    let h = c.loop-byte.invariant in
    let b = get_or c.args.bytes.now i 0 in
    let table = c.args.self.now in
    let count = get_or table.counts b 0 in
    let piece = c.copy_from_slice.new.self in
    let byte : b < 256 = omega (arith, (c.type_inv.bytes i).fits) in
    let small : count ≤ 4 = (table.shown b [] 0 byte).short in
    let spelled : take count piece ≡ byte_text b =
    ap (take count) c.copy_from_slice.ensures.after ∙ (table.shown b [] 0 byte).spells in
    let four : length piece ≡ 4 = c.copy_from_slice.ensures.len ∙ simp (length-take, length-drop) (omega arith) in
    record {
      within = omega arith;
      so_far = character_more (take c.args.start c.args.text.now) c.loop-byte.text piece c.args.bytes.now
          c.loop-byte.end _ count i 0 (omega arith) (omega arith) h.so_far c.loop-byte-test.true spelled;
    }
