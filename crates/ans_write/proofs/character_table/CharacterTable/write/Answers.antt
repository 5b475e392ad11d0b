use Rattle.std.proofs.Common.{arith, ◌+◌, ◌++◌, ◌-◌, ℕ, List, take, drop, length, ap, ◌∙◌}
use Rattle.std.proofs.lemmas.List.{take_all}
use Rattle.ans_model.specs.Text.Characters.{shown_bytes}
use Rattle.ans_write.proofs.RowTexts.{shown_more}
use Rattle.ans_write.proofs.character_table.CharacterTable.write.Goals as goal

pub loop-from-preserved : goal.loop-from-preserved
loop-from-preserved c =
    let bytes = c.args.bytes.now in
    let from = c.loop-from.from in
    let behind = shown_bytes (take (from + 16 - from) (drop from bytes)) in
    record {
      before = omega arith;
      within = omega arith;
      so_far = c.write_chunk-end.ensures.text ∙ ap (λ (x : List ℕ). x ++ behind) c.loop-from.invariant.so_far
          ∙ shown_more bytes from (from + 16) (omega arith);
    }

pub returns-clause-text : goal.returns-clause-text
returns-clause-text c =
    let bytes = c.args.bytes.now in
    let from = c.loop-from.from in
    let behind = shown_bytes (take (length bytes - from) (drop from bytes)) in
    c.write_each.ensures.text ∙ ap (λ (x : List ℕ). x ++ behind) c.loop-from.invariant.so_far
    ∙ shown_more bytes from (length bytes) c.loop-from.invariant.before
    ∙ ap shown_bytes (take_all (length bytes) bytes (omega arith))
