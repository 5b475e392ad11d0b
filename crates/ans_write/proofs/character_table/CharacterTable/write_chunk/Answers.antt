use Rattle.std.proofs.Common.{arith, ◌≡◌, ◌++◌, ℕ, List, length, take, ap, refl, sym, ◌∙◌}
use Rattle.std.proofs.lemmas.List.{take_all}
use Rattle.ans_model.specs.Text.Characters.{shown_bytes}
use Rattle.ans_write.proofs.RowTexts.{front_more, shown_ascii}
use Rattle.ans_write.proofs.character_table.CharacterTable.write_chunk.Goals as goal

pub returns-then-are_ascii-clause-text : goal.returns-then-are_ascii-clause-text
returns-then-are_ascii-clause-text c =
    let bytes = c.args.bytes.now in
    let text = c.args.text.now in
    let piece = c.copy_from_slice.new.self in
    let is : piece ≡ bytes = c.copy_from_slice.ensures.after in
    let long : length piece ≡ 16 = ap length is ∙ c.requires.chunk in
    let whole : take 16 piece ≡ shown_bytes bytes =
    take_all 16 piece (omega arith) ∙ is ∙ sym (shown_ascii bytes (c.if-are_ascii.ensures refl)) in
    front_more text piece c.args.start _ 16 (omega arith) (omega arith)
    ∙ ap (λ (x : List ℕ). take c.args.start text ++ x) whole
