use Rattle.std.proofs.Common.{arith, ◌≡◌, ◌++◌, List, ℕ, length, take, ap, ◌∙◌}
use Rattle.std.proofs.lemmas.List.{length-take, length-drop}
use Rattle.ans_write.proofs.RowTexts.{front_more}
use Rattle.ans_redraw.proofs.piece.write.Goals as goal

pub returns-clause-text : goal.returns-clause-text
returns-clause-text g c =
    let written = c.copy_from_slice.new.self in
    let count = c.args.count in
    let long : length written ≡ length c.args.piece.now =
    c.copy_from_slice.ensures.len ∙ simp (length-take, length-drop) (omega (arith, c.requires)) in
    front_more c.args.text.now written c.args.end _ count (omega (arith, c.requires)) (omega (arith, long))
    ∙ ap (λ (v : List ℕ). take c.args.end c.args.text.now ++ take count v) c.copy_from_slice.ensures.after
