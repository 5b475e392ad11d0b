use Rattle.std.proofs.Common.{◌++◌, [], ◌∷◌, List, ℕ, take, ap, ◌∙◌, append_assoc}
use Rattle.ans_redraw.specs.Colours.{colours_to}
use Rattle.ans_redraw.specs.Form.{over, texts}
use Rattle.ans_redraw.proofs.WayTexts.{cell_texts}
use Rattle.ans_redraw.proofs.row.write_cell.Goals as goal

pub returns-clause-text : goal.returns-clause-text
returns-clause-text c =
    let front = take c.args.end c.args.text.now in
    let way = over c.args.from.now.attribute c.args.from.now.passed in
    let sequence = colours_to c.args.from.now.attribute c.args.attribute in
    c.write.ensures.text
    ∙ ap (λ (v : List ℕ). v ++ c.args.byte ∷ [])
    (c.write_colours-colours.ensures.text ∙ ap (λ (v : List ℕ). v ++ texts sequence) c.write_over-way.ensures.text
    ∙ append_assoc front (texts way) (texts sequence))
    ∙ append_assoc front (texts way ++ texts sequence) (c.args.byte ∷ [])
    ∙ ap (λ (v : List ℕ). front ++ v) (cell_texts way sequence c.args.byte)
