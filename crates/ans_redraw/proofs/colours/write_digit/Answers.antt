use Rattle.std.proofs.Common.{◌++◌, List, ℕ, ◌+◌, [], ◌∷◌, take, ap, ◌∙◌}
use Rattle.ans_model.specs.Bytes.{semicolon}
use Rattle.ans_redraw.proofs.NumberTexts.{digit_if}
use Rattle.ans_redraw.proofs.colours.write_digit.Goals as goal

pub returns-clause-text : goal.returns-clause-text
returns-clause-text c =
    c.write.ensures.text
    ∙ ap (λ (v : List ℕ). take c.args.end c.args.text.now ++ v)
    (ap (λ (k : ℕ). take k ((0x30 + c.args.number) ∷ semicolon ∷ [])) c.length_if.ensures
    ∙ digit_if c.args.is_there c.args.number c.requires.digit)
