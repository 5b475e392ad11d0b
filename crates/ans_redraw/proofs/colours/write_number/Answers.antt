use Rattle.std.proofs.Common.{◌++◌, List, ℕ, ◌+◌, ◌/◌, ◌%◌, [], ◌∷◌, take, ap, ◌∙◌}
use Rattle.ans_model.specs.Bytes.{semicolon}
use Rattle.ans_redraw.proofs.NumberTexts.{number_is_there}
use Rattle.ans_redraw.proofs.colours.write_number.Goals as goal

pub returns-clause-text : goal.returns-clause-text
returns-clause-text c =
    let n = c.args.number in
    c.write.ensures.text
    ∙ ap (λ (v : List ℕ). take c.args.end c.args.text.now ++ v)
    (ap (λ (k : ℕ). take k ((0x30 + n / 10) ∷ (0x30 + n % 10) ∷ semicolon ∷ [])) c.length_if.ensures
    ∙ number_is_there c.args.is_there n c.requires.two c.requires.digits)
