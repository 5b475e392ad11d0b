use Rattle.std.proofs.Common.{arith, ◌<◌, ◌++◌, List, ℕ, take, ap, ◌∙◌}
use Rattle.ans_show.proofs.markup_tables.MarkupTables.write_character.Goals as goal

pub returns-clause-text : goal.returns-clause-text
returns-clause-text c =
    let b = c.args.byte in
    let byte : b < 256 = omega (arith, c.ranges.byte.fits) in
    c.write_to.ensures.text
    ∙ ap (λ (v : List ℕ). take c.args.end c.args.text.now ++ v)
    (c.args.self.now.shown b c.index-self-byte.result byte)
