use Rattle.std.proofs.Common.{arith, false, ◌≡◌, ◌<◌, ◌++◌, List, ℕ, take, ap, ◌∙◌}
use Rattle.std.specs.Prelude.{◌==◌}
use Rattle.std.proofs.lemmas.Bool.{ne_eqb}
use Rattle.ans_show.proofs.markup_tables.MarkupTables.write_break.Goals as goal

pub returns-clause-text : goal.returns-clause-text
returns-clause-text c =
    let a = c.args.attribute in
    let byte : a < 256 = omega (arith, c.ranges.attribute.fits) in
    let other : (c.args.last == a) ≡ false = ne_eqb c.args.last a c.if-last-attribute.false in
    rw other (c.write_to.ensures.text
    ∙ ap (λ (v : List ℕ). take c.args.end c.args.text.now ++ v)
    (c.args.self.now.broken a c.index-self-attribute.result byte))
