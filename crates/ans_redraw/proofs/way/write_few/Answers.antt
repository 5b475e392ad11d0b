use Rattle.std.proofs.Common.{◌++◌, List, ℕ, take, ap, ◌∙◌}
use Rattle.ans_redraw.proofs.WayTexts.{few_printed}
use Rattle.ans_redraw.proofs.way.write_few.Goals as goal

pub returns-then-blanks-le4-clause-text : goal.returns-then-blanks-le4-clause-text
returns-then-blanks-le4-clause-text c =
    c.write.ensures.text
    ∙ ap (λ (v : List ℕ). take c.args.end c.args.text.now ++ v)
    (few_printed c.args.attribute c.args.blanks c.if-attribute-eq-GREY.true c.if-blanks-le4.true)
