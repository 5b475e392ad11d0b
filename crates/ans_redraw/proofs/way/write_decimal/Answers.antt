use Rattle.std.proofs.Common.{◌++◌, List, ℕ, take, ap, ◌∙◌, arith}
use Rattle.ans_redraw.proofs.WayTexts.{ones, tens, hundreds}
use Rattle.ans_redraw.proofs.way.write_decimal.Goals as goal

pub returns-then-number-lt10-clause-text : goal.returns-then-number-lt10-clause-text
returns-then-number-lt10-clause-text c =
    c.write.ensures.text
    ∙ ap (λ (v : List ℕ). take c.args.end c.args.text.now ++ v) (ones c.args.number c.if-number-lt10.true)

pub returns-then-number-lt100-clause-text : goal.returns-then-number-lt100-clause-text
returns-then-number-lt100-clause-text c =
    c.write-then-number-lt100.ensures.text
    ∙ ap (λ (v : List ℕ). take c.args.end c.args.text.now ++ v)
    (tens c.args.number c.if-number-lt10.false c.if-number-lt100.true)

pub returns-clause-text : goal.returns-clause-text
returns-clause-text c =
    c.write-2.ensures.text
    ∙ ap (λ (v : List ℕ). take c.args.end c.args.text.now ++ v)
    (hundreds c.args.number c.if-number-lt100.false (omega (arith, c.ranges.number.fits)))
