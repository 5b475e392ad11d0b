use Rattle.std.proofs.Common.{◌++◌, List, ℕ, take, ap, sym, ◌∙◌, append-nil}
use Rattle.ans_redraw.proofs.WayTexts.{near_printed, nothing_over}
use Rattle.ans_redraw.proofs.way.write_over.Goals as goal

pub returns-then-blanks-eq0-clause-text : goal.returns-then-blanks-eq0-clause-text
returns-then-blanks-eq0-clause-text c =
    let front = take c.args.end c.args.text.now in
    sym (append-nil front)
    ∙ ap (λ (v : List ℕ). front ++ v) (nothing_over c.args.attribute c.args.blanks c.if-blanks-eq0.true)

pub returns-then-blanks-le4-clause-text : goal.returns-then-blanks-le4-clause-text
returns-then-blanks-le4-clause-text c =
    c.write.ensures.text
    ∙ ap (λ (v : List ℕ). take c.args.end c.args.text.now ++ v)
    (near_printed c.args.attribute c.args.blanks c.if-attribute-eq-GREY.true c.if-blanks-le4.true)
