use Rattle.std.proofs.Common.{◌+◌, ◌-◌, ◌==◌, ◌++◌, ◌∙◌, sym, ap, arith, ℕ, List}
use Rattle.ans_mend.specs.Recounted.{blocks_from, comments_for}
use Rattle.ans_mend.proofs.CommentsCounted.{all_tried, first_here, held, no_zero, none_here, none_tried}
use Rattle.ans_mend.proofs.CommentsCounted.{second_here}
use Rattle.ans_mend.proofs.comments.comments_for.Goals as goal
use Rattle.ans_mend.proofs.comments.comments_for.Goals.{then-is_block+else-only-ne0, else-is_block}

pub loop-index-init : goal.loop-index-init
loop-index-init c = record {
  rest = ap (λ (v : List ℕ). comments_for c.args.count v) (none_tried c.args.front.now);
  within = omega arith;
}

pub returns-then-only-ne0 : goal.returns-then-only-ne0
returns-then-only-ne0 c =
    let i = c.loop-index.invariant in
    sym (second_here c.args.front.now c.loop-index.index c.args.count c.loop-index.only c.loop-index-test.true
    (sym c.is_block.ensures ∙ c.if-is_block.true) (no_zero c.loop-index.only c.if-only-ne0.true)) ∙ i.rest

pub loop-index-preserved : goal.loop-index-preserved
loop-index-preserved c =
    let i = c.loop-index.invariant in
    let rest = i.rest in
    let within = i.within in
    elim c.if-is_block.branch [
      | then-is_block+else-only-ne0 w ↦
          record {
            rest = ap (λ (n : ℕ). comments_for c.args.count (held n
                ++ blocks_from c.args.front.now (c.loop-index.index + 1 + 1) (255 - (c.loop-index.index + 1))))
                w.only-is
                ∙ sym (first_here c.args.front.now c.loop-index.index c.args.count c.loop-index.only
                c.loop-index-test.true (sym c.is_block.ensures ∙ w.if-is_block.true)
                (ap (λ (n : ℕ). n == 0) w.if-only-ne0.false)) ∙ rest;
            within = let is = w.only-is in omega (arith, is);
          }
      | else-is_block w ↦
          record {
            rest = ap (λ (n : ℕ). comments_for c.args.count (held n
                ++ blocks_from c.args.front.now (c.loop-index.index + 1 + 1) (255 - (c.loop-index.index + 1))))
                w.only-is
                ∙ sym (none_here c.args.front.now c.loop-index.index c.args.count c.loop-index.only
                c.loop-index-test.true (sym c.is_block.ensures ∙ w.if-is_block.false)) ∙ rest;
            within = let is = w.only-is in omega (arith, is, within);
          }
    ]

pub returns : goal.returns
returns c =
    let i = c.loop-index.invariant in
    sym (all_tried c.args.front.now c.loop-index.index c.args.count c.loop-index.only
    (omega (arith, c.loop-index-test.false, c.loop-index.auto.index-end))) ∙ i.rest
