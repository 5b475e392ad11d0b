use Rattle.std.proofs.Common.{ℕ, take, drop, ap, sym, ◌∙◌}
use Rattle.ans_sauce.proofs.Splitting.{end_of_content, length-content}
use Rattle.ans_sauce.proofs.layout.cut_content.Goals as goal

pub returns : goal.returns
returns c =
    let end = end_of_content c.args.body.now c.first_end_mark.result c.unwrap_or.result c.first_end_mark.ensures
    c.unwrap_or.ensures in
    record {
      content = c.split_at.ensures.front ∙ ap (λ (v : ℕ). take v c.args.body.now) end;
      rest = c.split_at.ensures.back ∙ ap (λ (v : ℕ). drop v c.args.body.now)
          (end ∙ sym (length-content c.args.body.now));
    }
