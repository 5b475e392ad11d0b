use Rattle.std.proofs.Common.{ℕ, List, ap, ◌∙◌, subst₂}
use Rattle.ans_model.specs.Bytes.{most_lines}
use Rattle.ans_model.specs.File.Record.{stated_width}
use Rattle.ans_pens.specs.Lines.{IsNeverGood}
use Rattle.ans_why.proofs.explain.enough.Goals as goal

pub returns-in_default-clause-none : goal.returns-in_default-clause-none
returns-in_default-clause-none c lacks =
    let found = rw c.in_ok-content.field-0-is at c.in_ok-content.ensures.some in
    subst₂ (λ (width : ℕ) (bytes : List ℕ). IsNeverGood width bytes most_lines)
    (c.width-width.ensures ∙ ap stated_width found.record_is) found.content_is c.in_default.ensures.none
