use Rattle.std.proofs.Common.{ℕ, ap, subst, ◌∙◌}
use Rattle.ans_model.specs.Bytes.{most_lines}
use Rattle.ans_model.specs.Screen.State.{Size, sized}
use Rattle.ans_mend.specs.FullRows.{HasFullRows}
use Rattle.ans_mend.proofs.EditLemmas.{rows_joined}
use Rattle.ans_mend.proofs.editing.join_rows.Goals as goal

pub returns-then-mends-clause-file : goal.returns-then-mends-clause-file
returns-then-mends-clause-file c =
    rows_joined c.args.mends.now c.args.size c.args.draft.now.file c.take_out_row_ends.new.self.file
    c.take_out_row_ends.result c.if-mends.true
    (subst (λ (z : Size). HasFullRows c.args.mends.now.mixed z c.args.draft.now.file c.take_out_row_ends.new.self.file
    c.take_out_row_ends.result) (c.new.ensures ∙ ap (λ (n : ℕ). sized n most_lines) c.width.ensures.width)
    c.take_out_row_ends.ensures.file)
