use Rattle.std.proofs.Common.{◌∙◌, [], ◌∷◌}
use Rattle.ans_mend.proofs.RecordWidth.{of_width}
use Rattle.ans_mend.proofs.comments.set_comments.Goals as goal

pub returns : goal.returns
returns c = c.overwrite.ensures ∙ of_width c.args.file.now (c.args.count ∷ []) 104 c.requires
