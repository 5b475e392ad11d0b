use Rattle.std.proofs.Common.{ap, ◌∙◌, ◌+◌, ◌-◌, length, ℕ, List}
use Rattle.ans_sauce.specs.Fields.{overwritten, two_bytes}
use Rattle.ans_mend.proofs.RecordWidth.{of_width}
use Rattle.ans_mend.proofs.columns.set_width.Goals as goal

pub returns : goal.returns
returns c =
    c.overwrite.ensures ∙ ap (λ (v : List ℕ). overwritten (length c.args.file.now - 128 + 96) v c.args.file.now)
    c.to_le_bytes.ensures
    ∙ of_width c.args.file.now (two_bytes c.args.width) 96 c.requires
