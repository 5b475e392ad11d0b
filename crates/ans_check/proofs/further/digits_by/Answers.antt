use Rattle.std.proofs.Common.{◌∙◌, ap}
use Rattle.hex.specs.Hex.{encode_lower}
use Rattle.ans_screen.specs.declared.plane_grid.PlaneGrid.{PlaneGrid}
use Rattle.ans_redraw.proofs.RedrawLemmas.{refused_from_cleared}
use Rattle.ans_check.proofs.further.digits_by.Goals as goal

pub returns-in-Pass : goal.returns-in-Pass
returns-in-Pass c =
    let verdict = rw c.in-Pass.is at c.requires in
    record {
      apart = verdict.0;
      picture = _;
      passes = verdict.2;
      digits_are = c.digits.ensures ∙ ap encode_lower c.picture_sum.ensures;
    }

pub returns-in-Refused : goal.returns-in-Refused
returns-in-Refused c = (
  c.in-Refused.field-1,
  refused_from_cleared PlaneGrid c.args.file.now c.in-Refused.field-0 c.in-Refused.field-1
      (rw c.in-Refused.is at c.requires),
)
