use Rattle.std.proofs.Common.{[], Err, refl}
use Rattle.ans_screen.specs.declared.plane_grid.PlaneGrid.{PlaneGrid}
use Rattle.ans_write.proofs.PutsLemmas.{Puts-nothing}
use Rattle.ans_redraw.specs.declared.outcome.Unredrawn.TheVariants.{Refused}
use Rattle.ans_check.proofs.ReportedLemmas.{is_put}
use Rattle.ans_redraw.proofs.RedrawLemmas.{refused_from_cleared}
use Rattle.ans_check.proofs.redraw_file.redraw_file.Goals as goal

pub returns : goal.returns
returns g c = is_put (Err (Refused c.in-Refused.fault)) [] (
  refused_from_cleared PlaneGrid c.args.file.now c.in-Refused.field-0 c.in-Refused.fault
      (rw c.in-Refused.is at c.in_ok-verdict.ensures.verdict),
  refl,
)
    (Puts-nothing c.args.out.now)
