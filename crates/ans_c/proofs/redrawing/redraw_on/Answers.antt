use Rattle.std.proofs.Common.{inr}
use Rattle.ans_model.specs.Screen.StartClass.{all_known}
use Rattle.ans_verdict.proofs.VerdictLemmas.{refuses}
use Rattle.ans_c.proofs.Redrawings.{held_with}
use Rattle.ans_c.proofs.redrawing.redraw_on.Goals as goal

pub returns-in-Ok : goal.returns-in-Ok
returns-in-Ok g c =
    held_with c.args.file.now c.args.parts.now c.in-Ok.picture c.requires.split c.in-Ok.ensures.good _ _
    c.redraw_with.result c.redraw_with.ensures.redrawn c.redraw_with.ensures.too_long c.redraw_with.ensures.copied

pub returns-in-Err : goal.returns-in-Err
returns-in-Err g c =
    let refused = refuses c.args.file.now all_known c.args.parts.now c.requires.split c.in-Err.fault
    c.in-Err.ensures.refused in
    inr (refused.0, refused.2)
