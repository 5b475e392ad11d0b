use Rattle.std.proofs.Common.{◌≡◌, [], Err, Ok, refl, rules}
use Rattle.ans_model.specs.Screen.StartClass.{all_known}
use Rattle.ans_write.proofs.PutsLemmas.{Puts-nothing}
use Rattle.ans_redraw.specs.RedrawnFile.{redrawn_file}
use Rattle.ans_check.proofs.ReportedLemmas.{is_put}
use Rattle.ans_redraw.proofs.RedrawLemmas.{too_long}
use Rattle.ans_verdict.proofs.VerdictLemmas.{passes}
use Rattle.ans_check.proofs.redraw_file.put_with_picture.Goals as goal

pub returns-in_err-redrawn : goal.returns-in_err-redrawn
returns-in_err-redrawn g c =
    let file = c.args.file.now in
    let p = c.args.picture.now in
    let reason = c.in_err-redrawn.field-0.0 in
    let is : c.from_residual.result ≡ Err reason = search rules in
    let pass = passes file all_known c.args.parts.now c.requires.split p c.requires.good in
    rw is (is_put (Err reason) [] (too_long file pass.0 p reason pass.2 c.in_err-redrawn.ensures.too_long, refl)
    (Puts-nothing _))

pub returns : goal.returns
returns g c =
    let file = c.args.file.now in
    let p = c.args.picture.now in
    let pass = passes file all_known c.args.parts.now c.requires.split p c.requires.good in
    is_put (Ok c.in_ok-redrawn.redrawn) (redrawn_file file p)
    (record {
      apart = pass.0;
      picture = p;
      passes = pass.2;
      changes = c.in_ok-redrawn.ensures.redrawn;
      new_is = refl;
    })
    c.put_redrawn_file.ensures
