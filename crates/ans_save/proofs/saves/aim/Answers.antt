use Rattle.std.specs.Option.{option_map}
use Rattle.ans_save.proofs.RefusedLemmas.{if_err, refused_target}
use Rattle.ans_save.proofs.saves.aim.Goals as goal

pub returns-in_err-permissions-in-Ok-clause-aimless : goal.returns-in_err-permissions-in-Ok-clause-aimless
returns-in_err-permissions-in-Ok-clause-aimless g c =
    if_err c.from_residual.result c.in_err-permissions-in-Ok.field-0.0 _ c.from_residual.ensures.1
    (refused_target g.D.Disk.leads g.D.Disk.sees g.D.Disk.fails g.D.Disk.opens c.args.disk.now c.args.saves.now
    c.args.saving (option_map (λ n. n.now) c.args.input) c.args.named.now c.as_str.result.now
    c.in_err-permissions-in-Ok.field-0.0 (rw c.as_str.ensures.value c.in-Ok.ensures.led)
    c.in_err-permissions-in-Ok.ensures.refused)
