use Rattle.std.proofs.Common.{rules}
use Rattle.std.specs.Option.{option_map}
use Rattle.ans_save.proofs.RefusedLemmas.{does_not_open, if_err, look_fails, not_to_replace}
use Rattle.ans_save.proofs.saves.permissions.Goals as goal

pub returns-in_err-found-clause-refused : goal.returns-in_err-found-clause-refused
returns-in_err-found-clause-refused g c =
    if_err c.from_residual.result c.in_err-found.field-0.0 _ c.from_residual.ensures.1
    (look_fails g.D.Disk.leads g.D.Disk.sees g.D.Disk.fails g.D.Disk.opens c.args.disk.now c.args.saves.now
    c.args.saving (option_map (λ n. n.now) c.args.input) c.args.target.now c.in_err-found.field-0.0
    c.in_err-found.ensures.failed)

pub returns-in-Some-refusal-clause-refused : goal.returns-in-Some-refusal-clause-refused
returns-in-Some-refusal-clause-refused g c =
    not_to_replace g.D.Disk.leads g.D.Disk.sees g.D.Disk.fails g.D.Disk.opens c.args.disk.now c.args.saves.now
    c.args.saving (option_map (λ n. n.now) c.args.input) c.args.target.now c.in-Some-refusal.error c.in-Some.found
    (search rules) (search rules)

pub returns-in-Err-clause-refused : goal.returns-in-Err-clause-refused
returns-in-Err-clause-refused g c =
    does_not_open g.D.Disk.leads g.D.Disk.sees g.D.Disk.fails g.D.Disk.opens c.args.disk.now c.args.saves.now
    c.args.saving (option_map (λ n. n.now) c.args.input) c.args.target.now c.unwritable.result c.in-Some.found
    _ (search rules) c.in-Err.ensures.failed (search rules)
