use Rattle.std.proofs.Common.{arith, rules, sym, ap, ◌∙◌}
use Rattle.std.specs.Option.{option_map}
use Rattle.ans_save.proofs.NameLemmas.{fixed_in_folder}
use Rattle.ans_save.proofs.SplitLemmas.{split_at_last}
use Rattle.ans_save.proofs.names.fixed_name.Goals as goal

pub returns-in_ok-fixed-in-Some : goal.returns-in_ok-fixed-in-Some
returns-in_ok-fixed-in-Some c =
    let split = split_at_last 47 c.args.name.now _ c.rsplit_once.ensures.cases (omega arith) in
    let parts = sym (ap (option_map (λ x. (x.0.now, x.1.now))) c.in-Some.is) ∙ split in
    rw (fixed_in_folder c.args.name.now c.in-Some.folder.now c.in-Some.last.now parts) (search rules)

pub returns-in-None : goal.returns-in-None
returns-in-None c =
    let split = split_at_last 47 c.args.name.now _ c.rsplit_once.ensures.cases (omega arith) in
    rw (← split) (grind rules)
