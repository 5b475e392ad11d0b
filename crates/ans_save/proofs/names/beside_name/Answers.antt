use Rattle.std.proofs.Common.{arith, rules, sym, ap, ◌∙◌}
use Rattle.std.specs.Option.{option_map}
use Rattle.ans_save.proofs.NameLemmas.{beside_alone, beside_in_folder}
use Rattle.ans_save.proofs.SplitLemmas.{split_at_last}
use Rattle.ans_save.proofs.names.beside_name.Goals as goal

pub returns-in-Some : goal.returns-in-Some
returns-in-Some c =
    let split = split_at_last 47 c.args.target.now _ c.rsplit_once.ensures.cases (omega arith) in
    let parts = sym (ap (option_map (λ x. (x.0.now, x.1.now))) c.in-Some.is) ∙ split in
    rw (beside_in_folder c.args.target.now c.in-Some.folder.now c.in-Some.field-0-1.now c.args.number parts)
    (search rules)

pub returns-in-None : goal.returns-in-None
returns-in-None c =
    let split = split_at_last 47 c.args.target.now _ c.rsplit_once.ensures.cases (omega arith) in
    let parts = sym (ap (option_map (λ x. (x.0.now, x.1.now))) c.in-None.is) ∙ split in
    rw (beside_alone c.args.target.now c.args.number parts) (search rules)
