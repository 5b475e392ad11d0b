use Rattle.std.proofs.Common.{◌∙◌, ap, Some}
use Rattle.clap.specs.Words.{found_of}
use Rattle.clap.proofs.WalkLemmas.{first_value-rows}
use Rattle.ans_options.proofs.command_line.text_given.Goals as goal

pub returns-in-Ok-clause-ok : goal.returns-in-Ok-clause-ok
returns-in-Ok-clause-ok c = ap (λ t. Some t) c.in-Ok.ensures.ok ∙ c.in-Some.ensures
    ∙ first_value-rows (found_of c.args.matches.now) c.args.id.now

pub returns-in-None-clause-ok : goal.returns-in-None-clause-ok
returns-in-None-clause-ok c = c.in-None.ensures ∙ first_value-rows (found_of c.args.matches.now) c.args.id.now
