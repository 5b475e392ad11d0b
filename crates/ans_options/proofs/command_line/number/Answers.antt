use Rattle.std.proofs.Common.{◌∙◌, ◌≡◌, Option, Some, ap}
use Rattle.clap.specs.Words.{Rule, rule_of}
use Rattle.clap.specs.declared.builder.value_parser.ValueParser.{ValueParser}
use Rattle.ans_options.specs.CommandLine.{number_rule}
use Rattle.ans_options.proofs.command_line.number.Goals as goal

pub returns-clause-rule : goal.returns-clause-rule
returns-clause-rule c =
    let given = c.value_parser.ensures.given in
    let parser : c.value_parser.result.value_parser ≡ Some c.args.numbers = given.1 ∙ ap (λ q. Some q) given.2 in
    let before = rule_of c.value_name.result in
    let named : record before { parser = Some c.args.numbers } ≡ number_rule c.args.name.now c.args.numbers =
    rw (c.value_name.ensures, c.long.ensures)
    (ap (λ (r : Rule). record r { long = Some c.args.name.now; value_names = 1; parser = Some c.args.numbers })
    c.new.ensures.rule) in
    let parsed : rule_of c.value_parser.result ≡ record before { parser = Some c.args.numbers } =
    ap rule_of c.value_parser.ensures.others ∙ ap (λ (o : Option ValueParser). record before { parser = o }) parser in
    rw c.help.ensures (parsed ∙ named)
