use Rattle.std.proofs.Common.{◌∙◌, ◌≡◌, ap, subst, sym, List, Option, Some}
use Rattle.std.specs.Prelude.{IsSomeAnd}
use Rattle.std.proofs.lemmas.Result.{IfOk-weaker}
use Rattle.clap.specs.Words.{Row, Text, found_of, rows_of, subcommand_rows_of}
use Rattle.ans_options.specs.CommandLine.{AsksAs, HasNumbersOfMend, IsCommand, command_name}
use Rattle.ans_options.proofs.CommandLineLemmas.{rows_met}
use Rattle.ans_options.proofs.command_line.read_matches.Goals as goal

pub unreachable-requires-in_default-command_named : goal.unreachable-requires-in_default-command_named
unreachable-requires-in_default-command_named c =
    let met = rows_met c.args.matches.now c.in-Some.name.now (rows_of (found_of c.in-Some.found.now))
    c.in-Some.ensures.name c.in-Some.ensures.rows in
    let command = subst (λ (s : Option (Text × List Row)). IsSomeAnd s IsCommand) met c.requires.command in
    c.in_default-command_named.ensures.none command.0 command.1

pub in_form_asked-requires : goal.in_form_asked-requires
in_form_asked-requires c =
    let met = rows_met c.args.matches.now c.in-Some.name.now (rows_of (found_of c.in-Some.found.now))
    c.in-Some.ensures.name c.in-Some.ensures.rows in
    subst (λ (s : Option (Text × List Row)). IsSomeAnd s (λ sub. HasNumbersOfMend sub.1)) met c.requires.numbers

pub returns-clause-ok : goal.returns-clause-ok
returns-clause-ok c =
    let rows = rows_of (found_of c.in-Some.found.now) in
    let found = rows_met c.args.matches.now c.in-Some.name.now rows c.in-Some.ensures.name c.in-Some.ensures.rows in
    let named = c.in-Some-command_named.ensures.some ∙ sym c.in_form_asked.ensures.name in
    let met : subcommand_rows_of c.args.matches.now ≡ Some (command_name c.in_form_asked.result, rows) =
    found ∙ ap (λ (name : Text). Some (name, rows)) named in
    IfOk-weaker c.read_command.result _ _
    (λ a asks. subst (λ (s : Option (Text × List Row)). IsSomeAnd s (AsksAs a)) (sym met) asks)
    c.read_command.ensures.ok
