use Rattle.std.proofs.Common.{◌∙◌, ◌≡◌, [], ap, refl, subst, sym, List, Option}
use Rattle.std.proofs.lemmas.Result.{IfErr-weaker, IfOk-weaker, err_from_is_err_and}
use Rattle.std.specs.Prelude.{IfOk, IsSomeAnd}
use Rattle.clap.specs.Words.{Kinds, Row, Text, fault_of, subcommand_of, subcommand_rows_of, takes}
use Rattle.ans_options.specs.CommandLine.{AsksAs, HasKindAmong, anscheck, faults_of, words_meant}
use Rattle.ans_model.specs.Text.Words.{texts_of}
use Rattle.ans_options.proofs.CommandLineLemmas.{command_found}
use Rattle.ans_options.proofs.NumberLemmas.{numbers_met}
use Rattle.ans_options.proofs.ErrorLemmas.{out_of_memory, ran_out}
use Rattle.ans_options.proofs.command_line.read_words.Goals as goal

pub read_matches-requires-clause-command : goal.read_matches-requires-clause-command
read_matches-requires-clause-command c =
    let is = ap texts_of c.as_slice.ensures.value ∙ c.in-Ok.ensures in
    let same = c.in_ok-matches.ensures.met ∙ ap (λ (w : List Text). subcommand_of anscheck w) is in
    command_found (words_meant (texts_of c.args.words.now)) (subcommand_rows_of c.in_ok-matches.matches) (sym same)
    c.in_ok-matches.ensures.some

pub read_matches-requires-clause-numbers : goal.read_matches-requires-clause-numbers
read_matches-requires-clause-numbers c =
    numbers_met (texts_of c.as_slice.result.now) (subcommand_rows_of c.in_ok-matches.matches)
    c.in_ok-matches.ensures.accepted (sym c.in_ok-matches.ensures.met) c.in_ok-matches.ensures.some

pub returns-clause-ok : goal.returns-clause-ok
returns-clause-ok c =
    let is = ap texts_of c.as_slice.ensures.value ∙ c.in-Ok.ensures in
    let same = c.in_ok-matches.ensures.met ∙ ap (λ (w : List Text). subcommand_of anscheck w) is in
    subst (λ (s : Option (Text × List Row)). IfOk c.read_matches.result (λ a. IsSomeAnd s (AsksAs a))) same
    c.read_matches.ensures.ok

pub returns-clause-accepted : goal.returns-clause-accepted
returns-clause-accepted c =
    let is = ap texts_of c.as_slice.ensures.value ∙ c.in-Ok.ensures in
    let none : faults_of (texts_of c.args.words.now) ≡ [] =
    sym (ap (λ (w : List Text). fault_of anscheck w) is) ∙ c.in_ok-matches.ensures.accepted in
    IfOk-weaker c.read_matches.result _ _ (λ a asked. none) (returns-clause-ok c)

pub returns-clause-errors : goal.returns-clause-errors
returns-clause-errors c =
    IfErr-weaker c.read_matches.result _ _ (out_of_memory (texts_of c.args.words.now)) c.read_matches.ensures.memory

pub returns-in_err-matches-clause-errors : goal.returns-in_err-matches-clause-errors
returns-in_err-matches-clause-errors c =
    let words = texts_of c.args.words.now in
    let is = ap texts_of c.as_slice.ensures.value ∙ c.in-Ok.ensures in
    let (e, at, same) = err_from_is_err_and c.from_residual.result c.from_residual.ensures.1 in
    let kinds = subst (λ (k : Kinds). HasKindAmong k c.in_err-matches.field-0.0)
    (ap (λ (w : List Text). fault_of anscheck w) is) c.in_err-matches.ensures.kinds in
    rw (at, same) (record {
      refuses = λ taken. c.in_err-matches.ensures.refuses (ap (λ (w : List Text). takes anscheck w) is ∙ taken);
      faultless = λ none. ran_out (faults_of words) c.in_err-matches.field-0.0 kinds none;
      kinds = kinds;
    })

pub returns-in_default-clause-errors : goal.returns-in_default-clause-errors
returns-in_default-clause-errors c = out_of_memory (texts_of c.args.words.now) _ refl
