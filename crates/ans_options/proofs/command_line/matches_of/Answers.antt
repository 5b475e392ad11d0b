use Rattle.std.proofs.Common.{◌∙◌, ap, subst, sym}
use Rattle.std.proofs.lemmas.Result.{err_from_is_err_and}
use Rattle.clap.specs.Words.{HasKind, Kinds, fault_of, is_simple, is_simple_and_free, subcommand_of, takes}
use Rattle.ans_model.specs.Text.Words.{texts_of}
use Rattle.ans_options.proofs.CommandLineLemmas.{subcommand_met}
use Rattle.ans_options.proofs.command_line.matches_of.Goals as goal

pub returns-clause-met : goal.returns-clause-met
returns-clause-met c =
    let app_is = c.in-Ok.ensures in
    (c.in_ok-try_get_matches_from.ensures.matches (ap is_simple app_is)).1
    ∙ ap (λ a. subcommand_of a (texts_of c.args.meant.now)) app_is

pub returns-clause-some : goal.returns-clause-some
returns-clause-some c =
    subcommand_met c.in-Ok.program c.in_ok-try_get_matches_from.field-0 c.in-Ok.ensures
    c.in_ok-try_get_matches_from.ensures.parsed

pub returns-clause-accepted : goal.returns-clause-accepted
returns-clause-accepted c =
    let app_is = c.in-Ok.ensures in
    sym (ap (λ a. fault_of a (texts_of c.args.meant.now)) app_is)
    ∙ c.in_ok-try_get_matches_from.ensures.kinds (ap is_simple_and_free app_is)

pub returns-in_err-try_get_matches_from-clause-refuses : goal.returns-in_err-try_get_matches_from-clause-refuses
returns-in_err-try_get_matches_from-clause-refuses c =
    let (e, at, same) = err_from_is_err_and c.from_residual.result c.from_residual.ensures.1 in
    rw (at, same)
    (λ taken. c.in_err-try_get_matches_from.ensures.passes
    (ap (λ a. takes a (texts_of c.args.meant.now)) c.in-Ok.ensures ∙ taken))

pub returns-in_err-try_get_matches_from-clause-kinds : goal.returns-in_err-try_get_matches_from-clause-kinds
returns-in_err-try_get_matches_from-clause-kinds c =
    let (e, at, same) = err_from_is_err_and c.from_residual.result c.from_residual.ensures.1 in
    let app_is = c.in-Ok.ensures in
    rw (at, same)
    (subst (λ (k : Kinds). HasKind k c.in_err-try_get_matches_from.field-0.0)
    (ap (λ a. fault_of a (texts_of c.args.meant.now)) app_is)
    (c.in_err-try_get_matches_from.ensures.kinds (ap is_simple_and_free app_is)))
