use Rattle.std.proofs.Common.{◌∙◌}
use Rattle.clap.specs.Words.{found_of}
use Rattle.ans_options.proofs.CommandLineLemmas.{flag_reads}
use Rattle.ans_options.proofs.command_line.holds.Goals as goal

pub returns : goal.returns
returns c =
    c.unwrap_or.ensures ∙ flag_reads _ (found_of c.args.matches.now) c.args.id.now c.get_one.result
    c.get_one.ensures.none c.get_one.ensures.value
