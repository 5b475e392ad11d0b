use Rattle.std.specs.Str.Parse.{ExplainsUnsignedError, HasUnsignedDigitsIfOk, ParsesUnsigned}
use Rattle.clap.specs.Words.{found_of}
use Rattle.ans_options.proofs.NumberLemmas.{number_reads}
use Rattle.ans_options.proofs.command_line.number_asked.Goals as goal

pub returns : goal.returns
returns c =
    number_reads _
    (λ bs r. ParsesUnsigned 16 10 bs r × ExplainsUnsignedError 10 bs r × HasUnsignedDigitsIfOk bs r)
    (found_of c.args.matches.now) c.args.id.now c.get_one.result (λ u x reads. reads.0) c.requires
    c.get_one.ensures.none c.get_one.ensures.value
