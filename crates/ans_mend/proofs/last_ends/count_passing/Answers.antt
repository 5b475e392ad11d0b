use Rattle.ans_mend.specs.LastEnds.{most_sequences}
use Rattle.ans_mend.proofs.SequencesLeft.{some_within}
use Rattle.ans_mend.proofs.last_ends.count_passing.Goals as goal

pub returns-clause-within : goal.returns-clause-within
returns-clause-within c =
    some_within most_sequences c.args.size c.args.content.now c.count_before_sequences.result
    c.count_before_sequences.ensures.some
