use Rattle.ans_mend.proofs.SequencesLeft.{none_ends}
use Rattle.ans_mend.proofs.last_ends.last_sequence.Goals as goal

pub returns-clause-none : goal.returns-clause-none
returns-clause-none c =
    none_ends c.args.bytes.now c.count_before_ends-end.result c.count_before_ends-end.ensures.ends
    c.count_before_ends-end.ensures.others c.sequence_to.result c.sequence_to.ensures.none
