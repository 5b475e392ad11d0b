use Rattle.std.proofs.Common.{arith}
use Rattle.ans_tokens.proofs.OmittedMembers.{opens_first}
use Rattle.ans_tokens.proofs.WholeSequences.{begun_unmarked}
use Rattle.ans_tokens.proofs.whole.read_sequence.Goals as goal

pub read_members-requires-clause-begun : goal.read_members-requires-clause-begun
read_members-requires-clause-begun c =
    begun_unmarked c.args.bytes.now c.in-27.len_at_least (omega arith) (omega arith)

pub returns-in-27-clause-omits : goal.returns-in-27-clause-omits
returns-in-27-clause-omits c =
    c.read_members.ensures.omits (opens_first c.args.bytes.now c.in-27.len_at_least (omega arith) (omega arith))
