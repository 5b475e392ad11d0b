use Rattle.std.proofs.Common.{arith}
use Rattle.ans_model.proofs.Changes.{in_table}
use Rattle.ans_model.proofs.attribute.change_of.Goals as goal

pub returns : goal.returns
returns c = in_table c.args.parameter (omega arith)
