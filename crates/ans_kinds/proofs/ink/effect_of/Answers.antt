use Rattle.std.proofs.Common.{arith}
use Rattle.ans_kinds.proofs.Effects.{in_table}
use Rattle.ans_kinds.proofs.ink.effect_of.Goals as goal

pub returns-clause-attribute : goal.returns-clause-attribute
returns-clause-attribute c = (in_table c.args.number _ (omega arith)).attribute

pub returns-clause-zero : goal.returns-clause-zero
returns-clause-zero c = (in_table c.args.number _ (omega arith)).zero

pub returns-clause-foreground : goal.returns-clause-foreground
returns-clause-foreground c = (in_table c.args.number _ (omega arith)).foreground

pub returns-clause-background : goal.returns-clause-background
returns-clause-background c = (in_table c.args.number _ (omega arith)).background

pub returns-clause-common : goal.returns-clause-common
returns-clause-common c = (in_table c.args.number _ (omega arith)).common
