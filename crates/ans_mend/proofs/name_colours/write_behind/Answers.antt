use Rattle.ans_mend.proofs.Overwriting.{behind_overwritten, front_overwritten}
use Rattle.ans_mend.proofs.name_colours.write_behind.Goals as goal

pub returns-clause-written : goal.returns-clause-written
returns-clause-written c =
    rw c.overwrite.ensures (front_overwritten c.args.memory.now c.args.bytes.now c.args.count c.requires)

pub returns-clause-left : goal.returns-clause-left
returns-clause-left c place reached =
    rw c.overwrite.ensures (behind_overwritten c.args.memory.now c.args.bytes.now c.args.count c.requires place reached)
