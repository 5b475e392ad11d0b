use Rattle.ans_mend.proofs.FirstPrint.{first_told}
use Rattle.ans_mend.proofs.name_search.begins_unnamed.Goals as goal

pub returns : goal.returns
returns c tokens texts reads = first_told c.args.content.now _ _ c.walk.result c.walk.ensures tokens texts reads
