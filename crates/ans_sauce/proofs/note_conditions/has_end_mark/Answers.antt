use Rattle.ans_sauce.proofs.Splitting.{any_end_mark}
use Rattle.ans_sauce.proofs.note_conditions.has_end_mark.Goals as goal

pub returns : goal.returns
returns c = any_end_mark c.args.body.now c.args.content.now c.requires
