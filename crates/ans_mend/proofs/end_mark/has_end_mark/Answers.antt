use Rattle.ans_sauce.proofs.Splitting.{any_end_mark}
use Rattle.ans_mend.proofs.end_mark.has_end_mark.Goals as goal

pub returns : goal.returns
returns c = any_end_mark c.args.body.now c.cut_content.result.0.now c.cut_content.ensures.content
