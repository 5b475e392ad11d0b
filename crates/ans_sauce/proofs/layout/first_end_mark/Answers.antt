use Rattle.ans_model.specs.File.Layout.{is_end_mark}
use Rattle.ans_sauce.proofs.Splitting.{first_is_position}
use Rattle.ans_sauce.proofs.layout.first_end_mark.Goals as goal

pub returns : goal.returns
returns c = first_is_position is_end_mark c.args.body.now c.memchr.result c.memchr.ensures
