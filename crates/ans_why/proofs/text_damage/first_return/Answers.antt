use Rattle.ans_sauce.proofs.Splitting.{first_is_position}
use Rattle.ans_why.specs.TextDamage.{is_return}
use Rattle.ans_why.proofs.text_damage.first_return.Goals as goal

pub returns : goal.returns
returns c = first_is_position is_return c.args.bytes.now c.memchr.result c.memchr.ensures
