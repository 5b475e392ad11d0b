use Rattle.std.proofs.Common.{arith}
use Rattle.ans_pens.proofs.GoodFound.{good_by_walk}
use Rattle.ans_pens.proofs.lines.is_good.Goals as goal

pub returns : goal.returns
returns c =
    rw c.unwrap_or.ensures (good_by_walk c.args.content.now _ _
    (record { some_columns = omega arith; some_lines = omega arith }) c.walk.result c.walk.ensures)
