use Rattle.std.proofs.Common.{arith}
use Rattle.ans_play.proofs.Letters.{colours_played}
use Rattle.ans_play.proofs.play.Play.step_of_letter.Goals as goal

pub returns-in-109-2-clause-played : goal.returns-in-109-2-clause-played
returns-in-109-2-clause-played g c =
    rw c.in-109.is
    (colours_played c.args.self.now c.colour-in-109-2.new.self c.args.numbers.now c.colour-in-109-2.result
    (grind (arith, c.if-is_empty-4.ensures, c.if-is_empty-4.false)) c.colour-in-109-2.ensures)
