use Rattle.std.proofs.Common.{arith}
use Rattle.ans_play.proofs.Letters.{first_goes_over}
use Rattle.ans_play.proofs.WholeTokens.{plays_no_tokens}
use Rattle.ans_play.proofs.play.Play.fast_byte.Goals as goal

pub returns-in-Ok-clause-played : goal.returns-in-Ok-clause-played
returns-in-Ok-clause-played g c =
    first_goes_over c.args.self.now c.step_of_byte.new.self c.args.bytes.now c.requires.some
    (omega (arith, c.type_inv.bytes 0)) c.requires.outside (rw c.in-Ok.is at c.step_of_byte.ensures)

pub returns-in-Err-clause-played : goal.returns-in-Err-clause-played
returns-in-Err-clause-played g c = rw c.in-Err.ensures.1 (plays_no_tokens c.args.self.now)
