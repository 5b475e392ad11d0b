use Rattle.ans_play.proofs.Letters.{letter_goes_over}
use Rattle.ans_play.proofs.WholeTokens.{plays_no_tokens}
use Rattle.ans_play.proofs.play.Play.fast_sequence.Goals as goal

pub returns-in-Ok-clause-played : goal.returns-in-Ok-clause-played
returns-in-Ok-clause-played g c =
    letter_goes_over c.args.self.now c.step_of_letter.new.self c.args.bytes.now c.read_sequence.new.numbers.items
    c.in-Some.letter.byte c.in-Some.letter.end c.in-Some.ensures.front
    (rw c.as_slice.ensures.value at c.in-Ok.ensures.played)

pub returns-in_default-clause-played : goal.returns-in_default-clause-played
returns-in_default-clause-played g c = plays_no_tokens c.args.self.now

pub returns-in-Err-clause-played : goal.returns-in-Err-clause-played
returns-in-Err-clause-played g c = rw c.in-Err.ensures.stopped (plays_no_tokens c.args.self.now)
