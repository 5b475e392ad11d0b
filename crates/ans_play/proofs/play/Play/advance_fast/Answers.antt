use Rattle.std.proofs.Common.{refl}
use Rattle.ans_play.proofs.WholeTokens.{taken_over}
use Rattle.ans_play.proofs.play.Play.advance_fast.Goals as goal

pub returns-clause-played : goal.returns-clause-played
returns-clause-played g c =
    rw c.skip.ensures (taken_over c.args.self.now c.advance_tokens-count.new.self _ c.args.bytes.now
    c.advance_tokens-count.result c.advance_tokens-count.ensures.within c.requires.between
    c.advance_tokens-count.ensures.played (rw (← c.self.view_is) refl))
