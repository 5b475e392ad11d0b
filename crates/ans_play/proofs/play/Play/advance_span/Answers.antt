use Rattle.std.proofs.Common.{refl, ◌∙◌, arith}
use Rattle.ans_play.proofs.WholeTokens.{plays_further, plays_no_tokens}
use Rattle.ans_play.proofs.play.Play.advance_span.Goals as goal

pub loop-count-preserved : goal.loop-count-preserved
loop-count-preserved g c =
    let here = c.loop-count.invariant in
    record {
      within = omega (arith, c.fast_token.ensures.within, c.loop-count.auto.count-fits);
      played = plays_further c.args.self.now c.loop-count.self c.fast_token.new.self c.args.bytes.now c.loop-count.count
          c.fast_token.result here.played c.fast_token.ensures.played;
      none = λ zero. c.fast_token.ensures.none (omega (arith, zero)) ∙ here.none (omega (arith, zero));
    }

pub loop-count-init : goal.loop-count-init
loop-count-init g c =
    record { within = omega arith; played = plays_no_tokens c.args.self.now; none = λ zero. refl }

pub returns-then-is_for_brush-clause-played : goal.returns-then-is_for_brush-clause-played
returns-then-is_for_brush-clause-played g c =
    plays_further c.args.self.now c.loop-count.self c.fast_token.new.self c.args.bytes.now c.loop-count.count
    c.fast_token.result c.loop-count.invariant.played c.fast_token.ensures.played
