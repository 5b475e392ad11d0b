use Rattle.std.proofs.Common.{◌≡◌, arith, sym, ◌∙◌, true}
use Rattle.ans_play.specs.Brushes.{with_brush}
use Rattle.ans_play.specs.HalfFault.{is_one_position}
use Rattle.ans_play.proofs.WholeTokens.{plays_further, plays_no_tokens}
use Rattle.ans_play.proofs.play.Play.advance_brush.Goals as goal

pub loop-count-init : goal.loop-count-init
loop-count-init g c =
    let same = c.brush-brush.ensures.same c.requires in
    record {
      within = omega arith;
      on = c.brush-brush.ensures.on;
      played = rw same (plays_no_tokens c.args.self.now);
      none = λ zero. same;
    }

pub returns-then-next-eq0-clause-played : goal.returns-then-next-eq0-clause-played
returns-then-next-eq0-clause-played g c =
    let laid : c.lay.new.self ≡ with_brush c.loop-count.self c.loop-count.brush =
    c.lay.ensures ∙ c.brush_token.ensures.none c.in-0.is in
    plays_further c.args.self.now c.lay.new.self c.advance_span-next.new.self c.args.bytes.now c.loop-count.count
    c.advance_span-next.result (rw laid c.loop-count.invariant.played) c.advance_span-next.ensures.played

pub loop-count-preserved-in-0 : goal.loop-count-preserved-in-0
loop-count-preserved-in-0 g c =
    let laid : c.lay.new.self ≡ with_brush c.loop-count.self c.loop-count.brush =
    c.lay.ensures ∙ c.brush_token.ensures.none c.in-0.is in
    let one : is_one_position c.advance_span-next.new.self.state.cursor ≡ true =
    rw (← c.self.view_is) (sym c.is_one_position.ensures ∙ c.if-not-is_one_position.false) in
    let same = c.brush-brush-in-0.ensures.same one in
    record {
      within = omega (arith, c.advance_span-next.ensures.within, c.loop-count.auto.count-fits);
      on = c.brush-brush-in-0.ensures.on;
      played = rw same (plays_further c.args.self.now c.lay.new.self c.advance_span-next.new.self c.args.bytes.now
          c.loop-count.count c.advance_span-next.result (rw laid c.loop-count.invariant.played)
          c.advance_span-next.ensures.played);
      none = λ zero. absurd (omega (arith, zero, c.if-next-eq0.false));
    }

pub loop-count-preserved : goal.loop-count-preserved
loop-count-preserved g c = record {
  within = omega (arith, c.brush_token.ensures.within, c.loop-count.auto.count-fits);
  on = c.brush_token.ensures.on;
  played = plays_further c.args.self.now (with_brush c.loop-count.self c.loop-count.brush)
      (with_brush c.brush_token.new.self c.brush_token.new.brush) c.args.bytes.now c.loop-count.count
      c.brush_token.result c.loop-count.invariant.played c.brush_token.ensures.played;
  none = λ zero. c.brush_token.ensures.none (omega (arith, zero)) ∙ c.loop-count.invariant.none (omega (arith, zero));
}
