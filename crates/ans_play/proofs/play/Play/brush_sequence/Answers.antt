use Rattle.std.proofs.Common.{arith}
use Rattle.ans_play.proofs.Brushes.{brush_rests, colours_in_front, letter_in_front}
use Rattle.ans_play.specs.Brushes.{with_brush}
use Rattle.ans_play.proofs.WholeTokens.{plays_no_tokens}
use Rattle.ans_play.proofs.play.Play.brush_sequence.Goals as goal

pub returns-in_default : goal.returns-in_default
returns-in_default g c = brush_rests c.args.self.now c.args.brush.now c.args.bytes.now c.requires.on

pub returns-then-read-gt1 : goal.returns-then-read-gt1
returns-then-read-gt1 g c = brush_rests c.args.self.now c.args.brush.now c.args.bytes.now c.requires.on

pub returns-then-read-eq109 : goal.returns-then-read-eq109
returns-then-read-eq109 g c =
    colours_in_front c.args.self.now c.args.brush.now c.args.bytes.now c.in-Some.read c.apply-brush.result c.requires.on
    c.if-read-eq109.true (omega arith) c.apply-brush.ensures.bits c.in-Some.ensures

pub returns-in-Ok : goal.returns-in-Ok
returns-in-Ok g c =
    letter_in_front c.args.self.now c.brush_read.new.self c.args.brush.now c.brush_read.new.brush c.args.bytes.now
    c.in-Some.read c.in-Some.ensures (omega (arith, c.if-read-gt1.false)) c.brush_read.ensures.on
    c.in-Ok.ensures.letter c.in-Ok.ensures.played

pub returns-in-Err : goal.returns-in-Err
returns-in-Err g c = record {
  on = c.brush_read.ensures.on;
  within = omega arith;
  played = rw c.in-Err.ensures.stopped (plays_no_tokens (with_brush c.args.self.now c.args.brush.now));
  none = λ zero. c.in-Err.ensures.stopped;
}
