use Rattle.std.proofs.Common.{refl, arith, ap, ◌≢◌, ◌<◌, ◌+◌, get_or}
use Rattle.std.proofs.lemmas.Bool.{lt-ltb}
use Rattle.ans_model.specs.Bytes.{escape}
use Rattle.ans_play.specs.PlayView.{PlayView}
use Rattle.ans_play.proofs.Brushes.{brush_plays_byte}
use Rattle.ans_play.proofs.play.Play.brush_byte.Goals as goal

pub returns-then-byte-eq13 : goal.returns-then-byte-eq13
returns-then-byte-eq13 g c =
    let outside : get_or c.args.bytes.now 0 0 ≢ escape = λ e. omega (arith, e, c.if-byte-eq13.true) in
    brush_plays_byte c.args.self.now c.args.self.now c.args.brush.now
    (record {
      position = record { row = c.args.brush.now.position.row; column = 0 };
      attribute = c.args.brush.now.attribute;
    })
    c.args.bytes.now
    (record {
      on_screen = (c.requires.on.on_screen.0, omega (arith, c.requires.on.on_screen.1));
      attribute = c.requires.on.attribute;
    })
    (omega (arith, c.requires.long)) (omega (arith, c.type_inv.bytes 0)) outside (rw c.if-byte-eq13.true refl)
    (rw c.if-byte-eq13.true refl)

pub returns-then-brush-lines : goal.returns-then-brush-lines
returns-then-brush-lines g c =
    let outside : get_or c.args.bytes.now 0 0 ≢ escape = λ e. omega (arith, e, c.if-byte-eq10.true) in
    let lines = ap (λ (p : PlayView). p.size.lines) c.self.view_is in
    let above : c.args.brush.now.position.row < c.args.self.now.size.lines =
    omega (arith, c.if-brush-lines.true, c.lines.ensures.lines, lines) in
    brush_plays_byte c.args.self.now c.args.self.now c.args.brush.now
    (record {
      position = record { row = c.args.brush.now.position.row + 1; column = c.args.brush.now.position.column };
      attribute = c.args.brush.now.attribute;
    })
    c.args.bytes.now
    (record {
      on_screen = (omega (arith, above), c.requires.on.on_screen.1);
      attribute = c.requires.on.attribute;
    })
    (omega (arith, c.requires.long)) (omega (arith, c.type_inv.bytes 0)) outside
    (rw (c.if-byte-eq10.true, lt-ltb c.args.brush.now.position.row c.args.self.now.size.lines above) refl)
    (rw c.if-byte-eq10.true refl)

pub returns : goal.returns
returns g c = c.brush_low.ensures
