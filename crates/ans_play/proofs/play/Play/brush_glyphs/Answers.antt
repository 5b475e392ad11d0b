use Rattle.std.proofs.Common.{◌+◌, ◌*◌, ◌<◌, take, arith, All}
use Rattle.std.proofs.lemmas.List.Elements.{All-from_get_or, All-take}
use Rattle.ans_model.specs.Bytes.{IsByte}
use Rattle.ans_screen.specs.GridEdits.{printed_run}
use Rattle.ans_play.specs.PlayView.{IsByteHalfCell}
use Rattle.ans_play.proofs.Brushes.{brush_rests}
use Rattle.ans_play.proofs.GlyphRuns.{printed_bytes, All-written, run_is_played}
use Rattle.ans_play.proofs.play.Play.brush_glyphs.Goals as goal

pub returns-then-count-eq0 : goal.returns-then-count-eq0
returns-then-count-eq0 g c =
    rw c.if-count-eq0.true (brush_rests c.args.self.now c.args.brush.now c.args.bytes.now c.requires.on)

pub invariant_of-self : goal.invariant_of-self
invariant_of-self g c =
    let attribute = c.args.brush.now.attribute in
    let bytes = take c.args.count c.args.bytes.now in
    let are_bytes : All IsByte bytes = All-take IsByte c.args.count c.args.bytes.now
    (All-from_get_or IsByte c.args.bytes.now 0 (λ i l. omega (arith, c.type_inv.bytes i))) in
    record {
      cells = cc (g.met.G.Screen.whole c.write_run.new.self, g.met.G.Screen.whole c.self.inside.grid);
      bytes = rw c.write_run.ensures.cells
          (All-written IsByteHalfCell (g.G.Screen.cells_of c.self.inside.grid)
          (c.args.brush.now.position.row * g.G.Screen.width_of c.self.inside.grid + c.args.brush.now.position.column)
          (printed_run attribute bytes) c.self.invariant.bytes
          (printed_bytes attribute bytes c.requires.on.attribute are_bytes));
      attribute = c.self.invariant.attribute;
      cursor = c.self.invariant.cursor;
      saved = c.self.invariant.saved;
    }

pub returns : goal.returns
returns g c =
    let some : 0 < c.args.count = omega (arith, c.if-count-eq0.false) in
    let at = c.args.brush.now.position in
    let above : at.row < c.self.inside.size.lines = rw (← c.self.view_is) at c.requires.above some in
    let columns : at.column + c.args.count < c.self.inside.size.width =
    rw (← c.self.view_is) at c.requires.columns some in
    record {
      on = record { on_screen = (omega (arith, above), columns); attribute = c.requires.on.attribute };
      within = c.requires.within;
      played = rw (← c.self.view_is)
          (run_is_played c.self.inside.size c.self.inside.scanner (g.G.Screen.cells_of c.self.inside.grid)
          (g.G.Screen.cells_of c.write_run.new.self) at.row at.column c.self.inside.saved
          c.args.brush.now.attribute c.self.inside.wrap c.args.bytes.now c.args.count
          c.requires.within above columns c.requires.glyphs c.self.invariant.cells
          (rw c.self.inside.grid_width at c.write_run.ensures.cells));
      none = λ zero. absurd (omega (arith, zero, some));
    }
