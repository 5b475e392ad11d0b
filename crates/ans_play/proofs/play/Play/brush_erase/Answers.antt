use Rattle.std.proofs.Common.{◌+◌, ◌*◌, refl}
use Rattle.ans_play.proofs.BlankRuns.{filled_bytes}
use Rattle.ans_play.proofs.play.Play.brush_erase.Goals as goal

pub invariant_of-self : goal.invariant_of-self
invariant_of-self g c =
    let row = c.args.brush.now.position.row in
    let w = g.G.Screen.width_of c.self.inside.grid in
    record {
      cells = cc (g.met.G.Screen.whole c.fill_row.new.self, g.met.G.Screen.whole c.self.inside.grid);
      bytes = filled_bytes (g.G.Screen.cells_of c.self.inside.grid) (row * w + c.args.brush.now.position.column)
          (row * w + c.width.result) {attribute = c.args.brush.now.attribute} c.fill_row.ensures.cells refl
          c.requires.on.attribute c.self.invariant.bytes;
      attribute = c.self.invariant.attribute;
      cursor = c.self.invariant.cursor;
      saved = c.self.invariant.saved;
    }
