use Rattle.std.proofs.Common.{rules, ◌≡◌, length, arith}
use Rattle.ans_screen.proofs.Zeros.{filled_stored}
use Rattle.ans_screen.proofs.plane_pair.PlanePair.fill.Goals as goal

pub returns-then-holds_lanes-clause-glyphs : goal.returns-then-holds_lanes-clause-glyphs
returns-then-holds_lanes-clause-glyphs c =
    let held = c.args.self.now.glyphs in
    let count : held.len ≡ length held.items = search rules in
    filled_stored held.len held.items c.deref_mut.result.now c.blend_fill.new.plane c.args.self.now.zeros
    c.args.from c.args.to c.args.glyph
    count c.deref_mut.ensures.value c.blend_fill.ensures.len c.blend_fill.ensures.items c.requires.ordered
    (omega arith)

pub returns-then-holds_lanes-clause-attributes : goal.returns-then-holds_lanes-clause-attributes
returns-then-holds_lanes-clause-attributes c =
    let held = c.args.self.now.attributes in
    let count : held.len ≡ length held.items = search rules in
    filled_stored held.len held.items c.deref_mut-then-holds_lanes.result.now
    c.blend_fill-then-holds_lanes.new.plane c.args.self.now.zeros c.args.from
    c.args.to c.args.attribute count c.deref_mut-then-holds_lanes.ensures.value
    c.blend_fill-then-holds_lanes.ensures.len
    c.blend_fill-then-holds_lanes.ensures.items c.requires.ordered (omega arith)
