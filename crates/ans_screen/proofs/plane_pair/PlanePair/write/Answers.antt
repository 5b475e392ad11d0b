use Rattle.std.proofs.Common.{rules, ◌≡◌, ◌+◌, take, length, arith}
use Rattle.std.proofs.lemmas.List.{length-take-le}
use Rattle.ans_screen.proofs.Zeros.{filled_stored, written_stored}
use Rattle.ans_screen.proofs.plane_pair.PlanePair.write.Goals as goal

pub returns-then-holds_lanes-clause-glyphs : goal.returns-then-holds_lanes-clause-glyphs
returns-then-holds_lanes-clause-glyphs c =
    let held = c.args.self.now.glyphs in
    let count : held.len ≡ length held.items = search rules in
    written_stored held.len held.items c.deref_mut.result.now c.blend_run.new.plane c.args.self.now.zeros c.args.from
    (take c.args.count c.args.bytes.now) count c.deref_mut.ensures.value c.blend_run.ensures.len
    c.blend_run.ensures.items
    (omega (arith, length-take-le c.args.count c.args.bytes.now c.requires.count))

pub returns-then-holds_lanes-clause-attributes : goal.returns-then-holds_lanes-clause-attributes
returns-then-holds_lanes-clause-attributes c =
    let held = c.args.self.now.attributes in
    let count : held.len ≡ length held.items = search rules in
    filled_stored held.len held.items c.deref_mut-then-holds_lanes.result.now c.blend_fill.new.plane
    c.args.self.now.zeros c.args.from
    (c.args.from + c.args.count) c.args.attribute count c.deref_mut-then-holds_lanes.ensures.value
    c.blend_fill.ensures.len c.blend_fill.ensures.items
    (omega arith) (omega arith)
