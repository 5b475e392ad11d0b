use Rattle.std.proofs.Common.{◌≡◌, ◌+◌, ◌-◌, arith}
use Rattle.ans_screen.proofs.Blends.{blended_plane}
use Rattle.ans_screen.proofs.planes.blend_at.Goals as goal

pub returns : goal.returns
returns c =
    let room : c.args.from + 16 - c.args.from ≡ 16 = omega arith in
    rw (c.blend.ensures, room)
    (blended_plane c.args.bytes.now c.args.new c.args.from c.args.count c.requires.lanes c.requires.count
    c.requires.within)
