use Rattle.ans_screen.proofs.Blends.{masked_store_blends}
use Rattle.ans_screen.proofs.planes.blend.Goals as goal

pub returns : goal.returns
returns c =
    masked_store_blends c.args.new c.args.place.now c.args.count c.requires.lanes c.requires.place c.requires.count
