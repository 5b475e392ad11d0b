use Rattle.ans_screen.proofs.KnownChunks.{known_chunk}
use Rattle.ans_screen.proofs.planes.is_known_chunk.Goals as goal

pub returns : goal.returns
returns c =
    known_chunk c.args.glyphs_known c.args.bits_known c.fits-glyphs_known.0 c.fits-bits_known.0 c.fits-glyphs_known.1
    c.fits-bits_known.1
