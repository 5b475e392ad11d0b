use Rattle.std.proofs.Common.{arith, w8}
use Rattle.std.specs.Prelude.{nat_lt}
use Rattle.std.proofs.lemmas.Simd.{bitmask_splat}
use Rattle.ans_tokens.proofs.glyphs.low_bytes.Goals as goal

pub returns : goal.returns
returns c = bitmask_splat w8 nat_lt c.args.bytes 16 0x20 c.fits-bytes.0 (omega arith)
