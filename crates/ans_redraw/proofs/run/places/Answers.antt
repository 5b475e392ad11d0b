use Rattle.std.proofs.Common.{ℕ, arith, w8}
use Rattle.std.specs.Prelude.{◌==◌}
use Rattle.std.proofs.lemmas.Simd.{bitmask_splat}
use Rattle.ans_redraw.proofs.run.places.Goals as goal

pub returns : goal.returns
returns c = bitmask_splat w8 (λ (a b : ℕ). a == b) c.args.bytes 16 c.args.byte c.fits-bytes.0 (omega arith)
