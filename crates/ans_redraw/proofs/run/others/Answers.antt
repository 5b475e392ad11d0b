use Rattle.std.proofs.Common.{ℕ, not, arith, w8}
use Rattle.std.specs.Prelude.{◌==◌}
use Rattle.std.proofs.lemmas.Simd.{bitmask_splat}
use Rattle.ans_redraw.proofs.run.others.Goals as goal

pub returns : goal.returns
returns c = bitmask_splat w8 (λ (a b : ℕ). not (a == b)) c.args.bytes 16 c.args.byte c.fits-bytes.0 (omega arith)
