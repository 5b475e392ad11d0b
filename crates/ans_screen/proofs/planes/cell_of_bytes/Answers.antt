use Rattle.std.proofs.Common.{ℕ, ap, arith, ◌∙◌, bit_and}
use Rattle.std.specs.Int.Bits.{and_self}
use Rattle.std.proofs.lemmas.Nat.{and_assoc}
use Rattle.ans_screen.proofs.planes.cell_of_bytes.Goals as goal

pub invariant_of-result : goal.invariant_of-result
invariant_of-result c =
    let known = c.args.bytes.bits_known in
    let value = c.args.bytes.value in
    record {
      byte = omega arith;
      within = and_assoc known value known ∙ ap (λ (x : ℕ). bit_and value x) (and_self known);
    }
