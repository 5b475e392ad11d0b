use Rattle.std.proofs.Common.{◌≡◌, ℕ, ◌<◌, get_or, bit_and}
use Rattle.ans_screen.proofs.planes.copy_known_bits.Given as goal

-- the values so far are copied
abbrev pub invariant-loop-i : goal.invariant-loop-i
invariant-loop-i l =
    (k : ℕ) → k < l.i → get_or l.copied k 0 ≡ bit_and (get_or l.values k 0) (get_or l.bits_known k 0)
