use Rattle.std.proofs.Common.{◌≡◌, ◌∷◌, drop}
use Rattle.ans_model.specs.Sequence.Omitted.{omits}
use Rattle.ans_kinds.proofs.situations.omits_number.Given as goal

abbrev pub invariant-loop-byte : goal.invariant-loop-byte
invariant-loop-byte l = omits l.fn.text ≡ omits (l.before ∷ drop l.byte-index l.rest)
