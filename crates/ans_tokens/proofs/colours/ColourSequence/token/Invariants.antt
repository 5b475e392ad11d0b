use Rattle.std.proofs.Common.{◌≡◌, take}
use Rattle.ans_tokens.proofs.colours.ColourSequence.token.Given as goal

-- the numbers so far
abbrev pub invariant-loop-number : goal.invariant-loop-number
invariant-loop-number l = l.numbers.items ≡ take l.number-index l.self.numbers.now
