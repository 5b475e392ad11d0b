use Rattle.std.proofs.Common.{take}
use Rattle.ans_tokens.proofs.TakenSoFar.{HoldsAll}
use Rattle.ans_tokens.proofs.handing.token_by_bytes.Given as goal

-- no token has ended so far
abbrev pub invariant-loop-byte : goal.invariant-loop-byte
invariant-loop-byte l = HoldsAll l.offset (take l.byte-index l.bytes) l.scanner
