use Rattle.std.proofs.Common.{◌≡◌, ◌<◌, ◌≤◌, false, take, length}
use Rattle.ans_model.specs.Bytes.{most_parameters}
use Rattle.arrayvec.specs.ArrayVec.{array_vec_len}
use Rattle.ans_tokens.specs.ScannerView.{Keeps, Sequence, Fresh}
use Rattle.ans_tokens.specs.WholeToken.{OpensMember}
use Rattle.ans_tokens.proofs.OmittedMembers.{OmitsSoFar}
use Rattle.ans_tokens.proofs.whole.read_members.Given as goal

-- the bytes so far are a part of a sequence, after a whole member, if there is room for the next
abbrev pub invariant-loop : goal.invariant-loop
invariant-loop l = record {
  within : l.at ≤ length l.bytes;
  counted : array_vec_len l.numbers ≡ l.counter;
  kept : l.counter < most_parameters
      → Keeps (Sequence l.fn.mark l.numbers.items false Fresh) (take l.at l.bytes);
  omits : OpensMember l.bytes l.fn.from → OmitsSoFar l.bytes l.at l.omits;
}
