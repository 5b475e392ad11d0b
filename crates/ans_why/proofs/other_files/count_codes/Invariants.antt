use Rattle.std.proofs.Common.{◌≡◌, ℕ, ◌+◌, ◌≤◌, List, length}
use Rattle.ans_why.specs.declared.other_files.Code.{Code}
use Rattle.ans_why.specs.OtherFiles.{count_codes}
use Rattle.ans_why.proofs.other_files.count_codes.Given as goal

-- those before the rest are counted
pub record Counts (code : Code) (bytes rest : List ℕ) (count : ℕ) : Type 0 where
  pub all : count_codes code bytes ≡ count + count_codes code rest
  pub within : count + length rest ≤ length bytes

abbrev pub invariant-bytes : goal.invariant-bytes
invariant-bytes l = Counts l.code l.fn.bytes l.rest l.count

abbrev pub decreases-bytes : goal.decreases-bytes
decreases-bytes l = length l.rest
