use Rattle.std.proofs.Common.{◌≡◌, ◌++◌, ℕ, List, drop}
use Rattle.ans_write.specs.Puts.{Puts}
use Rattle.ans_written.specs.NamedLines.{lines_after, named_lines}
use Rattle.ans_written.proofs.named_lines.put_named_lines.Given as goal

abbrev pub invariant-loop-byte : goal.invariant-loop-byte
invariant-loop-byte g l = (front : List ℕ) × Puts g.W.Write.contents l.fn.out l.out front
    × (named_lines l.name l.text ≡ front ++ lines_after l.name l.starts (drop l.byte-index l.text))
