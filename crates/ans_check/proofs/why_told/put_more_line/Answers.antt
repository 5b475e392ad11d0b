use Rattle.std.proofs.Common.{◌≡◌, ◌++◌, ℕ, List, append_assoc}
use Rattle.std.specs.Prelude.{codes}
use Rattle.ans_model.specs.Text.RecordText.{named_line}
use Rattle.ans_write.proofs.PutsLemmas.{Puts-same, Puts-then}
use Rattle.ans_check.proofs.why_told.put_more_line.Goals as goal

line_is : (number : List ℕ) → codes "more: anscheck help F" ++ (number ++ codes "\n")
    ≡ named_line (codes "more") (codes "anscheck help F" ++ number)
line_is number = simp append_assoc

pub returns : goal.returns
returns g c =
    Puts-same (line_is _)
    (Puts-then c.put.ensures (Puts-then (rw c.number.ensures at c.put_decimal.ensures) c.put-2.ensures))
