use Rattle.std.proofs.Common.{◌≡◌, ◌++◌, ℕ, List, append_assoc}
use Rattle.std.specs.Prelude.{codes}
use Rattle.ans_model.specs.Text.RecordText.{named_line}
use Rattle.ans_write.proofs.PutsLemmas.{Puts-same, Puts-then}
use Rattle.ans_check.specs.LastWords.{words_text}
use Rattle.ans_check.proofs.why_told.put_everywhere.Goals as goal

line_is : (command last : List ℕ) → codes "everywhere: " ++ (command ++ (last ++ codes "\n"))
    ≡ named_line (codes "everywhere") (command ++ last)
line_is command last = simp append_assoc

pub returns : goal.returns
returns g c =
    Puts-same (line_is c.args.command.now (words_text c.args.words.now))
    (Puts-then c.put.ensures (Puts-then c.put-2.ensures (Puts-then c.put-3.ensures c.put-4.ensures)))
