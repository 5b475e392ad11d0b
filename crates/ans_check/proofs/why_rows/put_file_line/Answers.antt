use Rattle.std.proofs.Common.{◌≡◌, ◌++◌, ℕ, List, append_assoc}
use Rattle.std.specs.Prelude.{codes}
use Rattle.ans_table.specs.NameText.{name_text}
use Rattle.ans_write.proofs.PutsLemmas.{Puts-same, Puts-then}
use Rattle.ans_check.specs.WhyRows.{file_line}
use Rattle.ans_check.proofs.why_rows.put_file_line.Goals as goal

line_is : (name : List ℕ) → codes "file: " ++ (name_text name ++ codes "\n") ≡ file_line name
line_is name = simp append_assoc

pub returns : goal.returns
returns g c =
    Puts-same (line_is c.args.name.now)
    (Puts-then c.put.ensures (Puts-then c.put_name.ensures.puts c.put-2.ensures))
