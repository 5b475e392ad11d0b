-- What is said where there is no answer.
use Rattle.std.specs.Prelude.{ℕ, List, codes}
use Rattle.ans_model.specs.Text.RecordText.{named_line}

-- the line that says why: the program's name, then the text
abbrev pub message_line : List ℕ → List ℕ
message_line text = named_line (codes "anscheck") text
