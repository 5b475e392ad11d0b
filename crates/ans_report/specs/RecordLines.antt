-- The text of a record by the parts that show it.
use Rattle.std.specs.Prelude.{ℕ, List}
use Rattle.ans_model.specs.Text.RecordText.{record_lines}
use Rattle.ans_sauce.specs.declared.parts.Parts.{Parts}
use Rattle.ans_sauce.specs.Parts.{comments_of, record_of, notes_of}

-- the text of what the parts show
abbrev pub parts_text : Parts → List ℕ
parts_text parts = record_lines (record_of parts) (comments_of parts) (notes_of parts)
