-- The columns of a row before the file's name, each with a tab after it. A value that is absent is empty.
use Rattle.std.specs.Prelude.{ℕ, ◌==◌, List, [], ◌∷◌, ◌++◌, length, codes, decimal}
use Rattle.std.specs.Prelude.{Option, Some, None, Ok, Err, if◌then◌else◌}
use Rattle.std.specs.List.{flat_map}
use Rattle.ans_model.specs.declared.fault.Fault.{Fault}
use Rattle.ans_model.specs.File.Record.{aspect_ratio, author_field, date_field, font_field, group_field, is_non_blink}
use Rattle.ans_model.specs.File.Record.{letter_spacing, stated_lines, stated_width, title_field, trimmed}
use Rattle.ans_model.specs.Text.Characters.{shown_bytes}
use Rattle.ans_model.specs.Text.NeedsText.{needed_parts}
use Rattle.ans_model.specs.Text.Words.{answer_text, words_text}
use Rattle.ans_sauce.specs.declared.judged.Judged.TheVariants.{NoContent, Refused, Passes}
use Rattle.ans_sauce.specs.declared.parts.Parts.{Parts}
use Rattle.ans_sauce.specs.Parts.{content_of, notes_of}
use Rattle.ans_kinds.specs.KindsUsed.{words_used}
use Rattle.ans_kinds.specs.declared.players.Players.{Players}
use Rattle.ans_kinds.specs.declared.players.Players.TheVariants.{Any, InNamedColours, Agreeing}
use Rattle.ans_players.specs.Kinds.{kind_word}
use Rattle.ans_players.specs.declared.difference.Difference.TheVariants.{OwnColours}
use Rattle.ans_table.specs.declared.finding.PassFinding.{PassFinding}
use Rattle.ans_table.specs.declared.counts.Outcome.TheVariants as outcome
use Rattle.ans_table.specs.Findings.{Finding, RowFinding, pass_outcome, unread_text}
use Rattle.ans_table.specs.Labels.{fault_label, labels_text, taller_word, verdict_word}

abbrev pub tab : ℕ
tab = 0x09

-- a text, and the tab after it
abbrev pub column : List ℕ → List ℕ
column text = text ++ tab ∷ []

-- the columns from the verdict to the fault's offset; what only a pass has is empty
abbrev pub fault_columns : Fault → List ℕ
fault_columns fault =
    column (verdict_word outcome.Refused)
    ++ (tab ∷ tab ∷ tab ∷ tab ∷ (column (fault_label fault.cause) ++ column (decimal fault.offset)))

-- `all`, and the parts that have to be known for all players to show the same picture; or the kinds in which players
-- differ that the drawing uses, and the parts only if the kind is that of its own colours
abbrev pub players_columns : Players → List ℕ
players_columns (Any class) = column (codes "all") ++ column (needed_parts class)
players_columns (InNamedColours class times) = column (kind_word OwnColours) ++ column (needed_parts class)
players_columns (Agreeing used) = column (words_text (words_used used)) ++ tab ∷ []

-- the columns from the verdict to the place of a fault, which a pass has not
abbrev pub pass_columns : PassFinding → List ℕ
pass_columns said =
    column (verdict_word (pass_outcome said.needs))
    ++ (column (needed_parts said.needs)
    ++ (players_columns said.players ++ (column (taller_word said.taller) ++ tab ∷ tab ∷ tab ∷ tab ∷ [])))

-- the columns from the verdict to the place of the fault, of a file that was read
abbrev pub found_columns : Finding → List ℕ
found_columns (NoContent said) = fault_columns said.fault ++ tab ∷ tab ∷ []
found_columns (Refused parts said) =
    fault_columns said.fault ++ (column (decimal said.row) ++ column (decimal said.column))
found_columns (Passes parts said) = pass_columns said

-- the same of any file
abbrev pub verdict_columns : RowFinding → List ℕ
verdict_columns (Ok finding) = found_columns finding
verdict_columns (Err reason) =
    column (verdict_word outcome.Unread)
    ++ (tab ∷ tab ∷ tab ∷ tab ∷ (column (unread_text reason) ++ tab ∷ tab ∷ tab ∷ []))

-- the width in columns and the number of lines; a width of 0 is 80
abbrev pub stated_columns : Option (List ℕ) → List ℕ
stated_columns (Some sauce) = column (decimal (stated_width sauce)) ++ column (decimal (stated_lines sauce))
stated_columns None = tab ∷ tab ∷ []

-- the length of the content in bytes, and the notes
abbrev pub parts_columns : Parts → List ℕ
parts_columns parts = column (decimal (length (content_of parts))) ++ column (labels_text (notes_of parts))

abbrev pub content_columns : Option Parts → List ℕ
content_columns (Some parts) = parts_columns parts
content_columns None = tab ∷ tab ∷ []

-- what a pair of bits says, if it says one of two things
abbrev pub by_pair : {A : Type 0} → ℕ → List A → List A → List A
by_pair pair one two = if pair == 1 then one else if pair == 2 then two else []

-- Whether bit 7 of an attribute is a bright background; letters of 8 or of 9 pixels; pixels to be stretched, or square
-- ones: the last two if they say which.
abbrev pub flag_columns : List ℕ → List ℕ
flag_columns sauce =
    column (answer_text (is_non_blink sauce))
    ++ (column (by_pair (letter_spacing sauce) (codes "8") (codes "9"))
    ++ column (by_pair (aspect_ratio sauce) (codes "stretch") (codes "square")))

-- a byte of a text by its character; a backslash is `\\`
abbrev pub escaped_byte : ℕ → List ℕ
escaped_byte byte = if byte == 0x5C then 0x5C ∷ 0x5C ∷ [] else shown_bytes (byte ∷ [])

abbrev pub escaped_text : List ℕ → List ℕ
escaped_text text = flat_map escaped_byte text

-- the text of a field
abbrev pub field_column : List ℕ → List ℕ
field_column field = column (escaped_text (trimmed field))

-- font, date, title, author and group
abbrev pub field_columns : List ℕ → List ℕ
field_columns sauce =
    field_column (font_field sauce)
    ++ (field_column (date_field sauce)
    ++ (field_column (title_field sauce) ++ (field_column (author_field sauce) ++ field_column (group_field sauce))))

-- the columns of the flags and of the texts
abbrev pub record_columns : Option (List ℕ) → List ℕ
record_columns (Some sauce) = flag_columns sauce ++ field_columns sauce
record_columns None = tab ∷ tab ∷ tab ∷ tab ∷ tab ∷ tab ∷ tab ∷ tab ∷ []
