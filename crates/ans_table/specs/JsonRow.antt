-- The row of a file as a JSON object. What is absent is left out. The names of an object are in the order of their
-- bytes, as those of its map are.
use Rattle.std.specs.Prelude.{◌≡◌, ℕ, zero, suc, ◌+◌, Bool, true, false, List, [], ◌∷◌, ◌++◌, length, map, Option, Some}
use Rattle.std.specs.Prelude.{None, Result, Ok, Err, OnOk, String, codes}
use Rattle.std.specs.declared.alloc.Global.{Global}
use Rattle.serde_json.specs.Data.{Data, Members, unsigned, boolean, number, string, array, object, no_members, put}
use Rattle.serde_json.specs.View.{items_of, members_view}
use Rattle.serde_json.specs.declared.value.Value.{Value}
use Rattle.serde_json.specs.Written.{compact_text}
use Rattle.ans_model.specs.declared.fault.Fault.{Fault}
use Rattle.ans_model.specs.File.Record.{aspect_ratio, author_field, comment, comment_count, date_field, font_field}
use Rattle.ans_model.specs.File.Record.{group_field, is_non_blink, letter_spacing, stated_lines, stated_width, trimmed}
use Rattle.ans_model.specs.File.Record.{title_field}
use Rattle.ans_model.specs.Text.Characters.{shown_bytes}
use Rattle.ans_sauce.specs.declared.judged.Judged.TheVariants.{NoContent, Refused, Passes}
use Rattle.ans_sauce.specs.declared.parts.Parts.{Parts}
use Rattle.ans_sauce.specs.Parts.{comments_of, content_of, notes_of, record_of}
use Rattle.ans_kinds.specs.KindsUsed.{words_used}
use Rattle.ans_kinds.specs.declared.players.Players.{Players}
use Rattle.ans_kinds.specs.declared.players.Players.TheVariants.{Any, InNamedColours, Agreeing}
use Rattle.ans_players.specs.Kinds.{kind_word}
use Rattle.ans_players.specs.declared.difference.Difference.TheVariants.{OwnColours}
use Rattle.ans_table.specs.declared.finding.PassFinding.{PassFinding}
use Rattle.ans_table.specs.Columns.{by_pair}
use Rattle.ans_table.specs.declared.counts.Outcome.TheVariants as outcome
use Rattle.ans_table.specs.Findings.{Finding, RowFinding, parts_of, pass_outcome, sauce_of, unread_text}
use Rattle.ans_table.specs.NameText.{name_text}
use Rattle.ans_table.specs.Labels.{fault_label, note_label, taller_word, verdict_word}
use Rattle.ans_model.specs.Text.Words.{part_names}

-- a value and its name
abbrev pub Named : Type 0
Named = List ℕ × Data

abbrev pub count : ℕ → Data
count n = number (unsigned n)

-- a list of texts
abbrev pub text_list : List (List ℕ) → Data
text_list ts = array (items_of (map string ts))

-- the members, and the values by their names
abbrev pub with_values : List Named → Members → Members
with_values [] members = members
with_values (v ∷ vs) members = with_values vs (put v.0 v.1 members)

-- the fault and its offset
abbrev pub fault_values : Fault → List Named
fault_values fault =
    (codes "verdict", string (verdict_word outcome.Refused))
    ∷ (codes "fault", string (fault_label fault.cause)) ∷ (codes "at", count fault.offset) ∷ []

-- no kinds, and the parts that have to be known for all players to show the same picture; or the kinds in which players
-- differ that a content uses, and the parts only if the kind is that of its own colours
abbrev pub players_values : Players → List Named
players_values (Any class) =
    (codes "players", text_list []) ∷ (codes "needs_on_all_players", text_list (part_names class)) ∷ []
players_values (InNamedColours class times) =
    (codes "players", text_list (kind_word OwnColours ∷ []))
    ∷ (codes "needs_on_all_players", text_list (part_names class)) ∷ []
players_values (Agreeing used) = (codes "players", text_list (words_used used)) ∷ []

-- that the picture is the same on taller screens, if it is shown to be
abbrev pub taller_values : Bool → List Named
taller_values true = (codes "taller_screens", string (taller_word true)) ∷ []
taller_values false = []

-- what a content needs that passes, on which players it shows its picture, and whether it does on taller screens
abbrev pub pass_values : PassFinding → List Named
pass_values said =
    (codes "verdict", string (verdict_word (pass_outcome said.needs)))
    ∷ (codes "needs", text_list (part_names said.needs))
    ∷ (players_values said.players ++ taller_values said.taller)

-- the verdict on a file that was read, and what belongs to it
abbrev pub found_values : Finding → List Named
found_values (NoContent said) = fault_values said.fault
found_values (Refused parts said) =
    fault_values said.fault ++ (codes "row", count said.row) ∷ (codes "column", count said.column) ∷ []
found_values (Passes parts said) = pass_values said

-- the same of any file
abbrev pub verdict_values : RowFinding → List Named
verdict_values (Ok finding) = found_values finding
verdict_values (Err reason) =
    (codes "verdict", string (verdict_word outcome.Unread)) ∷ (codes "fault", string (unread_text reason)) ∷ []

-- that many comments from the i-th on, as they are shown
abbrev pub comments_from : ℕ → ℕ → List ℕ → List (List ℕ)
comments_from i zero bytes = []
comments_from i (suc n) bytes = shown_bytes (comment bytes i) ∷ comments_from (i + 1) n bytes

abbrev pub comment_texts : Parts → List (List ℕ)
comment_texts parts = comments_from 0 (comment_count (record_of parts)) (comments_of parts)

-- the length of the content in bytes, the notes and the comments
abbrev pub parts_values : Parts → List Named
parts_values parts =
    (codes "content", count (length (content_of parts)))
    ∷ (codes "notes", text_list (map note_label (notes_of parts)))
    ∷ (codes "comments", text_list (comment_texts parts)) ∷ []

abbrev pub content_values : Option Parts → List Named
content_values (Some parts) = parts_values parts
content_values None = []

-- letters of 8 or of 9 pixels, if the flags say which
abbrev pub spacing_values : List ℕ → List Named
spacing_values sauce =
    by_pair (letter_spacing sauce) ((codes "spacing", count 8) ∷ []) ((codes "spacing", count 9) ∷ [])

-- pixels to be stretched, or square ones, if the flags say which
abbrev pub aspect_values : List ℕ → List Named
aspect_values sauce =
    by_pair (aspect_ratio sauce) ((codes "aspect", string (codes "stretch")) ∷ [])
    ((codes "aspect", string (codes "square")) ∷ [])

-- whether bit 7 of an attribute is a bright background, the spacing and the aspect
abbrev pub flag_values : List ℕ → List Named
flag_values sauce = (codes "ice", boolean (is_non_blink sauce)) ∷ (spacing_values sauce ++ aspect_values sauce)

-- a field as it is shown
abbrev pub field_value : List ℕ → Data
field_value field = string (shown_bytes (trimmed field))

-- the width in columns and the number of lines; a width of 0 is 80
abbrev pub size_values : List ℕ → List Named
size_values sauce = (codes "width", count (stated_width sauce)) ∷ (codes "lines", count (stated_lines sauce)) ∷ []

-- font, date, title, author and group
abbrev pub field_values : List ℕ → List Named
field_values sauce =
    (codes "font", field_value (font_field sauce)) ∷ (codes "date", field_value (date_field sauce))
    ∷ (codes "title", field_value (title_field sauce)) ∷ (codes "author", field_value (author_field sauce))
    ∷ (codes "group", field_value (group_field sauce)) ∷ []

-- what the record says
abbrev pub record_values : Option (List ℕ) → List Named
record_values (Some sauce) = size_values sauce ++ (flag_values sauce ++ field_values sauce)
record_values None = []

-- a text under a name, if there is one
abbrev pub shown_values : List ℕ → Option (List ℕ) → List Named
shown_values name (Some text) = (name, string (shown_bytes text)) ∷ []
shown_values name None = []

-- the flags that mend the file, and the checksum of its picture, both of ASCII
abbrev pub further_values : Option (List ℕ) → Option (List ℕ) → List Named
further_values fix picture = shown_values (codes "fix") fix ++ shown_values (codes "picture") picture

-- all that is known of a file of this name
abbrev pub row_values : List ℕ → RowFinding → Option (List ℕ) → Option (List ℕ) → List Named
row_values name finding fix picture =
    verdict_values finding
    ++ (content_values (parts_of finding)
    ++ (record_values (sauce_of finding)
    ++ (further_values fix picture ++ (codes "file", string (name_text name)) ∷ [])))

-- the object of it
abbrev pub row_data : List ℕ → RowFinding → Option (List ℕ) → Option (List ℕ) → Data
row_data name finding fix picture = object (with_values (row_values name finding fix picture) no_members)

-- the text of the object
abbrev pub json_text : List ℕ → RowFinding → Option (List ℕ) → Option (List ℕ) → List ℕ
json_text name finding fix picture = compact_text (row_data name finding fix picture)

-- the members of an object, as its map holds them
abbrev pub Entries : Type 0
Entries = List (String Global × Value)

-- at `Ok` the members have these values too
abbrev pub Adds : {T E : Type 0} → Entries → Entries → Result T E → List Named → Type 0
Adds old new result values = OnOk result (members_view new ≡ with_values values (members_view old))
