-- The faults, the notes and the words, which help explains by their names.
use Rattle.std.specs.Prelude.{ℕ, List, [], ◌∷◌, ◌++◌, Option, None, codes, decimal, find, get_or, map, option_map}
use Rattle.std.specs.Prelude.{◌<◌, length, ⊤}
use Rattle.std.specs.Prelude.{if◌then◌else◌}
use Rattle.std.specs.List.{position}
use Rattle.std.specs.Option.{option_or}
use Rattle.std.specs.Str.{bytes_eq, str_eq_ignore_ascii_case}
use Rattle.clap.specs.Words.{Text}
use Rattle.ans_model.specs.Text.FaultText.{cause_number, note_number}
use Rattle.ans_model.specs.declared.fault.TheConstants.Cause as cause
use Rattle.ans_model.specs.declared.note.TheConstants.Note as note
use Rattle.ans_options.specs.declared.topic.Topic.{Topic}
use Rattle.ans_options.specs.declared.topic.HelpWord.{HelpWord}
use Rattle.ans_options.specs.declared.topic.WordTable.{WordTable}
use Rattle.ans_options.specs.declared.topic.WordTable.TheVariants.{Starts, Lines, Fixes, Differences, Columns}
use Rattle.ans_options.specs.declared.words.TheConstants.{STARTS, LINES, FIXES, DIFFERENCES, COLUMNS}
use Rattle.ans_options.specs.declared.topic.Topic.TheVariants as topic

-- the names of the words of a table, in their order
abbrev pub names_in : WordTable → List Text
names_in Starts = map (λ row. row.0.now) STARTS
names_in Lines = map (λ row. row.0.now) LINES
names_in Fixes = map (λ row. row.0.now) FIXES
names_in Differences = map (λ row. row.0.now) DIFFERENCES
names_in Columns = map (λ row. row.0.now) COLUMNS

-- what help says of each
abbrev pub texts_in : WordTable → List Text
texts_in Starts = map (λ row. row.1.now) STARTS
texts_in Lines = map (λ row. row.1.now) LINES
texts_in Fixes = map (λ row. row.1.now) FIXES
texts_in Differences = map (λ row. row.1.now) DIFFERENCES
texts_in Columns = map (λ row. row.1.now) COLUMNS

-- what help says of a word
abbrev pub word_text : HelpWord → Text
word_text w = get_or (texts_in w.table) w.place []

-- the faults and the notes in their order: each fault, F25 once for every cell, and each note
abbrev pub numbered_topics : List Topic
numbered_topics = map topic.Fault cause.EACH ++ map topic.Note note.EACH

-- the name of a topic: a letter and its number, or the word
abbrev pub topic_name : Topic → Text
topic_name (topic.Fault c) = codes "F" ++ decimal (cause_number c)
topic_name (topic.Note n) = codes "N" ++ decimal (note_number n)
topic_name (topic.Word w) = get_or (names_in w.table) w.place []

-- a word has a row in the table
abbrev pub IsTopic : Topic → Type 0
IsTopic (topic.Word w) = w.place < length (names_in w.table)
IsTopic _ = ⊤

-- the place of the word of this name in a table, in capitals or not
abbrev pub place_in : WordTable → Text → Option ℕ
place_in table name = position (str_eq_ignore_ascii_case name) (names_in table)

-- the word of this name in a table, in capitals or not
abbrev pub word_in : WordTable → Text → Option Topic
word_in table name = option_map (λ place. topic.Word (record { table = table; place = place })) (place_in table name)

-- the word of this name, in capitals or not
abbrev pub word_named : Text → Option Topic
word_named name =
    option_or
    (option_or (option_or (option_or (word_in Starts name) (word_in Lines name)) (word_in Fixes name))
    (word_in Differences name))
    (word_in Columns name)

-- the fault or the note of this name, in capitals or not
abbrev pub numbered_named : Text → Option Topic
numbered_named name = find (λ t. str_eq_ignore_ascii_case name (topic_name t)) numbered_topics

-- the topic of this name, in capitals or not
abbrev pub topic_named : Text → Option Topic
topic_named name = option_or (numbered_named name) (word_named name)

-- the topic that the words ask help for: `help` and the topic's name come after the program's name
abbrev pub topic_of : List Text → Option Topic
topic_of (program ∷ word ∷ name ∷ []) = if bytes_eq word (codes "help") then topic_named name else None
topic_of words = None
