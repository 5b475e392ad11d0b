-- The command line, and the options that its words give.
use Rattle.std.specs.Prelude.{map, fold, ◌≡◌, ◌≢◌, ◌↔◌, not, Bool, true, false, List, [], ◌∷◌, Option, Some, codes}
use Rattle.std.specs.Prelude.{length, option_map, string_bytes, IsSomeAnd, IsTrue, MatchOption, if◌then◌else◌}
use Rattle.std.specs.Prelude.{unwrap_or, None, ⊤}
use Rattle.std.specs.Prelude.{◌||◌, ◌&&◌, ◌≤◌, ℕ, IfSome, find, is_some, nat_eq, nat_le, pos}
use Rattle.std.specs.List.{ends_with, list_any, starts_with}
use Rattle.std.specs.Option.{option_map_or, option_or}
use Rattle.std.specs.Str.{bytes_eq, chars}
use Rattle.std.specs.Str.Parse.{IsNumeral, digits_value, without_leading_plus}
use Rattle.strsim.specs.Edits.{levenshtein_row}
use Rattle.clap.specs.Words.{App, Row, Rule, Text, all_of, first_of, kind_of, one_of, new_app, new_rule, subcommand_of}
use Rattle.clap.specs.Words.{HasKind, Kinds, fault_of, takes, with_rule, with_subcommand}
use Rattle.clap.specs.declared.builder.ArgAction.TheVariants.{Append, SetTrue}
use Rattle.clap.specs.declared.builder.value_parser.ValueParser.{ValueParser}
use Rattle.clap.specs.declared.builder.value_parser.ValueParser.TheVariants as value_parser
use Rattle.clap.specs.declared.error.ErrorKind.TheVariants.{OutOfMemory}
use Rattle.ans_model.specs.declared.start.Start.{Start}
use Rattle.ans_model.specs.Screen.StartClass.{all_known, none_known}
use Rattle.ans_options.specs.declared.command.Asked.{Asked}
use Rattle.ans_options.specs.declared.command.Asked.TheVariants as asked
use Rattle.ans_options.specs.declared.command_line.WordsError.{WordsError}
use Rattle.ans_options.specs.declared.command_line.WordsError.TheVariants as words_error
use Rattle.ans_options.specs.declared.command.Command.{Command}
use Rattle.ans_options.specs.declared.command.Command.TheVariants.{Why, Check, Show, Sauce, Tokens, Needs, Table, Mend}
use Rattle.ans_options.specs.declared.command.Command.TheVariants.{Redraw}
use Rattle.ans_model.specs.declared.mends.TheConstants.Mends as no_mends
use Rattle.ans_model.specs.declared.mends.Mends.{Mends}
use Rattle.ans_model.specs.MendFlags.{mend_flags, with_given}
use Rattle.ans_options.specs.declared.command.MendChoice.{MendChoice}
use Rattle.ans_options.specs.declared.command.MendChoice.TheVariants.{Flags, Suggested}
use Rattle.ans_options.specs.declared.command.Form.{Form}
use Rattle.ans_options.specs.declared.command.Form.TheVariants.{Terminal, Vga, Page}
use Rattle.ans_options.specs.declared.command.TableChoice.{TableChoice}
use Rattle.ans_options.specs.declared.command.TableForm.{TableForm}
use Rattle.ans_options.specs.declared.command.TableForm.TheVariants.{Headed, Bare, Json}
use Rattle.ans_options.specs.declared.command.Options.{Options}
use Rattle.ans_options.specs.declared.command.Target.{Target}
use Rattle.ans_options.specs.declared.command.Target.TheVariants as target
use Rattle.ans_options.specs.declared.command.Writing.{Writing}
use Rattle.ans_options.specs.declared.mistakes.Mistake.{Mistake}
use Rattle.ans_options.specs.declared.mistakes.Mistake.TheVariants as mistake
use Rattle.ans_options.specs.Topics.{topic_of}

-- `--NAME`
abbrev pub flag_rule : Text → Rule
flag_rule name = record (new_rule name) { long = Some name; action = Some SetTrue }

-- `--NAME N`, with the parser of N
abbrev pub number_rule : Text → ValueParser → Rule
number_rule name numbers = record (new_rule name) { long = Some name; value_names = 1; parser = Some numbers }

-- the parser of the numbers from 1 to `most`
abbrev pub numbers_up_to : ℕ → ValueParser
numbers_up_to most = value_parser.Signed (pos 1) (pos most)

-- `[FILE]`
abbrev pub file_rule : Rule
file_rule = record (new_rule (codes "file")) { value_names = 1 }

-- `NAME [FILE]`
abbrev pub file_app : Text → App
file_app name = with_rule (new_app name) file_rule

-- a command with more flags
abbrev pub with_flags : App → List Text → App
with_flags app names = fold (λ a name. with_rule a (flag_rule name)) app names

-- the flags that name a part of the start
abbrev pub part_flags : List Text
part_flags =
    codes "known-screen" ∷ codes "known-cursor" ∷ codes "known-saved" ∷ codes "known-colours" ∷ codes "known-wrap" ∷ []

-- `[FILE]..`
abbrev pub files_rule : Rule
files_rule = record (new_rule (codes "files")) { value_names = 1; action = Some Append }

-- `NAME [FILE]..`
abbrev pub files_app : Text → App
files_app name = with_rule (new_app name) files_rule

-- `--NAME`, or `-LETTER`
abbrev pub short_flag_rule : ℕ → Text → Rule
short_flag_rule letter name = record (flag_rule name) { short = Some letter }

-- `--output PATH`, or `-o PATH`
abbrev pub output_rule : Rule
output_rule = record (new_rule (codes "output")) { short = Some 0x6F; long = Some (codes "output"); value_names = 1 }

-- a command with the options that say how its files are written: `--output`, `--in-place` or `-i`, `--dry-run` or `-n`
abbrev pub with_writing : App → App
with_writing app =
    with_rule
    (with_rule (with_rule app output_rule) (short_flag_rule 0x69 (codes "in-place")))
    (short_flag_rule 0x6E (codes "dry-run"))

-- the name of each command
abbrev pub command_name : Command → Text
command_name Why = codes "why"
command_name Needs = codes "needs"
command_name Check = codes "check"
command_name (Show form) = codes "show"
command_name Sauce = codes "sauce"
command_name Tokens = codes "tokens"
command_name (Table choice) = codes "table"
command_name (Mend choice) = codes "mend"
command_name Redraw = codes "redraw"

-- a command's subcommand: its name, `[FILE]` or `[FILE]..`, its flags in the order of its help, and of `mend` the
-- options with a number
abbrev pub command_app : Command → App
command_app Check =
    with_flags (with_flags (file_app (command_name Check)) part_flags)
    (codes "cleared" ∷ codes "any" ∷ codes "cells" ∷ [])
command_app (Show form) =
    with_flags (with_flags (file_app (command_name (Show form)))
    (codes "html" ∷ codes "vga" ∷ codes "cleared" ∷ codes "any" ∷ []))
    part_flags
command_app Why = files_app (command_name Why)
command_app (Table choice) =
    with_flags (files_app (command_name (Table choice)))
    (codes "json" ∷ codes "no-header" ∷ codes "pictures" ∷ [])
command_app (Mend choice) =
    with_rule
    (with_rule
    (with_rule
    (with_flags (with_rule (with_writing (files_app (command_name (Mend choice)))) (flag_rule (codes "suggested")))
    (map (λ f. f.name) mend_flags))
    (number_rule (codes "lines") (numbers_up_to 8192)))
    (number_rule (codes "columns") (numbers_up_to 1024)))
    (number_rule (codes "add-record") (numbers_up_to 1024))
command_app Redraw = with_writing (files_app (command_name Redraw))
command_app command = file_app (command_name command)

-- the table that is written without flags
abbrev pub headed_table : TableChoice
headed_table = record { form = Headed; pictures = false }

-- the commands, in the order of the help
abbrev pub commands : List Command
commands =
    Why ∷ Mend (Flags no_mends.NONE) ∷ Redraw ∷ Needs ∷ Check ∷ Show Terminal ∷ Sauce ∷ Tokens ∷ Table headed_table ∷ []

-- their names
abbrev pub command_names : List Text
command_names = map command_name commands

-- `anscheck`, which has a version, needs a subcommand, and has no subcommand `help`
abbrev pub anscheck_top : App
anscheck_top = let a = new_app (codes "anscheck") in
    record a { top = record a.top { has_version = true; subcommand_required = true; disable_help_subcommand = true } }

-- a program with the subcommands of more commands
abbrev pub with_subcommands : App → List Command → App
with_subcommands app more = fold (λ a command. with_subcommand a (command_app command).top) app more

-- the program's command line
abbrev pub anscheck : App
anscheck = with_subcommands anscheck_top commands

-- whether a command writes files, mended or redrawn
abbrev pub writes_files : Command → Bool
writes_files (Mend choice) = true
writes_files Redraw = true
writes_files _ = false

-- whether a command takes any number of files
abbrev pub takes_files : Command → Bool
takes_files Why = true
takes_files (Table choice) = true
takes_files (Mend choice) = true
takes_files Redraw = true
takes_files _ = false

-- whether a command takes flags that say what is known of the start
abbrev pub takes_flags : Command → Bool
takes_flags Check = true
takes_flags (Show form) = true
takes_flags _ = false

-- the command of this name, in its first form
abbrev pub command_named : Text → Option Command
command_named name = find (λ c. bytes_eq (command_name c) name) commands

-- no command has this name
abbrev pub IsNoCommand : Text → Type 0
IsNoCommand name = (c : Command) → name ≢ command_name c

-- the names of the commands that take any number of files
abbrev pub files_names : List Text
files_names = codes "why" ∷ codes "mend" ∷ codes "redraw" ∷ codes "table" ∷ []

-- What `help COMMAND` means: `COMMAND --help`. A word after it is a mistake. To have clap name it, the command gets its
-- own name as the FILE, after `--`, and then the word, which is one too many. For a command that takes any number of
-- files no word is one too many, so there only `--` comes before the word, where the program takes none.
abbrev pub help_on_command : Text → List Text → List Text
help_on_command name [] = name ∷ codes "--help" ∷ []
help_on_command name (word ∷ more) =
    if list_any (bytes_eq name) files_names then codes "--" ∷ word ∷ []
    else name ∷ codes "--" ∷ name ∷ word ∷ []

-- What `help` with these words after it means: `--help` if there are none. A first word that is no command is a
-- mistake. To have clap name it, it comes after `--`, where the program takes no word.
abbrev pub help_on : List Text → List Text
help_on [] = codes "--help" ∷ []
help_on (name ∷ more) =
    if list_any (bytes_eq name) command_names then help_on_command name more else codes "--" ∷ name ∷ []

-- What the words mean, as words for clap: where `help` comes first after the program's name, what stands for it, and
-- else the words themselves.
abbrev pub words_meant : List Text → List Text
words_meant (program ∷ word ∷ more) =
    program ∷ (if bytes_eq word (codes "help") then help_on more else word ∷ more)
words_meant words = words

-- the matches hold the flag
abbrev pub holds_flag : Text → List Row → Bool
holds_flag id rows = option_map_or (λ t. bytes_eq t (codes "true")) (one_of id rows) false

-- the subcommand is one of the commands
abbrev pub IsCommand : (Text × List Row) → Type 0
IsCommand sub = (c : Command) × (sub.0 ≡ command_name c)

-- the parts of the start that the flags name
abbrev pub named_start : List Row → Start
named_start rows = record {
  screen = holds_flag (codes "known-screen") rows;
  cursor = holds_flag (codes "known-cursor") rows;
  saved = holds_flag (codes "known-saved") rows;
  colours = holds_flag (codes "known-colours") rows;
  wrap = holds_flag (codes "known-wrap") rows;
}

-- Whether all parts are known: where `--cleared` says so, whatever other flags say; and a picture is shown so where no
-- flag says otherwise, which names a part or is `--any`.
abbrev pub asks_for_cleared : Command → List Row → Bool
asks_for_cleared (Show form) rows =
    holds_flag (codes "cleared") rows
    || not (list_any (λ flag. holds_flag flag rows) (codes "any" ∷ part_flags))
asks_for_cleared _ rows = holds_flag (codes "cleared") rows

-- what is known of the start: all of it, or the parts that the flags name
abbrev pub start_asked : Command → List Row → Start
start_asked command rows = if asks_for_cleared command rows then all_known else named_start rows

-- the form of a picture: with `--html` a page, else with `--vga` the colours of a VGA
abbrev pub form_asked : List Row → Form
form_asked rows =
    if holds_flag (codes "html") rows then Page
    else if holds_flag (codes "vga") rows then Vga
    else Terminal

-- the form of a table: with `--json` objects, else with `--no-header` without the line of names
abbrev pub table_form_asked : List Row → TableForm
table_form_asked rows =
    if holds_flag (codes "json") rows then Json
    else if holds_flag (codes "no-header") rows then Bare
    else Headed

-- what a table is asked to be: its form, and whether it has the checksums of pictures
abbrev pub table_choice_asked : List Row → TableChoice
table_choice_asked rows = record {
  form = table_form_asked rows;
  pictures = holds_flag (codes "pictures") rows;
}

-- the number that a text writes in decimal digits, with a `+` before them or none
abbrev pub number_written : Text → ℕ
number_written text = digits_value 10 (without_leading_plus text)

-- the text writes a number from 1 to `most`
abbrev pub IsNumberUpTo : ℕ → Text → Type 0
IsNumberUpTo most text =
    IsNumeral 10 (without_leading_plus text) × (1 ≤ number_written text) × (number_written text ≤ most)

-- the number that the option is given: none exactly where the option is not given
abbrev pub number_asked : Text → List Row → Option ℕ
number_asked id rows = option_map number_written (first_of id rows)

-- where the option is given, its text writes a number from 1 to `most`, and is read as it is written
abbrev pub HasNumberUpTo : ℕ → Text → List Row → Type 0
HasNumberUpTo most id rows = (one_of id rows ≡ first_of id rows) × IfSome (first_of id rows) (IsNumberUpTo most)

-- the numbers of `--add-record`, `--columns` and `--lines`, if they are given, are those that clap lets through
abbrev pub HasNumbersOfMend : List Row → Type 0
HasNumbersOfMend rows =
    HasNumberUpTo 1024 (codes "add-record") rows
    × HasNumberUpTo 1024 (codes "columns") rows
    × HasNumberUpTo 8192 (codes "lines") rows

-- what may be changed of a file that is mended: what the flags name, and the numbers that the options are given
abbrev pub mends_asked : List Row → Mends
mends_asked rows =
    with_given (λ f. holds_flag f.name rows)
    (record no_mends.NONE {
      add_record = number_asked (codes "add-record") rows;
      columns = number_asked (codes "columns") rows;
      lines = number_asked (codes "lines") rows;
    })
    mend_flags

-- a width is 1 to 1024 columns, and a number of lines 1 to 8192
abbrev pub AreInRange : Mends → Type 0
AreInRange mends =
    IfSome mends.add_record (λ n. (1 ≤ n) × (n ≤ 1024))
    × IfSome mends.columns (λ n. (1 ≤ n) × (n ≤ 1024))
    × IfSome mends.lines (λ n. (1 ≤ n) × (n ≤ 8192))

-- each number that the flags have is in its range
abbrev pub IsInRange : MendChoice → Type 0
IsInRange (Flags mends) = AreInRange mends
IsInRange Suggested = ⊤

-- whether a flag or a number names a change
abbrev pub names_changes : List Row → Bool
names_changes rows =
    list_any (λ f. holds_flag f.name rows) mend_flags
    || (is_some (first_of (codes "lines") rows)
    || (is_some (first_of (codes "columns") rows) || is_some (first_of (codes "add-record") rows)))

-- what is to be changed: with `--suggested` what the drawing's findings call for, and else what the flags name
abbrev pub choice_asked : List Row → MendChoice
choice_asked rows = if holds_flag (codes "suggested") rows then Suggested else Flags (mends_asked rows)

-- where the command shows a picture, writes a table or mends, it does so as the flags and the numbers ask
abbrev pub IsInFormAsked : Command → List Row → Type 0
IsInFormAsked (Show form) rows = form ≡ form_asked rows
IsInFormAsked (Table choice) rows = choice ≡ table_choice_asked rows
IsInFormAsked (Mend choice) rows = (choice ≡ choice_asked rows) × IsInRange choice
IsInFormAsked _ rows = ⊤

-- the names of `[FILE]..` in the matches: none where no file is given
abbrev pub files_of : List Row → List Text
files_of rows = unwrap_or (all_of (codes "files") rows) []

-- standard input is among the files: `-` is one of them
abbrev pub names_input : List Text → Bool
names_input names = list_any (bytes_eq (codes "-")) names

-- standard input is read: it is among the files, or there are none
abbrev pub reads_input : List Text → Bool
reads_input names = nat_eq (length names) 0 || names_input names

-- there is more than one file
abbrev pub are_several : List Text → Bool
are_several names = nat_le 2 (length names)

-- the PATH of `--output`
abbrev pub output_given : List Row → Option Text
output_given rows = first_of (codes "output") rows

-- the same, or nothing if it is not given
abbrev pub path_given : List Row → Text
path_given rows = unwrap_or (output_given rows) []

-- whether a PATH is that of a folder
abbrev pub is_folder : Text → Bool
is_folder path = ends_with nat_eq path (codes "/")

-- whether the matches make a mistake, whatever others they make
abbrev pub makes : Mistake → List Row → Bool
makes mistake.SuggestedWithChanges rows = holds_flag (codes "suggested") rows && names_changes rows
makes mistake.OutputWithInPlace rows = is_some (output_given rows) && holds_flag (codes "in-place") rows
makes mistake.EmptyOutput rows = is_some (output_given rows) && nat_eq (length (path_given rows)) 0
makes mistake.InPlaceOfInput rows = holds_flag (codes "in-place") rows && reads_input (files_of rows)
makes mistake.InputAmong rows = are_several (files_of rows) && names_input (files_of rows)
makes mistake.FolderOfInput rows = is_folder (path_given rows) && reads_input (files_of rows)
makes mistake.SeveralToOne rows =
    is_some (output_given rows) && (not (is_folder (path_given rows)) && are_several (files_of rows))
makes mistake.SeveralToOutput rows =
    not (is_some (output_given rows) || holds_flag (codes "in-place") rows)
    && (not (holds_flag (codes "dry-run") rows) && are_several (files_of rows))

-- the mistakes, in the order in which one is reported before another
abbrev pub mistakes : List Mistake
mistakes =
    mistake.SuggestedWithChanges
    ∷ mistake.OutputWithInPlace
    ∷ mistake.EmptyOutput
    ∷ mistake.InPlaceOfInput
    ∷ mistake.InputAmong
    ∷ mistake.FolderOfInput
    ∷ mistake.SeveralToOne
    ∷ mistake.SeveralToOutput
    ∷ []

-- the mistake that the matches are reported to make, if any: the first
abbrev pub first_mistake : List Row → Option Mistake
first_mistake rows = find (λ m. makes m rows) mistakes

-- The files go over their inputs with `--in-place`, and else to the PATH of `--output`. Without a PATH, or with `-`,
-- they go to standard output.
abbrev pub IsTargetAsked : List Row → Target → Type 0
IsTargetAsked rows target.InPlace = holds_flag (codes "in-place") rows ≡ true
IsTargetAsked rows target.Output =
    (holds_flag (codes "in-place") rows ≡ false) × (unwrap_or (output_given rows) (codes "-") ≡ codes "-")
IsTargetAsked rows (target.Path path) =
    (holds_flag (codes "in-place") rows ≡ false)
    × (output_given rows ≡ Some (string_bytes path))
    × (string_bytes path ≢ codes "-")

-- the files go where the matches say, and with `--dry-run` are not written
abbrev pub IsWritingAsked : List Row → Writing → Type 0
IsWritingAsked rows writing =
    IsTargetAsked rows writing.target × (writing.is_dry ≡ holds_flag (codes "dry-run") rows)

-- The subcommand is named as the command, and its matches say in which form a picture is shown or a table is written,
-- what may be changed to mend, and which parts of the start are known. They hold `--cells` exactly where the cells are
-- asked for, and the file exactly where one is given, with that text.
abbrev pub AsksFor : (Text × List Row) → Options → Option Text → Type 0
AsksFor sub o file = (sub.0 ≡ command_name o.command)
    × IsInFormAsked o.command sub.1
    × (o.start ≡ start_asked o.command sub.1)
    × (IsTrue o.cells ↔ IsTrue (holds_flag (codes "cells") sub.1))
    × (file ≡ first_of (codes "file") sub.1)

-- clap finds a subcommand in what the words mean, which asks for this
abbrev pub AreOptionsOf : List Text → Options → Option Text → Type 0
AreOptionsOf words o file = IsSomeAnd (subcommand_of anscheck (words_meant words)) (λ sub. AsksFor sub o file)

-- the options of a command to which nothing is known, and which is asked for no cells
abbrev pub plain_options : Command → Options
plain_options command = record { command = command; start = none_known; cells = false }

-- the options of `why`
abbrev pub why_options : Options
why_options = plain_options Why

-- the subcommand is `why`, and these are its `[FILE]..`
abbrev pub AsksForWhy : (Text × List Row) → List Text → Type 0
AsksForWhy sub names = (sub.0 ≡ command_name Why) × (names ≡ files_of sub.1)

-- the subcommand is `table`, its matches say what it is to be, and these are its `[FILE]..`
abbrev pub AsksForTable : (Text × List Row) → TableChoice → List Text → Type 0
AsksForTable sub choice names =
    (sub.0 ≡ command_name (Table choice)) × (choice ≡ table_choice_asked sub.1) × (names ≡ files_of sub.1)

-- The subcommand is this one, and its matches say what is to be changed to mend, with each number in its range, and how
-- its files are written. These are its `[FILE]..`, and its matches make no mistake.
pub record AsksToWrite (command : Command) (writing : Writing) (names : List Text) (sub : Text × List Row) : Type 0
  where
    pub named : sub.0 ≡ command_name command
    pub form : IsInFormAsked command sub.1
    pub written : IsWritingAsked sub.1 writing
    pub files : names ≡ files_of sub.1
    pub flawless : first_mistake sub.1 ≡ None

-- the subcommand is this one, which writes files, and its matches make this mistake first
pub record IsMistaken (command : Command) (m : Mistake) (sub : Text × List Row) : Type 0 where
  pub named : sub.0 ≡ command_name command
  pub writes : writes_files command ≡ true
  pub form : IsInFormAsked command sub.1
  pub first : first_mistake sub.1 ≡ Some m

-- The subcommand asks what is wrong with files, for a table of them, for files mended or redrawn, or for another
-- command on one file. No subcommand asks for a meaning.
abbrev pub AsksAs : Asked → (Text × List Row) → Type 0
AsksAs (asked.One options file) sub =
    AsksFor sub options (option_map string_bytes file) × (takes_files options.command ≡ false)
AsksAs (asked.Why names) sub = AsksForWhy sub (map string_bytes names.items)
AsksAs (asked.Table choice names) sub = AsksForTable sub choice (map string_bytes names.items)
AsksAs (asked.Mend choice writing names) sub = AsksToWrite (Mend choice) writing (map string_bytes names.items) sub
AsksAs (asked.Redraw writing names) sub = AsksToWrite Redraw writing (map string_bytes names.items) sub
AsksAs (asked.Mistaken command m) sub = IsMistaken command m sub
AsksAs (asked.Meaning topic) sub = ⊥

-- clap finds a subcommand in what the words mean, which asks for this
abbrev pub IsReadAs : List Text → Asked → Type 0
IsReadAs words a = IsSomeAnd (subcommand_of anscheck (words_meant words)) (AsksAs a)

-- Whether a first word names a file: it is no command, it is not `help`, and it does not begin with `-`.
abbrev pub names_file : Text → Bool
names_file word =
    not (list_any (bytes_eq word) command_names)
    && (not (bytes_eq word (codes "help")) && not (starts_with nat_eq word (codes "-")))

-- The words with their command: if the first word after the program's name names a file, `why` comes before it.
abbrev pub words_asked : List Text → List Text
words_asked (program ∷ word ∷ more) =
    program ∷ (if names_file word then command_name Why ∷ word ∷ more else word ∷ more)
words_asked words = words

-- the edits from a word to a name: characters that are put in, left out or changed
abbrev pub edits : Text → Text → ℕ
edits word name = levenshtein_row nat_eq (chars word) (chars name) (length (chars name))

-- the first command, in the order of the help, whose name is at most this many edits from a word
abbrev pub command_within : ℕ → Text → Option Command
command_within most word = find (λ c. nat_le (edits word (command_name c)) most) commands

-- The command that may have been meant by a word: one that is one edit from it, or else two, the first in the order of
-- the help.
abbrev pub near_command : Text → Option Command
near_command word = option_or (command_within 1 word) (command_within 2 word)

-- the words ask for this: what a topic means if they name one, and else what clap reads in them with their command
abbrev pub IsAskedBy : List Text → Asked → Type 0
IsAskedBy words a = MatchOption (topic_of words) (IsReadAs (words_asked words) a) (λ topic. a ≡ asked.Meaning topic)

-- the kinds that the first fault of what the words mean may have; to ask for help or for the version counts as a fault
abbrev pub faults_of : List Text → Kinds
faults_of words = fault_of anscheck (words_meant words)

-- memory ran out
abbrev pub RanOutOfMemory : WordsError → Type 0
RanOutOfMemory (words_error.Clap e) = kind_of e ≡ OutOfMemory
RanOutOfMemory words_error.Memory = ⊤

-- memory ran out, or the error of clap has one of these kinds
abbrev pub HasKindAmong : Kinds → WordsError → Type 0
HasKindAmong kinds (words_error.Clap e) = HasKind kinds e
HasKindAmong kinds words_error.Memory = ⊤

-- What an error of these words means: if clap takes them, or they have no fault, memory ran out; and else it may also
-- be of one of the kinds of their faults.
pub record IsErrorOf (words : List Text) (e : WordsError) : Type 0 where
  pub refuses : takes anscheck (words_meant words) ≡ true → RanOutOfMemory e
  pub faultless : faults_of words ≡ [] → RanOutOfMemory e
  pub kinds : HasKindAmong (faults_of words) e
