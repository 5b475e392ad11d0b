-- What standard error calls the input, and what is said of an input that cannot be opened.
use Rattle.std.specs.Prelude.{◌≡◌, ℕ, Bool, true, false, not, ◌&&◌, ◌||◌, ◌==◌, List, [], ◌∷◌, ◌++◌, Option, Some, None}
use Rattle.std.specs.Prelude.{Err, IfOk, IfSome, Ok, Result, codes, if◌then◌else◌, is_some, map, option_map}
use Rattle.std.specs.Prelude.{string_bytes, unwrap_or}
use Rattle.std.specs.List.{list_any}
use Rattle.std.specs.Option.{option_map_or}
use Rattle.std.specs.Str.{bytes_eq}
use Rattle.std.specs.declared.io.ErrorKind.{ErrorKind}
use Rattle.clap.specs.Words.{Text}
use Rattle.ans_options.specs.CommandLine.{command_name, near_command}
use Rattle.ans_options.specs.Topics.{topic_named}
use Rattle.ans_options.specs.declared.command.Asked.{Asked}
use Rattle.ans_options.specs.declared.command.Asked.TheVariants as asked
use Rattle.ans_options.specs.declared.command.Command.{Command}
use Rattle.ans_options.specs.declared.command.Command.TheVariants.{Check, Sauce, Tokens, Why}
use Rattle.ans_table.specs.NameText.{name_text}
use Rattle.ans_check.specs.declared.naming.Naming.{Naming}
use Rattle.ans_check.specs.declared.naming.Meant.{Meant}
use Rattle.ans_check.specs.declared.naming.Meant.TheVariants as meant
use Rattle.ans_check.specs.declared.exit_status.Ending.{Ending}
use Rattle.ans_check.specs.declared.exit_status.Ending.TheVariants.{UnopenedFile}
use Rattle.ans_table.specs.Unopened.{is_missing, plain_text, reason_text, unopened_of}
use Rattle.ans_table.specs.declared.unopened.Unopened.{Unopened}
use Rattle.ans_table.specs.declared.unopened.Unopened.TheVariants.{Missing}

-- `-` names standard input
abbrev pub names_standard : Text → Bool
names_standard name = bytes_eq name (codes "-")

-- whether a command's messages give the name of its file and the system's reason
abbrev pub tells_reason : Command → Bool
tells_reason Check = false
tells_reason Sauce = false
tells_reason Tokens = false
tells_reason _ = true

-- the name of an input that is a file
abbrev pub file_called : Option Text → Option Text
file_called None = None
file_called (Some name) = if names_standard name then None else Some name

-- the first of these names
abbrev pub first_called : List Text → Option Text
first_called [] = None
first_called (name ∷ more) = Some name

-- the name that messages give of what is asked for
abbrev pub name_called : Asked → Option Text
name_called (asked.One options file) =
    if tells_reason options.command then file_called (option_map string_bytes file) else None
name_called (asked.Why names) = file_called (first_called (map string_bytes names.items))
name_called (asked.Mend choice writing names) = file_called (first_called (map string_bytes names.items))
name_called (asked.Redraw writing names) = file_called (first_called (map string_bytes names.items))
name_called (asked.Table choice names) = None
name_called (asked.Mistaken command mistake) = None
name_called (asked.Meaning topic) = None

abbrev pub is_why : Asked → Bool
is_why (asked.Why names) = true
is_why _ = false

-- whether the words after the program's name do not begin with `why`
abbrev pub is_left_out : List Text → Bool
is_left_out (program ∷ word ∷ more) = not (bytes_eq word (command_name Why))
is_left_out _ = false

abbrev pub is_dot_or_slash : ℕ → Bool
is_dot_or_slash byte = byte == 0x2E || byte == 0x2F

-- whether a name may have been meant as a command: it has neither a dot nor a slash
abbrev pub is_word : Option Text → Bool
is_word name = option_map_or (λ n. not (list_any is_dot_or_slash n)) name false

-- what may have been meant by a word that is neither a file nor a command: a command that is near, or else a word that
-- help explains
abbrev pub meant_by : Text → Meant
meant_by word =
    option_map_or meant.Command (near_command word)
    (if is_some (topic_named word) then meant.Topic else meant.Nothing)

-- Whether the first of these names may have been meant as a command: the words have none, and it has neither a dot nor
-- a slash.
abbrev pub is_guessed : List Text → Option Text → Bool
is_guessed words name = is_left_out words && is_word name

-- What the messages call the input of what these words ask for, which ended so. If there is no file of a name in a
-- command's place, it says what may have been meant.
pub record IsNaming (words : List Text) (a : Asked) (ending : Ending) (n : Naming) : Type 0 where
  pub name : option_map (λ name. name.now) n.name ≡ name_called a
  pub word : n.is_word ≡ (is_why a && is_guessed words (name_called a))
  pub meant : n.is_word ≡ true → ending ≡ UnopenedFile Missing
      → IfSome (name_called a) (λ name. IfOk n.meant (λ meant. meant ≡ meant_by name))

-- no name is given
abbrev pub unnamed : Naming
unnamed = record { name = None; is_word = false; meant = Ok meant.Nothing }

-- ---- an input that cannot be opened

-- opening the file of this name fails, for this reason
pub record IsUnopened (fails : Text → ErrorKind → Type 0) (name : Text) (reason : Unopened) : Type 0 where
  pub kind : ErrorKind
  pub failed : fails name kind
  pub by : reason ≡ unopened_of kind

-- a file's name, before what is said of it
abbrev pub front_text : Naming → List ℕ
front_text n = option_map_or (λ name. name_text name.now ++ codes ": ") n.name []

-- what may have been meant, after a message on a word of this name
abbrev pub meant_text : Option Text → Meant → List ℕ
meant_text name meant.Nothing = []
meant_text name (meant.Command command) = codes "; did you mean " ++ (command_name command ++ codes "?")
meant_text name meant.Topic =
    codes "; did you mean anscheck help " ++ (name_text (unwrap_or name []) ++ codes "?")

-- the same, or nothing if there was no memory to find what was meant
abbrev pub meant_told : {E : Type 0} → Option Text → Result Meant E → List ℕ
meant_told name (Ok meant) = meant_text name meant
meant_told name (Err e) = []

-- a word that is neither a file nor a command
abbrev pub missing_text : Naming → List ℕ
missing_text n =
    codes "no such file, and no such command" ++ meant_told (option_map (λ name. name.now) n.name) n.meant

-- why an input of this name was not opened
abbrev pub reason_told : Naming → Unopened → List ℕ
reason_told n reason = if n.is_word && is_missing reason then missing_text n else reason_text reason

-- why an input was not opened, after its name if that is given
abbrev pub unopened_text : Naming → Unopened → List ℕ
unopened_text n reason = if is_some n.name then front_text n ++ reason_told n reason else plain_text reason
