-- How the program answers its words.
use Rattle.std.specs.Prelude.{◌≡◌, ◌⊎◌, ℕ, Bool, true, false, List, [], ◌∷◌, Option, Some, None, Result, Ok, Err}
use Rattle.std.specs.Prelude.{◌↔◌, IsSomeAnd, IsTrue, MatchBool, map, option_map, string_bytes}
use Rattle.std.specs.Prelude.{if◌then◌else◌}
use Rattle.std.specs.List.{list_any}
use Rattle.clap.specs.Words.{Text}
use Rattle.ans_options.specs.CommandLine.{HasKindAmong, IsAskedBy, RanOutOfMemory, faults_of, words_asked}
use Rattle.ans_options.specs.Topics.{topic_of, word_text}
use Rattle.ans_options.specs.declared.command.Command.{Command}
use Rattle.ans_options.specs.declared.command.Command.TheVariants.{Check}
use Rattle.ans_options.specs.declared.command.Asked.{Asked}
use Rattle.ans_options.specs.declared.command.Asked.TheVariants as asked
use Rattle.ans_options.specs.declared.command.MendChoice.{MendChoice}
use Rattle.ans_options.specs.declared.command.MendChoice.TheVariants as choice
use Rattle.ans_options.specs.declared.command.Options.{Options}
use Rattle.ans_options.specs.declared.command_line.WordsError.{WordsError}
use Rattle.ans_options.specs.declared.topic.Topic.{Topic}
use Rattle.ans_options.specs.declared.topic.Topic.TheVariants as topic
use Rattle.ans_report.specs.Meanings.{fault_meaning, note_meaning}
use Rattle.ans_save.specs.Deeds.{Deed}
use Rattle.ans_save.specs.Names.{Name}
use Rattle.ans_save.specs.declared.disk.Found.{Found}
use Rattle.ans_save.specs.declared.disk.Identity.{Identity}
use Rattle.ans_table.specs.declared.counts.Counts.{Counts}
use Rattle.ans_write.specs.Tried.{call_count, has_failed, inner_of}
use Rattle.ans_write.specs.Writes.{Wrote, WrotePrefix}
use Rattle.ans_write.specs.declared.tried.Tried.{Tried}
use Rattle.ans_check.specs.CommandText.{Reports, ReportsChecked}
use Rattle.ans_check.specs.Ending.{ending_of_checking, ending_of_mending, ending_of_redrawing, ending_of_words}
use Rattle.ans_check.specs.Fates.{AreFiled, AreNotFiled, Became, IsGoalOf, inputs_named}
use Rattle.ans_redraw.specs.Redrawing.{TellsRedrawn}
use Rattle.ans_check.specs.Served.{ServesAs}
use Rattle.ans_check.specs.Suggesting.{TellsSuggested, ending_of_suggested}
use Rattle.ans_fix.specs.Trials.{TellsFixed}
use Rattle.ans_check.specs.Naming.{IsNaming, IsUnopened, file_called, first_called, is_guessed, names_standard}
use Rattle.ans_check.specs.Naming.{unnamed}
use Rattle.ans_check.specs.Said.{IsNamed, Says}
use Rattle.ans_check.specs.Table.{WritesListedTable, WritesTable}
use Rattle.ans_check.specs.WhyRows.{WritesWhys}
use Rattle.ans_check.specs.WhyTold.{ReportsTold}
use Rattle.ans_check.specs.declared.fates.Goal.{Goal}
use Rattle.ans_check.specs.declared.naming.Naming.{Naming}
use Rattle.ans_table.specs.declared.unopened.Unopened.{Unopened}
use Rattle.std.specs.declared.io.ErrorKind.{ErrorKind}
use Rattle.ans_check.specs.declared.listing.Listed.{Listed}
use Rattle.ans_options.specs.declared.command.TableChoice.{TableChoice}
use Rattle.ans_check.specs.declared.errors.RunError.{RunError}
use Rattle.ans_check.specs.declared.errors.RunError.TheVariants as error
use Rattle.ans_check.specs.declared.exit_status.Ending.{Ending}
use Rattle.ans_check.specs.declared.exit_status.Ending.TheVariants.{Run, Help, Usage, UnreadableWords, UnopenedFile}
use Rattle.ans_check.specs.declared.exit_status.Ending.TheVariants.{Table, NamedInput, UnreadNames, Explained}
use Rattle.ans_check.specs.declared.exit_status.Ending.TheVariants.{InputAmong, Mistaken, ToTerminal}

-- The program ends as a run on the input of this name. `tells` says what the run says of a file, and `ending_of` how
-- the program ends at its answer.
pub record EndsAsServed {R W A : Type 0} (remaining : R → Option (List ℕ)) (contents : W → Option (List ℕ))
    (is_file : Text → R → Type 0) (is_standard : R → Type 0) (tells : List ℕ → A → List ℕ → Type 0)
    (ending_of : Result A RunError → Ending) (file : Option Text) (output output_after : Tried W) (ending : Ending)
    : Type 0 where
  pub reader : Tried R
  pub reader_after : Tried R
  pub input : IsNamed is_file is_standard file (inner_of reader)
  pub unread : call_count reader ≡ 0
  pub answer : Result A RunError
  pub serves : ServesAs remaining contents tells reader reader_after output output_after answer
  pub ends : ending ≡ ending_of answer

-- The input is a file that cannot be opened.
pub record EndsUnopened {W : Type 0} (fails : Text → ErrorKind → Type 0) (file : Option Text)
    (output output_after : Tried W) (ending : Ending) : Type 0 where
  pub reason : Unopened
  pub named : IsSomeAnd file (λ name. (names_standard name ≡ false) × IsUnopened fails name reason)
  pub unwritten : output_after ≡ output
  pub ends : ending ≡ UnopenedFile reason

-- the input of this name was served so, or it cannot be opened
abbrev pub EndsServed : {R W A : Type 0} → (R → Option (List ℕ)) → (W → Option (List ℕ)) → (Text → R → Type 0)
    → (R → Type 0) → (Text → ErrorKind → Type 0) → (List ℕ → A → List ℕ → Type 0) → (Result A RunError → Ending)
    → Option Text → Tried W → Tried W → Ending → Type 0
EndsServed remaining contents is_file is_standard fails tells ending_of file output output_after ending =
    EndsAsServed remaining contents is_file is_standard tells ending_of file output output_after ending
    ⊎ EndsUnopened fails file output output_after ending

-- how a table of named files ends
abbrev pub ending_of_table : Result Counts RunError → Ending
ending_of_table (Ok counts) = Table counts
ending_of_table (Err fault) = Run (Err fault)

-- the table of these names was written, and is the ending; or there was no memory to list them, and nothing was
abbrev pub EndsWritten : {R W : Type 0} → (W → Option (List ℕ)) → (R → Option (List ℕ)) → (Text → R → Type 0)
    → (Text → ErrorKind → Type 0) → TableChoice → List Text → Tried W → Tried W → Ending → Type 0
EndsWritten contents remaining is_file fails choice names output output_after ending =
    ((result : Result Counts RunError)
    × WritesTable contents remaining is_file fails choice names output output_after result
    × (ending ≡ ending_of_table result))
    ⊎ ((ending ≡ Run (Err error.Memory)) × (output_after ≡ output))

-- The table of the named files; `-` is none of them.
abbrev pub EndsNamed : {R W : Type 0} → (W → Option (List ℕ)) → (R → Option (List ℕ)) → (Text → R → Type 0)
    → (Text → ErrorKind → Type 0) → TableChoice → List Text → Tried W → Tried W → Ending → Type 0
EndsNamed contents remaining is_file fails choice names output output_after ending =
    MatchBool (list_any names_standard names) ((ending ≡ NamedInput) × (output_after ≡ output))
    (EndsWritten contents remaining is_file fails choice names output output_after ending)

-- how a table ends of files whose names standard input gives
abbrev pub ending_of_listing : Result Listed RunError → Ending
ending_of_listing (Ok listed) = if listed.whole then Table listed.counts else UnreadNames
ending_of_listing (Err fault) = Run (Err fault)

-- standard input gave names, and the program ends as the table of them
pub record EndsListed {R W : Type 0} (remaining : R → Option (List ℕ)) (contents : W → Option (List ℕ))
    (is_standard : R → Type 0) (is_file : Text → R → Type 0) (fails : Text → ErrorKind → Type 0) (choice : TableChoice)
    (output output_after : Tried W) (ending : Ending) : Type 0 where
  pub reader : Tried R
  pub reader_after : Tried R
  pub input : is_standard (inner_of reader)
  pub unread : call_count reader ≡ 0
  pub result : Result Listed RunError
  pub table : WritesListedTable contents remaining is_file fails choice reader reader_after output output_after result
  pub ends : ending ≡ ending_of_listing result

-- The table by the names that the words give: if they give none, by those on standard input.
abbrev pub EndsBy : {R W : Type 0} → (R → Option (List ℕ)) → (W → Option (List ℕ)) → (R → Type 0)
    → (Text → R → Type 0) → (Text → ErrorKind → Type 0) → TableChoice → List Text → Tried W → Tried W → Ending
    → Type 0
EndsBy remaining contents is_standard is_file fails choice [] output output_after ending =
    EndsListed remaining contents is_standard is_file fails choice output output_after ending
EndsBy remaining contents is_standard is_file fails choice (name ∷ more) output output_after ending =
    EndsNamed contents remaining is_file fails choice (name ∷ more) output output_after ending

-- how `why` of several files ends
abbrev pub ending_of_whys : Result Counts RunError → Ending
ending_of_whys (Ok counts) = Explained counts
ending_of_whys (Err fault) = Run (Err fault)

-- The first of the names was perhaps meant as a command, and its file cannot be opened: that is the ending.
abbrev pub EndsMistaken : {W : Type 0} → (Text → ErrorKind → Type 0) → List Text → List Text → Tried W → Tried W
    → Ending → Type 0
EndsMistaken fails words names output output_after ending =
    (is_guessed words (first_called names) ≡ true)
    × EndsUnopened fails (first_called names) output output_after ending

-- What is wrong with each of several files was written, and is the ending; or there was no memory to list them. If the
-- first name was perhaps meant as a command, its file was opened before. `-` is none of them.
abbrev pub EndsExplained : {R W : Type 0} → (R → Option (List ℕ)) → (W → Option (List ℕ)) → (Text → R → Type 0)
    → (R → Type 0) → (Text → ErrorKind → Type 0) → List Text → List Text → Tried W → Tried W → Ending → Type 0
EndsExplained {R} remaining contents is_file is_standard fails words names output output_after ending =
    MatchBool (list_any names_standard names) ((ending ≡ InputAmong) × (output_after ≡ output))
    (EndsMistaken fails words names output output_after ending
    ⊎ ((is_guessed words (first_called names) ≡ true
    → (reader : R) × IsNamed is_file is_standard (first_called names) reader)
    × (((result : Result Counts RunError)
    × WritesWhys contents remaining is_file fails names output output_after result
    × (ending ≡ ending_of_whys result))
    ⊎ ((ending ≡ Run (Err error.Memory)) × (output_after ≡ output)))))

-- What is wrong with the files of these names: with standard input if there is none.
abbrev pub EndsWhy : {R W : Type 0} → (R → Option (List ℕ)) → (W → Option (List ℕ)) → (Text → R → Type 0)
    → (R → Type 0) → (Text → ErrorKind → Type 0) → List Text → List Text → Tried W → Tried W → Ending → Type 0
EndsWhy remaining contents is_file is_standard fails words [] output output_after ending =
    EndsServed remaining contents is_file is_standard fails (ReportsTold None) Run None output output_after ending
EndsWhy remaining contents is_file is_standard fails words (name ∷ []) output output_after ending =
    EndsServed remaining contents is_file is_standard fails (ReportsTold (file_called (Some name))) Run (Some name) output
    output_after ending
EndsWhy remaining contents is_file is_standard fails words (name ∷ next ∷ more) output output_after ending =
    EndsExplained remaining contents is_file is_standard fails words (name ∷ next ∷ more) output output_after ending

-- The text of help is on the output; or the output failed, and has a prefix of it.
abbrev pub PrintsHelp : {W : Type 0} → (W → Option (List ℕ)) → Tried W → Tried W → List ℕ → Ending → Type 0
PrintsHelp contents output output_after text ending =
    ((ending ≡ Help) × Wrote contents output output_after text)
    ⊎ ((ending ≡ Run (Err error.Write)) × WrotePrefix contents output output_after text)

-- what a fault, a note or a word means
abbrev pub meaning_text : Topic → List ℕ
meaning_text (topic.Fault cause) = fault_meaning cause
meaning_text (topic.Note note) = note_meaning note
meaning_text (topic.Word word) = word_text word

-- the command is `check`
abbrev pub is_check : Command → Bool
is_check Check = true
is_check _ = false

-- A file was checked. If it is refused for a fault of the start, the ending says where more is known of that.
abbrev pub EndsChecked : {R W : Type 0} → (R → Option (List ℕ)) → (W → Option (List ℕ)) → (Text → R → Type 0)
    → (R → Type 0) → (Text → ErrorKind → Type 0) → Options → Option Text → Tried W → Tried W → Ending → Type 0
EndsChecked remaining contents is_file is_standard fails options file output output_after ending =
    EndsServed remaining contents is_file is_standard fails
    (λ bytes. ReportsChecked bytes options.start options.cells) ending_of_checking file output output_after ending

-- one command was done on one input
abbrev pub EndsOne : {R W : Type 0} → (R → Option (List ℕ)) → (W → Option (List ℕ)) → (Text → R → Type 0)
    → (R → Type 0) → (Text → ErrorKind → Type 0) → Options → Option Text → Tried W → Tried W → Ending → Type 0
EndsOne remaining contents is_file is_standard fails options file output output_after ending =
    MatchBool (is_check options.command)
    (EndsChecked remaining contents is_file is_standard fails options file output output_after ending)
    (EndsServed remaining contents is_file is_standard fails (Reports options) Run file output output_after ending)

-- A file was mended, by flags or by its own findings.
abbrev pub EndsMend : {R W : Type 0} → (R → Option (List ℕ)) → (W → Option (List ℕ)) → (Text → R → Type 0)
    → (R → Type 0) → (Text → ErrorKind → Type 0) → MendChoice → Option Text → Tried W → Tried W → Ending → Type 0
EndsMend remaining contents is_file is_standard fails (choice.Flags mends) file output output_after ending =
    EndsServed remaining contents is_file is_standard fails (TellsFixed mends) (ending_of_mending mends) file output
    output_after ending
EndsMend remaining contents is_file is_standard fails choice.Suggested file output output_after ending =
    EndsServed remaining contents is_file is_standard fails TellsSuggested ending_of_suggested file output
    output_after ending

-- A file of bytes is not written to a terminal: if the output is one, nothing is read, and that is the ending.
abbrev pub UnlessTerminal : {W : Type 0} → Bool → Tried W → Tried W → Ending → Type 0 → Type 0
UnlessTerminal is_terminal output output_after ending otherwise =
    MatchBool is_terminal ((ending ≡ ToTerminal) × (output_after ≡ output)) otherwise

-- What these words ask for was done: one command on one input, what is wrong with files, a file mended or redrawn to
-- the output, a table of many files, or what a fault, a note or a word means; or nothing, if they contradict
-- themselves.
abbrev pub EndsAsTold : {R W : Type 0} → (R → Option (List ℕ)) → (W → Option (List ℕ)) → (Text → R → Type 0)
    → (R → Type 0) → (Text → ErrorKind → Type 0) → Bool → List Text → Asked → Tried W → Tried W → Ending → Type 0
EndsAsTold remaining contents is_file is_standard fails is_terminal words (asked.One options file) output output_after
    ending =
    EndsOne remaining contents is_file is_standard fails options (option_map string_bytes file) output output_after
    ending
EndsAsTold remaining contents is_file is_standard fails is_terminal words (asked.Why names) output output_after ending =
    EndsWhy remaining contents is_file is_standard fails words (map string_bytes names.items) output output_after ending
EndsAsTold remaining contents is_file is_standard fails is_terminal words (asked.Mend choice writing names) output
    output_after ending =
    UnlessTerminal is_terminal output output_after ending
    (EndsMend remaining contents is_file is_standard fails choice (first_called (map string_bytes names.items)) output
    output_after ending)
EndsAsTold remaining contents is_file is_standard fails is_terminal words (asked.Redraw writing names) output
    output_after ending =
    UnlessTerminal is_terminal output output_after ending
    (EndsServed remaining contents is_file is_standard fails TellsRedrawn ending_of_redrawing
    (first_called (map string_bytes names.items)) output output_after ending)
EndsAsTold remaining contents is_file is_standard fails is_terminal words (asked.Table choice names) output output_after
    ending =
    EndsBy remaining contents is_standard is_file fails choice (map string_bytes names.items) output output_after
    ending
EndsAsTold remaining contents is_file is_standard fails is_terminal words (asked.Mistaken command mistake) output
    output_after ending =
    (ending ≡ Mistaken mistake) × (output_after ≡ output)
EndsAsTold remaining contents is_file is_standard fails is_terminal words (asked.Meaning topic) output output_after
    ending =
    PrintsHelp contents output output_after (meaning_text topic) ending

-- The error is one that these words, with their command, can have. If they have no fault, it is want of memory.
pub record IsRefusalOf (words : List Text) (refusal : WordsError) : Type 0 where
  pub kind : HasKindAmong (faults_of (words_asked words)) refusal
  pub memory : faults_of (words_asked words) ≡ [] → RanOutOfMemory refusal

-- Help was asked for, and is printed; or there was no memory for its text. Which text it is, is clap's.
abbrev pub EndsHelp : {W : Type 0} → (W → Option (List ℕ)) → Tried W → Tried W → Ending → Type 0
EndsHelp contents output output_after ending =
    ((text : List ℕ) × PrintsHelp contents output output_after text ending)
    ⊎ ((ending ≡ UnreadableWords) × (output_after ≡ output))

-- the ending, if the words' error by itself would lead to this one
abbrev pub EndsAfter : {W : Type 0} → (W → Option (List ℕ)) → Ending → Tried W → Tried W → Ending → Type 0
EndsAfter contents Help output output_after ending = EndsHelp contents output output_after ending
EndsAfter contents Usage output output_after ending =
    ((ending ≡ Usage) ⊎ (ending ≡ UnreadableWords)) × (output_after ≡ output)
EndsAfter contents told output output_after ending = (ending ≡ told) × (output_after ≡ output)

-- the ending reports a failed write exactly if the output failed
abbrev pub TellsFailure : {W : Type 0} → Tried W → Ending → Type 0
TellsFailure output ending = (ending ≡ Run (Err error.Write)) ↔ IsTrue (has_failed output)

-- the errors took what the ending of what is asked for says
pub record SaysOf {E : Type 0} (contents : E → Option (List ℕ)) (errors errors_after : Tried E) (words : List Text)
    (a : Asked) (ending : Ending) : Type 0 where
  pub naming : Naming
  pub named : IsNaming words a ending naming
  pub says : Says contents errors errors_after naming ending

-- ---- files that are written, and the two ways in which words are answered
-- where files go that are mended or redrawn by what is asked; there is no goal if none is written
abbrev pub IsAimOf : Asked → Option Goal → Type 0
IsAimOf (asked.Mend choice writing names) aim = IsGoalOf writing aim
IsAimOf (asked.Redraw writing names) aim = IsGoalOf writing aim
IsAimOf _ aim = aim ≡ None

module _ {R E D : Type 0} (remaining : R → Option (List ℕ)) (told : E → Option (List ℕ))
    (is_file : Text → R → Type 0) (is_standard : R → Type 0) (fails : Text → ErrorKind → Type 0)
    (did : D → Deed → Option ErrorKind → D → Type 0) (leads : D → Name → Name → Type 0)
    (sees : D → Name → Option Found → Type 0) (looks_fail : D → Name → ErrorKind → Type 0)
    (opens : D → Name → Type 0) (identifies : D → Name → Identity → Type 0) where
  -- What `tells` says of a file was done with each of these inputs in memory, and what came of it was written by the
  -- goal.
  abbrev pub AreFiledBy : {A : Type 0} → (List ℕ → A → List ℕ → Type 0) → (Result A RunError → Ending) → Goal
      → List Text → D → D → Tried E → Tried E → Ending → Type 0
  AreFiledBy tells ending_of goal names disk disk_after errors errors_after ending =
      AreFiled sees looks_fail told
      (Became did leads sees looks_fail opens identifies tells ending_of remaining is_file is_standard fails goal) goal
      (inputs_named names) disk disk_after errors errors_after ending
      ⊎ AreNotFiled told disk disk_after errors errors_after ending

  -- files were mended, by flags or each by its own findings
  abbrev pub AreMendedBy : MendChoice → Goal → List Text → D → D → Tried E → Tried E → Ending → Type 0
  AreMendedBy (choice.Flags mends) goal names disk disk_after errors errors_after ending =
      AreFiledBy (TellsFixed mends) (ending_of_mending mends) goal names disk disk_after errors errors_after ending
  AreMendedBy choice.Suggested goal names disk disk_after errors errors_after ending =
      AreFiledBy TellsSuggested ending_of_suggested goal names disk disk_after errors errors_after ending

  -- files were mended or redrawn, and written by the goal
  abbrev pub EndsFiled : Asked → Goal → D → D → Tried E → Tried E → Ending → Type 0
  EndsFiled (asked.Mend choice writing names) goal disk disk_after errors errors_after ending =
      AreMendedBy choice goal (map string_bytes names.items) disk disk_after errors errors_after ending
  EndsFiled (asked.Redraw writing names) goal disk disk_after errors errors_after ending =
      AreFiledBy TellsRedrawn ending_of_redrawing goal (map string_bytes names.items) disk disk_after errors
      errors_after ending
  EndsFiled _ goal disk disk_after errors errors_after ending = ⊥

module _ {R W E D : Type 0} (remaining : R → Option (List ℕ)) (contents : W → Option (List ℕ))
    (told : E → Option (List ℕ)) (is_file : Text → R → Type 0) (is_standard : R → Type 0)
    (fails : Text → ErrorKind → Type 0) (did : D → Deed → Option ErrorKind → D → Type 0)
    (leads : D → Name → Name → Type 0) (sees : D → Name → Option Found → Type 0)
    (looks_fail : D → Name → ErrorKind → Type 0) (opens : D → Name → Type 0)
    (identifies : D → Name → Identity → Type 0) where
  -- What these words ask for was done. Files that are mended or redrawn are written where the words say, and nothing
  -- goes to the output. If they say nothing of it, or ask for something else, the disk stays as it is.
  abbrev pub AnswersBy : Option Goal → Bool → List Text → Asked → D → D → Tried W → Tried W → Tried E → Tried E → Ending
      → Type 0
  AnswersBy None is_terminal words a disk disk_after output output_after errors errors_after ending =
      (disk_after ≡ disk)
      × EndsAsTold remaining contents is_file is_standard fails is_terminal words a output output_after ending
      × SaysOf told errors errors_after words a ending
  AnswersBy (Some goal) is_terminal words a disk disk_after output output_after errors errors_after ending =
      (output_after ≡ output)
      × EndsFiled remaining told is_file is_standard fails did leads sees looks_fail opens identifies a goal disk
      disk_after errors errors_after ending

  abbrev pub Answers : Bool → List Text → Asked → D → D → Tried W → Tried W → Tried E → Tried E → Ending → Type 0
  Answers is_terminal words a disk disk_after output output_after errors errors_after ending =
      (aim : Option Goal) × IsAimOf a aim
      × AnswersBy aim is_terminal words a disk disk_after output output_after errors errors_after ending

  -- The words ask for something, and the program ends with it. Words that clap reads, with their command, have no
  -- fault.
  pub record EndsAsAsked (is_terminal : Bool) (words : List Text) (disk disk_after : D) (output output_after : Tried W)
      (errors errors_after : Tried E) (ending : Ending) : Type 0 where
    pub asked : Asked
    pub asked_by : IsAskedBy words asked
    pub faultless : topic_of words ≡ None → faults_of (words_asked words) ≡ []
    pub answers : Answers is_terminal words asked disk disk_after output output_after errors errors_after ending

-- The words ask for nothing, not for what a fault, a note or a word means either, and the program ends as their error
-- says.
pub record EndsRefused {W E : Type 0} (contents : W → Option (List ℕ)) (told : E → Option (List ℕ))
    (words : List Text) (output output_after : Tried W) (errors errors_after : Tried E) (ending : Ending)
    : Type 0 where
  pub topicless : topic_of words ≡ None
  pub refusal : WordsError
  pub refused : IsRefusalOf words refusal
  pub ends : EndsAfter contents (ending_of_words refusal) output output_after ending
  pub says : Says told errors errors_after unnamed ending

abbrev pub EndsSo : {R W E D : Type 0} → (R → Option (List ℕ)) → (W → Option (List ℕ)) → (E → Option (List ℕ))
    → (Text → R → Type 0) → (R → Type 0) → (Text → ErrorKind → Type 0)
    → (D → Deed → Option ErrorKind → D → Type 0) → (D → Name → Name → Type 0) → (D → Name → Option Found → Type 0)
    → (D → Name → ErrorKind → Type 0) → (D → Name → Type 0) → (D → Name → Identity → Type 0)
    → Bool → List Text → D → D → Tried W → Tried W → Tried E → Tried E → Ending → Type 0
EndsSo remaining contents told is_file is_standard fails did leads sees looks_fail opens identifies is_terminal words
    disk disk_after output output_after errors errors_after ending =
    EndsAsAsked remaining contents told is_file is_standard fails did leads sees looks_fail opens identifies is_terminal
    words disk disk_after output output_after errors errors_after ending
    ⊎ ((disk_after ≡ disk) × EndsRefused contents told words output output_after errors errors_after ending)
