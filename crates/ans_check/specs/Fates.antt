-- What becomes of files that are mended or redrawn to be written: each in its turn, and what is said of it.
use Rattle.std.specs.Prelude.{◌≡◌, ◌⊎◌, ℕ, Bool, true, false, not, ◌&&◌, ◌||◌, List, [], ◌∷◌, ◌++◌, Option, Some, None}
use Rattle.std.specs.Prelude.{Result, Ok, Err, MatchBool, MatchOption, codes, if◌then◌else◌, length}
use Rattle.std.specs.Prelude.{Vec, map, nat_le, nat_lt, option_map, string_bytes, unwrap_or}
use Rattle.std.specs.List.{filter, flat_map}
use Rattle.std.specs.Str.{bytes_eq}
use Rattle.std.specs.Global.{Global}
use Rattle.std.specs.declared.io.ErrorKind.{ErrorKind}
use Rattle.clap.specs.Words.{Text}
use Rattle.ans_options.specs.declared.command.Target.{Target}
use Rattle.ans_options.specs.declared.command.Target.TheVariants as target
use Rattle.ans_options.specs.declared.command.Writing.{Writing}
use Rattle.ans_report.specs.Message.{message_line}
use Rattle.ans_save.specs.Deeds.{Deed}
use Rattle.ans_save.specs.Names.{Name}
use Rattle.ans_save.specs.Places.{IsSavingTo, is_in_place}
use Rattle.ans_save.specs.Saving.{IsSaved, IsUnsaved, Knows, inputs_of, written_of}
use Rattle.ans_save.specs.declared.disk.Found.{Found}
use Rattle.ans_save.specs.declared.disk.Identity.{Identity}
use Rattle.ans_save.specs.declared.save_error.SaveError.{SaveError}
use Rattle.ans_save.specs.declared.saves.Saves.{Saves}
use Rattle.ans_save.specs.declared.saving.Saving.{Saving}
use Rattle.ans_save.specs.declared.saving.Saving.TheVariants.{InPlace}
use Rattle.ans_table.specs.declared.finding.Unread.{Unread}
use Rattle.ans_table.specs.declared.finding.Unread.TheVariants as why
use Rattle.ans_write.specs.Puts.{HandsOn, outbox_size}
use Rattle.ans_write.specs.declared.outbox.Outbox.{Outbox}
use Rattle.ans_write.specs.declared.tried.Tried.{Tried}
use Rattle.ans_written.specs.NamedLines.{front_of, named_lines}
use Rattle.ans_written.specs.Outcomes.{counts_of}
use Rattle.ans_written.specs.declared.counts.FileCounts.{FileCounts}
use Rattle.ans_written.specs.declared.counts.FileOutcome.{FileOutcome}
use Rattle.ans_written.specs.declared.counts.FileOutcome.TheVariants.{Changed, Unchanged, ToChange, ToCopy}
use Rattle.ans_written.specs.declared.counts.FileOutcome.TheVariants.{NotDone, NotWritten, NotRead}
use Rattle.ans_check.specs.FileRows.{Given, IsGivenByReader}
use Rattle.ans_check.specs.Naming.{IsUnopened, file_called, front_text, names_standard, unnamed}
use Rattle.ans_check.specs.Run.{run_error_of, run_error_text}
use Rattle.ans_check.specs.Said.{IsNamed, Tells, said_text}
use Rattle.ans_check.specs.declared.errors.RunError.{RunError}
use Rattle.ans_check.specs.declared.errors.RunError.TheVariants as error
use Rattle.ans_check.specs.declared.exit_status.Ending.{Ending}
use Rattle.ans_check.specs.declared.exit_status.Ending.TheVariants as ends
use Rattle.ans_check.specs.declared.fates.Fate.{Fate}
use Rattle.ans_check.specs.declared.fates.Goal.{Goal}
use Rattle.ans_check.specs.declared.fates.Goal.TheVariants.{Saved, Told}
use Rattle.ans_check.specs.declared.naming.Naming.{Naming}

-- ---- where the files go
-- a saving is to a target: over the inputs, or to the file or into the folder of this name
abbrev pub IsSavingOf : Target → Saving → Type 0
IsSavingOf target.Output saving = ⊥
IsSavingOf target.InPlace saving = saving ≡ InPlace
IsSavingOf (target.Path path) saving = IsSavingTo (string_bytes path) saving

abbrev pub is_output : Target → Bool
is_output target.Output = true
is_output _ = false

abbrev pub is_path : Target → Bool
is_path (target.Path path) = true
is_path _ = false

-- What the words say of how files are written: with `--dry-run` they are not. There is no goal if one file goes to
-- standard output.
abbrev pub IsGoalOf : Writing → Option Goal → Type 0
IsGoalOf writing None = (writing.is_dry ≡ false) × (is_output writing.target ≡ true)
IsGoalOf writing (Some (Saved saving)) = (writing.is_dry ≡ false) × IsSavingOf writing.target saving
IsGoalOf writing (Some (Told copies)) = (writing.is_dry ≡ true) × (copies ≡ is_path writing.target)

-- where a new file is written, if it is: an unchanged one is copied, but not over itself
abbrev pub place_of : Goal → Bool → Option Saving
place_of (Saved saving) changed = if changed || not (is_in_place saving) then Some saving else None
place_of (Told copies) changed = None

-- what becomes of a new file, if it is written where it is to be
abbrev pub outcome_of : Goal → Bool → FileOutcome
outcome_of (Saved saving) changed = if changed then Changed else Unchanged
outcome_of (Told copies) changed = if changed then ToChange else if copies then ToCopy else Unchanged

-- the files among inputs: all but standard input
abbrev pub files_among : List Text → List Text
files_among names = filter (λ name. not (names_standard name)) names

-- the inputs that are known in a run: its files, if it writes
abbrev pub inputs_known : Goal → List Text → List Text
inputs_known (Saved saving) names = files_among names
inputs_known (Told copies) names = []

-- ---- what becomes of one file
abbrev pub fate : Ending → FileOutcome → Fate
fate ending outcome = record { ending = ending; outcome = outcome }

-- how the program ends if an input was not read
abbrev pub ending_of_unread : Unread → Ending
ending_of_unread (why.Unopened reason) = ends.UnopenedFile reason
ending_of_unread other = ends.Run (Err (run_error_of other))

-- an input was not read
abbrev pub unread_fate : Unread → Fate
unread_fate reason = fate (ending_of_unread reason) NotRead

-- whether there is a new file: the input is mended or redrawn
abbrev pub is_done : Ending → Bool
is_done (ends.Mended mended) = true
is_done (ends.Redrawn redrawn) = true
is_done _ = false

-- what was read of a file: its bytes, or why it was not read
abbrev pub given_of : Result (Vec ℕ Global) Unread → Given
given_of (Ok file) = Ok file.items
given_of (Err reason) = Err reason

-- What was read of the input of this name: why the file was not opened, or what its reader gave.
abbrev pub IsGivenByInput : {R : Type 0} → (R → Option (List ℕ)) → (Text → R → Type 0) → (R → Type 0)
    → (Text → ErrorKind → Type 0) → Text → Given → Type 0
IsGivenByInput remaining is_file is_standard fails name (Err (why.Unopened reason)) =
    (names_standard name ≡ false) × IsUnopened fails name reason
IsGivenByInput remaining is_file is_standard fails name given =
    IsGivenByReader remaining (IsNamed is_file is_standard (Some name)) given

-- `tells` says of a file, an answer and a text that they belong together. So do this file and text, and the ending is
-- that of the answer.
pub record IsDone {A : Type 0} (tells : List ℕ → A → List ℕ → Type 0) (ending_of : Result A RunError → Ending)
    (file text : List ℕ) (ending : Ending) : Type 0 where
  pub answer : A
  pub told : tells file answer text
  pub ends : ending ≡ ending_of (Ok answer)

-- neither the disk was changed, nor what is known of the files that were written
abbrev pub Untouched : {D : Type 0} → D → D → Saves → Saves → Type 0
Untouched old new saves after = (new ≡ old) × (after ≡ saves)

module _ {D : Type 0} (did : D → Deed → Option ErrorKind → D → Type 0) (leads : D → Name → Name → Type 0)
    (sees : D → Name → Option Found → Type 0) (looks_fail : D → Name → ErrorKind → Type 0)
    (opens : D → Name → Type 0) (identifies : D → Name → Identity → Type 0) where
  -- a new file was written; or it could not be, and that is its fate
  abbrev pub IsWritten : Saving → Option Name → List ℕ → Fate → D → D → Saves → Saves → Fate → Type 0
  IsWritten saving input text written old new saves after result =
      (IsSaved did leads sees looks_fail opens identifies old new saves after saving input text × (result ≡ written))
      ⊎ ((e : SaveError) × IsUnsaved did leads sees looks_fail opens old new saves saving input text e
      × (written_of after ≡ written_of saves) × (result ≡ fate (ends.Unsaved e) NotWritten))

  -- a new file was written where it is to be, if it is to be
  abbrev pub IsKept : Goal → Option Name → Bool → List ℕ → Ending → D → D → Saves → Saves → Fate → Type 0
  IsKept goal input changed text ending old new saves after result =
      MatchOption (place_of goal changed)
      (Untouched old new saves after × (result ≡ fate ending (outcome_of goal changed)))
      (λ saving. IsWritten saving input text (fate ending (outcome_of goal changed)) old new saves after result)

  -- the same, if there is a new file, which is a text
  abbrev pub IsKeptIfDone : Goal → Option Name → (file text : List ℕ) → Ending → D → D → Saves → Saves → Fate → Type 0
  IsKeptIfDone goal input file text ending old new saves after result =
      MatchBool (is_done ending)
      (IsKept goal input (not (bytes_eq text file)) text ending old new saves after result)
      (Untouched old new saves after × (result ≡ fate ending NotDone))

  module _ {A : Type 0} (tells : List ℕ → A → List ℕ → Type 0) (ending_of : Result A RunError → Ending) where
    -- a file was mended or redrawn in memory, and what came of it was kept
    pub record IsRedone (goal : Goal) (input : Option Name) (file : List ℕ) (old new : D) (saves after : Saves)
        (result : Fate) : Type 0 where
      pub text : List ℕ
      pub ending : Ending
      pub done : IsDone tells ending_of file text ending
      pub kept : IsKeptIfDone goal input file text ending old new saves after result

    -- what became of a file, of which this was read; memory may have run out for it
    abbrev pub BecameOf : Goal → Option Name → Given → D → D → Saves → Saves → Fate → Type 0
    BecameOf goal input (Ok file) old new saves after result =
        IsRedone goal input file old new saves after result
        ⊎ (Untouched old new saves after × (result ≡ unread_fate why.Memory))
    BecameOf goal input (Err reason) old new saves after result =
        Untouched old new saves after × (result ≡ unread_fate reason)

    module _ {R : Type 0} (remaining : R → Option (List ℕ)) (is_file : Text → R → Type 0)
        (is_standard : R → Type 0) (fails : Text → ErrorKind → Type 0) where
      -- what became of the input of this name
      pub record Became (goal : Goal) (name : Text) (old new : D) (saves after : Saves) (result : Fate) : Type 0 where
        pub given : Given
        pub is_given : IsGivenByInput remaining is_file is_standard fails name given
        pub became : BecameOf goal (file_called (Some name)) given old new saves after result
        pub same_inputs : inputs_of after ≡ inputs_of saves

-- ---- what is said of one file
-- whether a text of lines is said of a file: what was changed of it, or why it is not mended or redrawn
abbrev pub has_lines : Ending → Bool
has_lines (ends.Mended mended) = true
has_lines (ends.NotMended asked unhelped) = true
has_lines (ends.Redrawn redrawn) = true
has_lines (ends.NotRedrawn reason) = true
has_lines _ = false

-- The name is before each line; of a text that is longer than an outbox only before the first.
abbrev pub lines_of : Text → List ℕ → List ℕ
lines_of name text = if nat_le (length text) outbox_size then named_lines name text else front_of name ++ text

-- what an ending says, or nothing
abbrev pub all_said : Naming → Ending → List ℕ
all_said naming ending = unwrap_or (said_text naming ending) []

-- memory ran out for a file
abbrev pub is_of_memory : Ending → Bool
is_of_memory (ends.Run (Err error.Memory)) = true
is_of_memory _ = false

-- that memory ran out for a file
abbrev pub memory_text : Naming → List ℕ
memory_text naming = message_line (front_text naming ++ run_error_text error.Memory)

-- What is said of a file: what its ending says. If there are several, its name comes before each line.
abbrev pub fate_text : Bool → Text → Naming → Ending → List ℕ
fate_text several name naming ending =
    if is_of_memory ending then memory_text naming
    else if several && has_lines ending then lines_of name (all_said naming ending)
    else all_said naming ending

-- the text is what is said of a file of this name
pub record SaysFate (several : Bool) (name : Text) (f : Fate) (text : List ℕ) : Type 0 where
  pub naming : Naming
  pub named : option_map (λ n. n.now) naming.name ≡ file_called (Some name)
  pub unguessed : naming.is_word ≡ false
  pub is : text ≡ fate_text several name naming f.ending

-- ---- many files
-- a file's name, what became of it, and what is said of it
pub record FileTold : Type 0 where
  pub name : Text
  pub result : Fate
  pub text : List ℕ

-- `became` says of a name, the disk and the files that were written, both before and after, what became of the file. So
-- it was for each file, one after the other, and this was said.
abbrev pub EachBecame : {D : Type 0} → (Text → D → D → Saves → Saves → Fate → Type 0) → Bool → List FileTold
    → D → D → Saves → Saves → Type 0
EachBecame became several [] old new saves after = Untouched old new saves after
EachBecame {D} became several (file ∷ files) old new saves after =
    (next : D) × (between : Saves) × became file.name old next saves between file.result
    × SaysFate several file.name file.result file.text
    × EachBecame became several files next new between after

-- Each of these files became what `became` says, what is said of it was handed on, and it was counted.
pub record AreFiledIn {D E : Type 0} (contents : E → Option (List ℕ))
    (became : Text → D → D → Saves → Saves → Fate → Type 0) (names : List Text) (old new : D) (saves after : Saves)
    (out out_after : Outbox E) (counts : FileCounts) : Type 0 where
  pub files : List FileTold
  pub named : map (λ file. file.name) files ≡ names
  pub each : EachBecame became (nat_lt 1 (length names)) files old new saves after
  pub handed : HandsOn contents out out_after (flat_map (λ file. file.text) files)
  pub counted : counts ≡ counts_of (map (λ file. file.result.outcome) files)

-- A run begins with these inputs, of which none was written.
pub record Begins {D : Type 0} (sees : D → Name → Option Found → Type 0) (looks_fail : D → Name → ErrorKind → Type 0)
    (goal : Goal) (names : List Text) (disk : D) (saves : Saves) : Type 0 where
  pub known : Knows sees looks_fail disk [] (inputs_known goal names) (inputs_of saves)
  pub unwritten : written_of saves ≡ []

-- Each of these files was mended or redrawn, and written if it was to be; the errors took what is said of each, and at
-- last of all; and the ending has how many became what.
pub record AreFiled {D E : Type 0} (sees : D → Name → Option Found → Type 0)
    (looks_fail : D → Name → ErrorKind → Type 0) (told : E → Option (List ℕ))
    (became : Text → D → D → Saves → Saves → Fate → Type 0) (goal : Goal) (names : List Text) (old new : D)
    (errors errors_after : Tried E) (ending : Ending) : Type 0 where
  pub files : List FileTold
  pub named : map (λ file. file.name) files ≡ names
  pub saves : Saves
  pub after : Saves
  pub begins : Begins sees looks_fail goal names old saves
  pub each : EachBecame became (nat_lt 1 (length names)) files old new saves after
  pub ends : ending ≡ ends.Filed (counts_of (map (λ file. file.result.outcome) files))
  pub says : Tells told errors errors_after (flat_map (λ file. file.text) files ++ all_said unnamed ending)

-- there was no memory for the names, and the errors took that
pub record AreNotFiled {D E : Type 0} (told : E → Option (List ℕ)) (old new : D) (errors errors_after : Tried E)
    (ending : Ending) : Type 0 where
  pub untouched : new ≡ old
  pub ends : ending ≡ ends.Run (Err error.Memory)
  pub says : Tells told errors errors_after (all_said unnamed ending)

-- the names of the inputs: standard input if there is none
abbrev pub inputs_named : List Text → List Text
inputs_named [] = codes "-" ∷ []
inputs_named (name ∷ names) = name ∷ names

-- how the program ends after all files
abbrev pub ending_of_files : {E : Type 0} → Result FileCounts E → Ending
ending_of_files (Ok counts) = ends.Filed counts
ending_of_files (Err e) = ends.Run (Err error.Memory)
