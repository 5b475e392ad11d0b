-- What is wrong with each of many files.
use Rattle.std.specs.Prelude.{◌≡◌, ◌⊎◌, ◌==◌, ℕ, List, [], ◌++◌, Option, Some, None, Result, Ok, Err, codes, decimal}
use Rattle.std.specs.Prelude.{if◌then◌else◌}
use Rattle.std.specs.declared.io.ErrorKind.{ErrorKind}
use Rattle.clap.specs.Words.{Text}
use Rattle.ans_model.specs.Text.RecordText.{named_line}
use Rattle.ans_table.specs.declared.counts.Counts.{Counts}
use Rattle.ans_table.specs.declared.counts.Outcome.{Outcome}
use Rattle.ans_table.specs.declared.counts.Outcome.TheVariants.{Refused, Unread}
use Rattle.ans_table.specs.declared.finding.Unread as reason
use Rattle.ans_table.specs.declared.finding.Unread.TheVariants as why
use Rattle.ans_table.specs.Findings.{pass_outcome, unread_text}
use Rattle.ans_table.specs.NameText.{name_text}
use Rattle.ans_report.specs.Message.{message_line}
use Rattle.ans_sauce.specs.declared.judged.Judged.TheVariants.{Passes}
use Rattle.ans_why.specs.Explained.{Why}
use Rattle.ans_write.specs.declared.tried.Tried.{Tried}
use Rattle.ans_check.specs.FileRows.{Given, TellsNamed, WritesRows}
use Rattle.ans_check.specs.WhyTold.{IsToldOf}
use Rattle.ans_check.specs.declared.errors.RunError.{RunError}

-- the line of a file's name, before what is said of it
abbrev pub file_line : Text → List ℕ
file_line name = named_line (codes "file") (name_text name)

-- the line of a file that was not read
abbrev pub error_line : reason.Unread → List ℕ
error_line e = named_line (codes "error") (unread_text e)

-- how a file came out of which this is said
abbrev pub outcome_of_why : Why → Outcome
outcome_of_why (Passes parts pass) = pass_outcome pass.needs
outcome_of_why _ = Refused

-- what is wrong with the file is said, or what it relies on
pub record TellsJudged (name : Text) (file : List ℕ) (outcome : Outcome) (text : List ℕ) : Type 0 where
  pub said : Why
  pub told : IsToldOf (Some name) file said text
  pub outcome_is : outcome ≡ outcome_of_why said

-- the file was not read, and the reason is given
abbrev pub TellsUnread : reason.Unread → Outcome → List ℕ → Type 0
TellsUnread e outcome text = (outcome ≡ Unread) × (text ≡ error_line e)

-- What is said of the file of this name, of which this was read. Memory may run out for judging it, for trying to mend
-- it, or for the names of a command.
abbrev pub TellsWhyOf : Text → Given → Outcome → List ℕ → Type 0
TellsWhyOf name (Ok file) outcome text = TellsJudged name file outcome text ⊎ TellsUnread why.Memory outcome text
TellsWhyOf name (Err e) outcome text = TellsUnread e outcome text

-- the same after the line of its name
pub record TellsWhy (name : Text) (given : Given) (outcome : Outcome) (text : List ℕ) : Type 0 where
  pub body : List ℕ
  pub told : TellsWhyOf name given outcome body
  pub text_is : text ≡ file_line name ++ body

-- What is wrong with each of these files was written, or a prefix of it.
abbrev pub WritesWhys : {R W : Type 0} → (W → Option (List ℕ)) → (R → Option (List ℕ)) → (Text → R → Type 0)
    → (Text → ErrorKind → Type 0) → List Text → Tried W → Tried W → Result Counts RunError → Type 0
WritesWhys contents remaining is_file fails names output output_after result =
    WritesRows contents (TellsNamed remaining is_file fails TellsWhy) [] names output output_after result

-- how many of the files were not read
abbrev pub unread_counts_line : Counts → List ℕ
unread_counts_line c =
    message_line (decimal c.unread ++ (codes " of " ++ (decimal c.files ++ codes " files not read")))

-- how many of the files were not read, if any
abbrev pub unread_counts_said : Counts → Option (List ℕ)
unread_counts_said c = if c.unread == 0 then None else Some (unread_counts_line c)
