-- What a run writes of a file.
use Rattle.std.specs.Prelude.{◌≡◌, ◌⊎◌, ℕ, nat_le, Bool, true, false, List, length, Option, Some, None}
use Rattle.std.specs.Prelude.{if◌then◌else◌}
use Rattle.ans_model.specs.File.Layout.{FileParts, content}
use Rattle.ans_model.specs.File.NoteConditions.{notes}
use Rattle.ans_model.specs.File.Record.{title_field, trimmed, is_non_blink, stated_size}
use Rattle.ans_model.specs.File.Refusals.{Accepts}
use Rattle.ans_model.specs.Verdict.Good.{Picture}
use Rattle.ans_model.specs.Text.TokensText.{TokensText}
use Rattle.ans_model.specs.Screen.StartClass.{all_known}
use Rattle.ans_model.specs.Text.NeedsText.{needs_text}
use Rattle.ans_model.specs.Text.FaultText.{cause_number}
use Rattle.ans_model.specs.Text.ReportText.{Heading, Passed, RefusedFor, report_text}
use Rattle.ans_model.specs.declared.fault.Cause.{Cause}
use Rattle.ans_model.specs.declared.fault.Fault.{Fault}
use Rattle.ans_model.specs.declared.start.Start.{Start}
use Rattle.std.specs.Option.{option_copied}
use Rattle.ans_report.specs.declared.report.Report.{Report}
use Rattle.ans_report.specs.declared.report.Report.TheVariants as report
use Rattle.ans_options.specs.declared.command.Command.{Command}
use Rattle.ans_options.specs.declared.command.Command.TheVariants.{Why, Check, Show, Sauce, Tokens, Needs, Table, Mend}
use Rattle.ans_options.specs.declared.command.Command.TheVariants.{Redraw}
use Rattle.ans_options.specs.declared.command.Form.{Form}
use Rattle.ans_options.specs.declared.command.Form.TheVariants.{Terminal, Vga, Page}
use Rattle.ans_options.specs.declared.command.Options.{Options}
use Rattle.ans_show.specs.PageText.{page_text}
use Rattle.ans_show.specs.TerminalText.{terminal_text}
use Rattle.ans_report.specs.RecordReports.{ReportsRecordFault, ReportsSauce}
use Rattle.ans_verdict.specs.declared.verdict.Verdict.{Verdict}
use Rattle.ans_verdict.specs.declared.verdict.Verdict.TheVariants.{Pass, Refused}
use Rattle.ans_verdict.specs.FileNeeds.{NeedsClass}
use Rattle.ans_verdict.specs.FileVerdict.{Passes, IsRefusedFor, IsGoodFile}
use Rattle.ans_check.specs.WhyTold.{ReportsTold}
use Rattle.ans_check.specs.declared.check_file.Checked.{Checked}
use Rattle.ans_check.specs.declared.check_file.Checked.TheVariants as checked

-- what is said of a file before its verdict or its needs, and the class of starts where one is named
abbrev pub heading : FileParts → Option Start → Heading
heading apart start = record {
  size = stated_size apart.record_bytes;
  start = start;
  content_length = length (content apart.body);
  notes = notes apart.body apart.record_bytes;
}

-- the file passes, and the text reports this, with the picture's cells where they are asked for
pub record ReportsPass (file : List ℕ) (start : Start) (cells : Bool) (text : List ℕ) : Type 0 where
  pub apart : FileParts
  pub picture : Picture
  pub passes : Passes file start apart picture
  pub text_is : text ≡ report_text (heading apart (Some start)) (Passed picture cells)

-- the file's content deserves a fault from a class of starts, and the text reports it, with this class or without
pub record ReportsFault (file : List ℕ) (start : Start) (named : Option Start) (text : List ℕ) : Type 0 where
  pub apart : FileParts
  pub fault : Fault
  pub refused : IsRefusedFor file start apart fault
  pub text_is : text ≡ report_text (heading apart named) (RefusedFor fault)

-- the file is not good, and the text reports why
abbrev pub ReportsRefusal : List ℕ → Start → Option Start → List ℕ → Type 0
ReportsRefusal file start named text = ¬ IsGoodFile file start
    × (ReportsFault file start named text ⊎ ReportsRecordFault file text)

-- whether the file passes and the text are what a check finds of it
abbrev pub ReportsCheck : List ℕ → Start → Bool → Bool → List ℕ → Type 0
ReportsCheck file start cells true text = ReportsPass file start cells text
ReportsCheck file start cells false text = ReportsRefusal file start (Some start) text

-- the cause is in what is unknown of the start: F22 to F25
abbrev pub is_of_start : Cause → Bool
is_of_start cause = nat_le 22 (cause_number cause)

-- the content's fault is reported, and it is of the start, or is not
abbrev pub ReportsFaultOf : List ℕ → Start → Bool → List ℕ → Type 0
ReportsFaultOf file start of_start text =
    (reported : ReportsFault file start (Some start) text) × (is_of_start reported.fault.cause ≡ of_start)

-- the answer and the text are what a check finds of the file: it passes; it is refused for a fault that is not of the
-- start, or for its record; or it is refused for a fault of the start
abbrev pub ReportsChecked : List ℕ → Start → Bool → Checked → List ℕ → Type 0
ReportsChecked file start cells checked.Pass text = ReportsPass file start cells text
ReportsChecked file start cells checked.Refused text = ¬ IsGoodFile file start
    × (ReportsFaultOf file start false text ⊎ ReportsRecordFault file text)
ReportsChecked file start cells checked.RefusedByStart text = ¬ IsGoodFile file start
    × ReportsFaultOf file start true text

-- whether a check with this answer is passed
abbrev pub is_passed : Checked → Bool
is_passed checked.Pass = true
is_passed checked.Refused = false
is_passed checked.RefusedByStart = false

-- what a check answers at a verdict
abbrev pub checked_of : {G : Type 0} → Verdict G → Checked
checked_of (Pass parts picture) = checked.Pass
checked_of (Refused None fault) = checked.Refused
checked_of (Refused (Some parts) fault) =
    if is_of_start fault.cause then checked.RefusedByStart else checked.Refused

-- the picture in each form, with the record's title and by its non-blink flag
abbrev pub shown_text : Form → List ℕ → Picture → List ℕ
shown_text Terminal record_bytes picture = terminal_text false (is_non_blink record_bytes) picture
shown_text Vga record_bytes picture = terminal_text true (is_non_blink record_bytes) picture
shown_text Page record_bytes picture =
    page_text (is_non_blink record_bytes) (trimmed (title_field record_bytes)) picture

-- the file passes, and the text is its picture in this form
pub record ReportsPicture (file : List ℕ) (start : Start) (form : Form) (text : List ℕ) : Type 0 where
  pub apart : FileParts
  pub picture : Picture
  pub passes : Passes file start apart picture
  pub text_is : text ≡ shown_text form apart.record_bytes picture

-- The picture is shown; where there is none, the text is what a check writes.
abbrev pub ReportsShow : List ℕ → Start → Form → Bool → List ℕ → Type 0
ReportsShow file start form true text = ReportsPicture file start form text
ReportsShow file start form false text = ReportsCheck file start false false text

-- the file is accepted so, and the text has the tokens of its content and the fault that ends their reading
pub record ReportsContent (file : List ℕ) (fault : Option Fault) (text : List ℕ) : Type 0 where
  pub apart : FileParts
  pub accepts : Accepts file apart
  pub text_is : TokensText (content apart.body) fault text

-- The content's tokens are listed; where a fault ends their reading, or the record is refused, the file does not pass.
abbrev pub ReportsTokens : List ℕ → Bool → List ℕ → Type 0
ReportsTokens file true text = ReportsContent file None text
ReportsTokens file false text = ((fault : Fault) × ReportsContent file (Some fault) text) ⊎ ReportsRecordFault file text

-- the file needs the parts that this class knows, and the text says so
pub record ReportsLeast (file text : List ℕ) : Type 0 where
  pub apart : FileParts
  pub class : Start
  pub needs : NeedsClass file apart class
  pub text_is : text ≡ needs_text (heading apart None) class

-- What the file needs is reported; or it is not good even from the cleared start, and the reason is reported.
abbrev pub ReportsNeeds : List ℕ → Bool → List ℕ → Type 0
ReportsNeeds file true text = ReportsLeast file text
ReportsNeeds file false text = ReportsRefusal file all_known None text

-- Whether the file passes and the text are what the command is to write of it. A table has no row
-- for one file, which has no name here; what its row would say first is reported as `needs` reports it. A file that is
-- to be mended or redrawn has no report either, and what it needs is reported too.
abbrev pub ReportsBy : Command → Start → Bool → List ℕ → Bool → List ℕ → Type 0
ReportsBy Why start cells file passed text = ReportsTold None file passed text
ReportsBy Check start cells file passed text = ReportsCheck file start cells passed text
ReportsBy (Show form) start cells file passed text = ReportsShow file start form passed text
ReportsBy Sauce start cells file passed text = ReportsSauce file passed text
ReportsBy Tokens start cells file passed text = ReportsTokens file passed text
ReportsBy Needs start cells file passed text = ReportsNeeds file passed text
ReportsBy (Table form) start cells file passed text = ReportsNeeds file passed text
ReportsBy (Mend choice) start cells file passed text = ReportsNeeds file passed text
ReportsBy Redraw start cells file passed text = ReportsNeeds file passed text

-- whether the file passes and the text are what the options ask of it
abbrev pub Reports : Options → List ℕ → Bool → List ℕ → Type 0
Reports options file passed text = ReportsBy options.command options.start options.cells file passed text

-- the report gives the verdict, from this start, with the cells of a pass or without
abbrev pub IsReportOf : {G : Type 0} → Verdict G → Start → Bool → Report G → Type 0
IsReportOf (Pass parts picture) start cells (report.Pass told told_start told_picture told_cells) =
    (told.now ≡ parts) × (told_start ≡ start) × (told_picture.now ≡ picture) × (told_cells ≡ cells)
IsReportOf (Refused parts fault) start cells (report.Refused told told_start told_fault) =
    (option_copied told ≡ parts) × (told_start ≡ start) × (told_fault ≡ fault)
IsReportOf _ start cells _ = ⊥
