-- How the program ends: its exit status, and what it says on standard error.
use Rattle.std.specs.Prelude.{ℕ, true, false, List, Option, Some, None, Result, Ok, Err, codes}
use Rattle.clap.specs.Words.{kind_of}
use Rattle.clap.specs.declared.error.ErrorKind.{ErrorKind}
use Rattle.clap.specs.declared.error.ErrorKind.TheVariants.{DisplayHelp, DisplayVersion, OutOfMemory}
use Rattle.ans_mend.specs.declared.outcome.Mended as outcome
use Rattle.ans_fix.specs.declared.without_help.Unhelped.{Unhelped}
use Rattle.ans_redraw.specs.declared.outcome.Redrawn as redrawing
use Rattle.ans_redraw.specs.declared.outcome.Unredrawn.{Unredrawn}
use Rattle.ans_model.specs.declared.mends.Mends.{Mends}
use Rattle.ans_options.specs.Mistakes.{mistake_text}
use Rattle.ans_options.specs.declared.command_line.WordsError.{WordsError}
use Rattle.ans_options.specs.declared.command_line.WordsError.TheVariants as words_error
use Rattle.ans_save.specs.Reasons.{error_text}
use Rattle.ans_table.specs.Counting.{counts_status}
use Rattle.ans_table.specs.Unopened.{plain_text}
use Rattle.ans_written.specs.Outcomes as outcomes
use Rattle.ans_check.specs.declared.check_file.Checked.{Checked}
use Rattle.ans_check.specs.declared.check_file.Checked.TheVariants as checked
use Rattle.ans_check.specs.declared.errors.RunError.{RunError}
use Rattle.ans_check.specs.declared.exit_status.Ending.{Ending}
use Rattle.ans_check.specs.declared.exit_status.Ending.TheVariants.{Run, Help, Usage, UnreadableWords, UnopenedFile}
use Rattle.ans_check.specs.declared.exit_status.Ending.TheVariants.{Table, NamedInput, UnreadNames, Mended, NotMended}
use Rattle.ans_check.specs.declared.exit_status.Ending.TheVariants.{Redrawn, NotRedrawn, Explained, InputAmong}
use Rattle.ans_check.specs.declared.exit_status.Ending.TheVariants.{MayPassCleared, Mistaken, ToTerminal, Filed}
use Rattle.ans_check.specs.declared.exit_status.Ending.TheVariants.{Unsaved}
use Rattle.ans_check.specs.Run.{run_error_text, status_of}

-- the exit status of each ending
abbrev pub ending_status : Ending → ℕ
ending_status (Run answer) = status_of answer
ending_status MayPassCleared = 1
ending_status Help = 0
ending_status Usage = 2
ending_status UnreadableWords = 2
ending_status (UnopenedFile reason) = 2
ending_status (Explained counts) = counts_status counts
ending_status InputAmong = 2
ending_status (Table counts) = counts_status counts
ending_status NamedInput = 2
ending_status UnreadNames = 2
ending_status (Mended mended) = 0
ending_status (NotMended asked unhelped) = 1
ending_status (Mistaken mistake) = 2
ending_status ToTerminal = 2
ending_status (Filed counts) = outcomes.counts_status counts
ending_status (Unsaved e) = 2
ending_status (Redrawn redrawn) = 0
ending_status (NotRedrawn reason) = 1

-- what each ending says on standard error after `anscheck: `, if anything
abbrev pub ending_message : Ending → Option (List ℕ)
ending_message (Run (Ok passed)) = None
ending_message (Run (Err error)) = Some (run_error_text error)
ending_message MayPassCleared = Some (codes "it may pass on a cleared screen: see anscheck why")
ending_message Help = None
ending_message Usage = None
ending_message UnreadableWords = Some (codes "cannot read the command line")
ending_message (UnopenedFile reason) = Some (plain_text reason)
ending_message (Table counts) = None
ending_message (Explained counts) = None
ending_message NamedInput =
    Some (codes "table takes no '-': without FILE it reads file names from standard input")
ending_message InputAmong = Some (codes "'-' is standard input, and cannot be one of several files")
ending_message UnreadNames = Some (codes "cannot read the names")
ending_message (Mended mended) = None
ending_message (NotMended asked unhelped) = None
ending_message (Mistaken mistake) = Some (mistake_text mistake)
ending_message ToTerminal = Some (codes "standard output is a terminal: give -o FILE, or pipe it")
ending_message (Filed counts) = None
ending_message (Unsaved e) = Some (error_text e)
ending_message (Redrawn redrawn) = None
ending_message (NotRedrawn reason) = None

-- how the program ends at each kind of clap's errors
abbrev pub ending_of_kind : ErrorKind → Ending
ending_of_kind DisplayHelp = Help
ending_of_kind DisplayVersion = Help
ending_of_kind OutOfMemory = UnreadableWords
ending_of_kind _ = Usage

-- how the program ends where its words give no options
abbrev pub ending_of_words : WordsError → Ending
ending_of_words (words_error.Clap error) = ending_of_kind (kind_of error)
ending_of_words words_error.Memory = UnreadableWords

-- how the program ends at what came of a check
abbrev pub ending_of_checking : Result Checked RunError → Ending
ending_of_checking (Ok checked.Pass) = Run (Ok true)
ending_of_checking (Ok checked.Refused) = Run (Ok false)
ending_of_checking (Ok checked.RefusedByStart) = MayPassCleared
ending_of_checking (Err error) = Run (Err error)

-- how the program ends at what came of mending, for which this was asked
abbrev pub ending_of_mending : Mends → Result (Result outcome.Mended Unhelped) RunError → Ending
ending_of_mending asked (Ok (Ok mended)) = Mended mended
ending_of_mending asked (Ok (Err unhelped)) = NotMended asked unhelped
ending_of_mending asked (Err error) = Run (Err error)

-- how the program ends at what came of redrawing
abbrev pub ending_of_redrawing : Result (Result redrawing.Redrawn Unredrawn) RunError → Ending
ending_of_redrawing (Ok (Ok redrawn)) = Redrawn redrawn
ending_of_redrawing (Ok (Err reason)) = NotRedrawn reason
ending_of_redrawing (Err error) = Run (Err error)
