-- What an ending says on standard error, and which input a name is.
use Rattle.std.specs.Prelude.{◌≡◌, ℕ, List, [], ◌++◌, Option, Some, None, Err, codes}
use Rattle.std.specs.Prelude.{MatchBool, MatchOption, if◌then◌else◌, nat_lt, option_map}
use Rattle.clap.specs.Words.{Text}
use Rattle.ans_mend.specs.MendedText.{mended_text, unmended_text}
use Rattle.ans_redraw.specs.RedrawnText.{redrawn_text, unredrawn_text}
use Rattle.ans_report.specs.Message.{message_line}
use Rattle.ans_save.specs.Reasons.{error_text, reason_in}
use Rattle.ans_save.specs.Reasons as save
use Rattle.ans_save.specs.declared.save_error.Reason.{Reason}
use Rattle.ans_save.specs.declared.save_error.SaveError.{SaveError}
use Rattle.ans_table.specs.Counting.{counts_text}
use Rattle.ans_write.specs.Tried.{has_failed, inner_of}
use Rattle.ans_write.specs.Writes.{AppendsUnless}
use Rattle.ans_write.specs.declared.tried.Tried.{Tried}
use Rattle.ans_written.specs.Outcomes as outcomes
use Rattle.ans_written.specs.declared.counts.FileCounts.{FileCounts}
use Rattle.ans_check.specs.Ending.{ending_message}
use Rattle.ans_check.specs.Naming.{front_text, names_standard, unopened_text}
use Rattle.ans_check.specs.WhyRows.{unread_counts_said}
use Rattle.ans_check.specs.declared.errors.RunError.TheVariants as error
use Rattle.ans_check.specs.declared.exit_status.Ending.{Ending}
use Rattle.ans_check.specs.declared.exit_status.Ending.TheVariants.{Run, Usage, UnopenedFile, Table, Mended, NotMended}
use Rattle.ans_check.specs.declared.exit_status.Ending.TheVariants.{Redrawn, NotRedrawn, Explained, Filed, Unsaved}
use Rattle.ans_check.specs.declared.naming.Naming.{Naming}

-- the reader is the input that the words name: the file of this name, or standard input where it is `-` or missing
abbrev pub IsNamed : {R : Type 0} → (Text → R → Type 0) → (R → Type 0) → Option Text → R → Type 0
IsNamed is_file is_standard (Some name) reader =
    MatchBool (names_standard name) (is_standard reader) (is_file name reader)
IsNamed is_file is_standard None reader = is_standard reader

-- between two moments the errors took the text, or a prefix of it where they failed
abbrev pub Tells : {E : Type 0} → (E → Option (List ℕ)) → Tried E → Tried E → List ℕ → Type 0
Tells contents errors errors_after text =
    AppendsUnless (has_failed errors_after) (contents (inner_of errors)) (contents (inner_of errors_after)) text

-- the system's reason why a file is not written, if there is one
abbrev pub reason_said : Option Reason → List ℕ
reason_said None = []
reason_said (Some reason) = codes ": " ++ save.reason_text reason

-- why a file is not written, after its name if that is given
abbrev pub unsaved_text : Naming → SaveError → List ℕ
unsaved_text n e = front_text n ++ (codes "not written: " ++ (error_text e ++ reason_said (reason_in e)))

-- how many of several files became what
abbrev pub file_counts_said : FileCounts → Option (List ℕ)
file_counts_said c = if nat_lt 1 c.files then Some (message_line (outcomes.counts_text c)) else None

-- the message of an ending, which has this text if no name is given
abbrev pub named_message : Naming → Ending → List ℕ → List ℕ
named_message naming (UnopenedFile reason) text = unopened_text naming reason
named_message naming (Run (Err error.Read)) text = front_text naming ++ text
named_message naming (Run (Err error.TooLong)) text = front_text naming ++ text
named_message naming (Unsaved e) text = unsaved_text naming e
named_message naming ending text = text

-- What an ending says after `anscheck: `, if anything: its message, with what the input is called.
abbrev pub message_of : Naming → Ending → Option (List ℕ)
message_of naming ending = option_map (named_message naming ending) (ending_message ending)

-- What an ending says on standard error, if anything: the line of its message; that of a table's counts; how many of
-- several files were not read, if any, or became what; what was changed of a file that was mended or redrawn, or why it
-- was not.
abbrev pub said_text : Naming → Ending → Option (List ℕ)
said_text naming (Table counts) = Some (message_line (counts_text counts))
said_text naming (Explained counts) = unread_counts_said counts
said_text naming (Filed counts) = file_counts_said counts
said_text naming (Mended mended) = Some (mended_text mended)
said_text naming (NotMended asked unhelped) = Some (unmended_text asked unhelped.without_help unhelped.reason)
said_text naming (Redrawn redrawn) = Some (redrawn_text redrawn)
said_text naming (NotRedrawn reason) = Some (unredrawn_text reason)
said_text naming ending = option_map message_line (message_of naming ending)

-- the errors took what the ending says, or nothing if it says nothing; clap's text if the words are rejected
abbrev pub Says : {E : Type 0} → (E → Option (List ℕ)) → Tried E → Tried E → Naming → Ending → Type 0
Says contents errors errors_after naming Usage = (text : List ℕ) × Tells contents errors errors_after text
Says contents errors errors_after naming ending =
    MatchOption (said_text naming ending) (errors_after ≡ errors) (λ text. Tells contents errors errors_after text)
