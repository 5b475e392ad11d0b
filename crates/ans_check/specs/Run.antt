-- What a run returns, and what it has read.
use Rattle.std.specs.Prelude.{◌≤◌, ℕ, Bool, true, false, List, Option, Result, Ok, Err, codes, length, ⊤}
use Rattle.std.specs.Io.KnownBytes.{Consumes, IsAtEnd}
use Rattle.ans_model.specs.Bytes.{longest_file}
use Rattle.ans_table.specs.Findings.{unread_text}
use Rattle.ans_table.specs.declared.finding.Unread.{Unread}
use Rattle.ans_table.specs.declared.finding.Unread.TheVariants as why
use Rattle.ans_check.specs.declared.errors.RunError.{RunError}
use Rattle.ans_check.specs.declared.errors.RunError.TheVariants as error

-- the text of each error
abbrev pub run_error_text : RunError → List ℕ
run_error_text error.Read = unread_text why.ReadFailed
run_error_text error.TooLong = unread_text why.TooLong
run_error_text error.Memory = unread_text why.Memory
run_error_text error.Write = codes "cannot write the report"

-- why there is no answer where the input was not read
abbrev pub run_error_of : Unread → RunError
run_error_of (why.Unopened reason) = error.Read
run_error_of why.ReadFailed = error.Read
run_error_of why.TooLong = error.TooLong
run_error_of why.Memory = error.Memory
run_error_of why.NameNotText = error.Read

-- a file that is open was not read to its end
abbrev pub IsOfOpenFile : Unread → Type 0
IsOfOpenFile (why.Unopened reason) = ⊥
IsOfOpenFile why.NameNotText = ⊥
IsOfOpenFile _ = ⊤

-- the exit status of what a run returned
abbrev pub status_of : Result Bool RunError → ℕ
status_of (Ok true) = 0
status_of (Ok false) = 1
status_of (Err e) = 2

-- a reader gave this file, to its end
abbrev pub HasRead : Option (List ℕ) → Option (List ℕ) → List ℕ → Type 0
HasRead old new file = Consumes old new file × IsAtEnd new × (length file ≤ longest_file)
