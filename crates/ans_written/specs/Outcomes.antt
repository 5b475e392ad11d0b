-- What became of files that were to be written: how many, and in words.
use Rattle.std.specs.Prelude.{ℕ, ◌==◌, ◌||◌, Bool, true, false, nat_lt, List, [], ◌++◌, length, codes, decimal}
use Rattle.std.specs.Prelude.{if◌then◌else◌}
use Rattle.std.specs.List.{count_by}
use Rattle.ans_written.specs.declared.counts.FileCounts.{FileCounts}
use Rattle.ans_written.specs.declared.counts.FileOutcome.{FileOutcome}
use Rattle.ans_written.specs.declared.counts.FileOutcome.TheVariants.{Changed, Unchanged, ToChange, ToCopy}
use Rattle.ans_written.specs.declared.counts.FileOutcome.TheVariants.{NotDone, NotWritten, NotRead}

-- whether the new file differs from the old one
abbrev pub is_changed : FileOutcome → Bool
is_changed Changed = true
is_changed ToChange = true
is_changed _ = false

-- whether the new file is the old one
abbrev pub is_unchanged : FileOutcome → Bool
is_unchanged Unchanged = true
is_unchanged ToCopy = true
is_unchanged _ = false

abbrev pub is_not_done : FileOutcome → Bool
is_not_done NotDone = true
is_not_done _ = false

abbrev pub is_not_written : FileOutcome → Bool
is_not_written NotWritten = true
is_not_written _ = false

abbrev pub is_not_read : FileOutcome → Bool
is_not_read NotRead = true
is_not_read _ = false

-- whether a file would have been written in a run that writes nothing
abbrev pub is_to_write : FileOutcome → Bool
is_to_write ToChange = true
is_to_write ToCopy = true
is_to_write _ = false

-- how many files there are, and how many became what
abbrev pub counts_of : List FileOutcome → FileCounts
counts_of outcomes = record {
  files = length outcomes;
  changed = count_by is_changed outcomes;
  unchanged = count_by is_unchanged outcomes;
  not_done = count_by is_not_done outcomes;
  not_written = count_by is_not_written outcomes;
  not_read = count_by is_not_read outcomes;
  to_write = count_by is_to_write outcomes;
}

-- 2 if a file was not read or not written; else 1 if one has no new file, or would have been written; else 0
abbrev pub counts_status : FileCounts → ℕ
counts_status c =
    if nat_lt 0 c.not_read || nat_lt 0 c.not_written then 2
    else if nat_lt 0 c.not_done || nat_lt 0 c.to_write then 1
    else 0

-- one file, or another number of files
abbrev pub files_word : ℕ → List ℕ
files_word files = if files == 1 then codes " file: " else codes " files: "

-- that nothing was written, if anything would have been
abbrev pub unwritten_note : ℕ → List ℕ
unwritten_note to_write = if nat_lt 0 to_write then codes "; nothing was written" else []

-- the counts in words
abbrev pub counts_text : FileCounts → List ℕ
counts_text c =
    decimal c.files
    ++ (files_word c.files
    ++ (decimal c.changed ++ (codes " changed, "
    ++ (decimal c.unchanged ++ (codes " unchanged, "
    ++ (decimal c.not_done ++ (codes " not done, "
    ++ (decimal c.not_written ++ (codes " not written, "
    ++ (decimal c.not_read ++ (codes " not read" ++ unwritten_note c.to_write)))))))))))
