-- How many files have each outcome.
use Rattle.std.specs.Prelude.{ℕ, ◌==◌, Bool, true, false, nat_lt, List, ◌++◌, length, codes, decimal, if◌then◌else◌}
use Rattle.std.specs.List.{count_by}
use Rattle.ans_table.specs.declared.counts.Counts.{Counts}
use Rattle.ans_table.specs.declared.counts.Outcome.{Outcome}
use Rattle.ans_table.specs.declared.counts.Outcome.TheVariants.{Pass, Cleared, Refused, Unread}

abbrev pub counts_as_pass : Outcome → Bool
counts_as_pass Pass = true
counts_as_pass _ = false

abbrev pub is_cleared : Outcome → Bool
is_cleared Cleared = true
is_cleared _ = false

abbrev pub is_refused : Outcome → Bool
is_refused Refused = true
is_refused _ = false

abbrev pub is_unread : Outcome → Bool
is_unread Unread = true
is_unread _ = false

-- 1 for a file with this outcome, and 0 for another
abbrev pub one_if : Bool → ℕ
one_if so = if so then 1 else 0

-- how many files there are, and how many with each outcome
abbrev pub counts_of : List Outcome → Counts
counts_of outcomes = record {
  files = length outcomes;
  pass = count_by counts_as_pass outcomes;
  cleared = count_by is_cleared outcomes;
  refused = count_by is_refused outcomes;
  unread = count_by is_unread outcomes;
}

-- 2 if a file was not read, else 1 if one is refused, else 0
abbrev pub counts_status : Counts → ℕ
counts_status c = if nat_lt 0 c.unread then 2 else if nat_lt 0 c.refused then 1 else 0

-- one file, or another number of files
abbrev pub files_word : ℕ → List ℕ
files_word files = if files == 1 then codes " file: " else codes " files: "

-- the counts in words
abbrev pub counts_text : Counts → List ℕ
counts_text c =
    decimal c.files
    ++ (files_word c.files
    ++ (decimal c.pass ++ (codes " pass, "
    ++ (decimal c.cleared ++ (codes " pass on a cleared screen, "
    ++ (decimal c.refused ++ (codes " refused, " ++ (decimal c.unread ++ codes " not read"))))))))
