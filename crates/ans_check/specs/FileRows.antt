-- A text for each of many files, which are opened by their names.
use Rattle.std.specs.Prelude.{◌≡◌, ◌⊎◌, ◌+◌, ◌<◌, ℕ, List, [], ◌++◌, Option, Result, Ok, Err, IfOk, IfSome}
use Rattle.std.specs.Prelude.{IsTrue, All, length, map, ⊤}
use Rattle.std.specs.Borrow.{Bor}
use Rattle.std.specs.List.{flat_map}
use Rattle.std.specs.Str.{IsUtf8}
use Rattle.clap.specs.Words.{Text}
use Rattle.ans_model.specs.Bytes.{longest_file}
use Rattle.ans_table.specs.declared.counts.Counts.{Counts}
use Rattle.ans_table.specs.declared.counts.Outcome.{Outcome}
use Rattle.ans_table.specs.declared.finding.Unread.{Unread}
use Rattle.ans_table.specs.declared.finding.Unread.TheVariants as why
use Rattle.ans_table.specs.Counting.{counts_of}
use Rattle.ans_write.specs.Tried.{call_count, has_failed, inner_of}
use Rattle.ans_write.specs.Writes.{WritesText}
use Rattle.ans_write.specs.declared.tried.Tried.{Tried}
use Rattle.std.specs.declared.io.ErrorKind.{ErrorKind}
use Rattle.ans_check.specs.Naming.{IsUnopened}
use Rattle.ans_check.specs.Run.{HasRead}
use Rattle.ans_check.specs.declared.errors.RunError.{RunError}
use Rattle.ans_check.specs.declared.errors.RunError.TheVariants as error

-- ---- what is read

-- What was read of a file: its bytes, or why it was not read.
abbrev pub Given : Type 0
Given = Result (List ℕ) Unread

-- the same of a view of the bytes
abbrev pub bytes_given : Result (Bor (List ℕ)) Unread → Given
bytes_given (Ok file) = Ok file.now
bytes_given (Err reason) = Err reason

-- What a reader gave of a file: a failure; more bytes than a file may have; no memory for them; or all of them.
abbrev pub Gave : {R : Type 0} → (R → Option (List ℕ)) → Tried R → Tried R → Given → Type 0
Gave remaining reader after (Ok file) = HasRead (remaining (inner_of reader)) (remaining (inner_of after)) file
Gave remaining reader after (Err why.ReadFailed) = IsTrue (has_failed after)
Gave remaining reader after (Err why.TooLong) =
    IfSome (remaining (inner_of reader)) (λ xs. IfSome (remaining (inner_of after)) (λ ys.
    longest_file + length ys < length xs))
Gave remaining reader after (Err why.Memory) = ⊤
Gave remaining reader after (Err _) = ⊥

-- the file was opened, and this is what its reader gave
pub record IsGivenByReader {R : Type 0} (remaining : R → Option (List ℕ)) (is_file : R → Type 0) (given : Given)
    : Type 0 where
  pub reader : Tried R
  pub reader_after : Tried R
  pub input : is_file (inner_of reader)
  pub unread : call_count reader ≡ 0
  pub gave : Gave remaining reader reader_after given

-- What was read of the file of this name: that the name is no text, why the file was not opened, or what its reader
-- gave.
abbrev pub IsGivenByName : {R : Type 0} → (R → Option (List ℕ)) → (Text → R → Type 0) → (Text → ErrorKind → Type 0)
    → Text → Given → Type 0
IsGivenByName remaining is_file fails name (Err why.NameNotText) = ¬ IsUtf8 name
IsGivenByName remaining is_file fails name (Err (why.Unopened reason)) = IsUnopened fails name reason
IsGivenByName remaining is_file fails name given = IsGivenByReader remaining (is_file name) given

-- ---- what is written

-- `tells` says of a name, what was read of its file, an outcome and a text that they belong together. So do the outcome
-- and the text of the file of this name.
pub record TellsNamed {R : Type 0} (remaining : R → Option (List ℕ)) (is_file : Text → R → Type 0)
    (fails : Text → ErrorKind → Type 0) (tells : Text → Given → Outcome → List ℕ → Type 0) (name : Text)
    (outcome : Outcome) (text : List ℕ) : Type 0 where
  pub given : Given
  pub is_given : IsGivenByName remaining is_file fails name given
  pub told : tells name given outcome text

-- What may end the writing: a failed write, or want of memory for a text that may lack it.
abbrev pub MayEndRows : Type 0 → RunError → Type 0
MayEndRows may_lack e = (e ≡ error.Write) ⊎ ((e ≡ error.Memory) × may_lack)

-- a file's name, how it came out, and the text that is written of it
pub record Told : Type 0 where
  pub name : Text
  pub outcome : Outcome
  pub text : List ℕ

-- The head was written before the texts of files: at `Ok` of all that are named, and else of the first of them, with a
-- prefix of the whole. The files are counted by how they came out.
pub record WritesRows {W : Type 0} (contents : W → Option (List ℕ)) (tells : Text → Outcome → List ℕ → Type 0)
    (head : List ℕ) (names : List Text) (output output_after : Tried W) (result : Result Counts RunError)
    : Type 0 where
  pub rows : List Told
  pub each : All (λ row. tells row.name row.outcome row.text) rows
  pub written : WritesText (contents (inner_of output)) (contents (inner_of output_after)) result
      (head ++ flat_map (λ row. row.text) rows)
  pub later : List Text
  pub named : names ≡ map (λ row. row.name) rows ++ later
  pub all : IfOk result (λ counts. (later ≡ []) × (counts ≡ counts_of (map (λ row. row.outcome) rows)))
