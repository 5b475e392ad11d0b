-- What a run on an input has done when it returns.
use Rattle.std.specs.Prelude.{◌≡◌, ◌≢◌, ◌↔◌, ℕ, ◌+◌, ◌<◌, ◌≤◌, Bool, List, length, Option, Result}
use Rattle.std.specs.Prelude.{IfOk, IfErr, IfSome, IsErrOf, IsTrue}
use Rattle.ans_model.specs.Bytes.{longest_file}
use Rattle.ans_options.specs.declared.command.Options.{Options}
use Rattle.ans_write.specs.Tried.{call_count, has_failed, inner_of}
use Rattle.ans_write.specs.Writes.{Wrote, WrotePrefix}
use Rattle.ans_write.specs.declared.tried.Tried.{Tried}
use Rattle.ans_check.specs.CommandText.{Reports}
use Rattle.ans_check.specs.Run.{HasRead}
use Rattle.ans_check.specs.declared.errors.RunError.{RunError}
use Rattle.ans_check.specs.declared.errors.RunError.TheVariants as error

-- A run was given a reader and a writer that work. `remaining` are the bytes that the reader has yet to give, and
-- `contents` those that the writer has taken, where these are known. `tells` says of a file, an answer and a text that
-- the run is to answer so on the file, and to write the text.
pub record ServesAs {R W A : Type 0} (remaining : R → Option (List ℕ)) (contents : W → Option (List ℕ))
    (tells : List ℕ → A → List ℕ → Type 0) (reader reader_after : Tried R) (writer writer_after : Tried W)
    (result : Result A RunError) : Type 0 where
  -- at `Ok` one file was read, and what is to be said of it is said
  pub ok : IfOk result (λ answer. (file : List ℕ) × (text : List ℕ)
      × HasRead (remaining (inner_of reader)) (remaining (inner_of reader_after)) file
      × tells file answer text × Wrote contents writer writer_after text)
  -- after `Write` a prefix of it was written
  pub prefix : IsErrOf result error.Write → ((file : List ℕ) × (answer : A) × (text : List ℕ)
      × HasRead (remaining (inner_of reader)) (remaining (inner_of reader_after)) file
      × tells file answer text × WrotePrefix contents writer writer_after text)
  -- after any other error nothing was
  pub unwritten : IfErr result (λ e. e ≢ error.Write → writer_after ≡ writer)
  -- `Read` comes exactly where the reader failed, and `Write` exactly where the writer did
  pub read : IsErrOf result error.Read ↔ IsTrue (has_failed reader_after)
  pub write : IsErrOf result error.Write ↔ IsTrue (has_failed writer_after)
  -- `TooLong` comes exactly where more bytes were read than a file may have
  pub too_long : IfSome (remaining (inner_of reader)) (λ xs. IfSome (remaining (inner_of reader_after)) (λ ys.
      IsErrOf result error.TooLong ↔ (longest_file + length ys < length xs)))
  -- one read for each byte of the longest file is enough, one for what is too long, and one for the end
  pub calls : call_count reader_after ≤ call_count reader + (longest_file + 2)

-- A run with these options judged a file and reported on it.
abbrev pub Serves : {R W : Type 0} → (R → Option (List ℕ)) → (W → Option (List ℕ)) → Options → Tried R → Tried R
    → Tried W → Tried W → Result Bool RunError → Type 0
Serves remaining contents options reader reader_after writer writer_after result =
    ServesAs remaining contents (Reports options) reader reader_after writer writer_after result
