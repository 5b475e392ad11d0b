-- Which file is written where one is to be redrawn, and why there is none.
use Rattle.std.specs.Prelude.{◌≡◌, ◌⊎◌, ℕ, List, [], Some, Result, Ok, Err}
use Rattle.ans_model.specs.File.Layout.{FileParts}
use Rattle.ans_model.specs.File.Refusals.{record_fault}
use Rattle.ans_model.specs.Screen.StartClass.{all_known}
use Rattle.ans_model.specs.Verdict.Good.{Picture}
use Rattle.ans_model.specs.declared.fault.Fault.{Fault}
use Rattle.ans_redraw.specs.RedrawnFile.{IsRedrawnWith, IsTooLong, redrawn_file}
use Rattle.ans_redraw.specs.declared.outcome.Redrawn.{Redrawn}
use Rattle.ans_redraw.specs.declared.outcome.Unredrawn.{Unredrawn}
use Rattle.ans_redraw.specs.declared.outcome.Unredrawn.TheVariants.{Refused, TooLong}
use Rattle.ans_verdict.specs.FileVerdict.{IsRefusedFor, Passes}

-- The file passes from the cleared start with some picture, and is redrawn with that, as far as a file has room for it.
pub record IsRedrawn (file : List ℕ) (redrawn : Redrawn) (new : List ℕ) : Type 0 where
  pub apart : FileParts
  pub picture : Picture
  pub passes : Passes file all_known apart picture
  pub changes : IsRedrawnWith file picture redrawn
  pub new_is : new ≡ redrawn_file file picture

-- The file passes from the cleared start with some picture, and would be too long with its form.
pub record HasLongForm (file : List ℕ) (reason : Unredrawn) : Type 0 where
  pub apart : FileParts
  pub picture : Picture
  pub passes : Passes file all_known apart picture
  pub long : IsTooLong file picture reason

-- A check from the cleared start refuses the file for this fault.
abbrev pub IsRefusedFromCleared : List ℕ → Fault → Type 0
IsRefusedFromCleared file fault =
    (record_fault file ≡ Some fault) ⊎ ((apart : FileParts) × IsRefusedFor file all_known apart fault)

-- The file is refused for this fault; or it would be too long, and has this length then.
abbrev pub IsReasonNot : List ℕ → Unredrawn → Type 0
IsReasonNot file (Refused fault) = IsRefusedFromCleared file fault
IsReasonNot file (TooLong whole) = HasLongForm file (TooLong whole)

-- What is reported of a file that was to be redrawn: what was changed, and the text is the redrawn file; or there is no
-- text, for this reason.
abbrev pub TellsRedrawn : List ℕ → Result Redrawn Unredrawn → List ℕ → Type 0
TellsRedrawn file (Ok redrawn) text = IsRedrawn file redrawn text
TellsRedrawn file (Err reason) text = IsReasonNot file reason × (text ≡ [])
