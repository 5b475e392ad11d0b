-- What comes of a file that is mended by its own findings.
use Rattle.std.specs.Prelude.{◌≡◌, ℕ, List, Option, Result, Ok, Err, unwrap_or}
use Rattle.ans_fix.specs.Suggested.{IsFix, no_mends}
use Rattle.ans_fix.specs.Trials.{TellsFixed}
use Rattle.ans_model.specs.declared.mends.Mends.{Mends}
use Rattle.ans_why.specs.Explained.{IsTrueOf, Why}
use Rattle.ans_check.specs.Ending.{ending_of_mending}
use Rattle.ans_check.specs.declared.errors.RunError.{RunError}
use Rattle.ans_check.specs.declared.exit_status.Ending.{Ending}
use Rattle.ans_check.specs.declared.exit_status.Ending.TheVariants.{Run}
use Rattle.ans_check.specs.declared.suggesting.Suggested.{Suggested}

-- These are the flags of the line `fix:` that `why` has for the file, and no flags if it has no such line.
pub record AreFlagsOfFix (file : List ℕ) (mends : Mends) : Type 0 where
  pub said : Why
  pub is_true : IsTrueOf file said
  pub fix : Option Mends
  pub is_fix : IsFix file said fix
  pub flags : mends ≡ unwrap_or fix no_mends

-- It is reported what comes of the file by those flags.
pub record TellsSuggested (file : List ℕ) (answer : Suggested) (text : List ℕ) : Type 0 where
  pub flags : AreFlagsOfFix file answer.mends
  pub told : TellsFixed answer.mends file answer.came text

-- how the program ends at what came of mending so: as at mending by those flags
abbrev pub ending_of_suggested : Result Suggested RunError → Ending
ending_of_suggested (Ok suggested) = ending_of_mending suggested.mends (Ok suggested.came)
ending_of_suggested (Err error) = Run (Err error)
