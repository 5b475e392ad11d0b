-- What `why` says of a file: what is wrong with it, the commands that write it fixed, and where there is more on the
-- fault.
use Rattle.std.specs.Prelude.{◌≡◌, ℕ, Bool, List, [], ◌++◌, Option, None, Some, codes, decimal, if◌then◌else◌}
use Rattle.clap.specs.Words.{Text}
use Rattle.ans_kinds.specs.declared.players.Players.{Players}
use Rattle.ans_kinds.specs.declared.players.Players.TheVariants.{Any, InNamedColours, Agreeing}
use Rattle.ans_model.specs.Text.FaultText.{cause_number}
use Rattle.ans_model.specs.Text.RecordText.{named_line}
use Rattle.ans_model.specs.declared.fault.Cause.{Cause}
use Rattle.ans_model.specs.declared.mends.Mends.{Mends}
use Rattle.ans_model.specs.declared.mends.TheConstants.Mends as no_mends
use Rattle.ans_sauce.specs.Judged.{is_pass}
use Rattle.ans_sauce.specs.declared.judged.Judged.TheVariants.{NoContent, Refused, Passes}
use Rattle.ans_why.specs.Explained.{IsTrueOf, Why}
use Rattle.ans_why.specs.WhyText.{why_text}
use Rattle.ans_why.specs.declared.why.Pass.{Pass}
use Rattle.ans_why.specs.declared.why.Reliance.{Reliance}
use Rattle.ans_fix.specs.FlagsText.{flags_text}
use Rattle.ans_fix.specs.Suggested.{IsFix}
use Rattle.ans_check.specs.LastWords.{last_words}

-- the command that mends the file, if there is one, with its last words
abbrev pub command_line : List ℕ → Option Mends → List ℕ
command_line last None = []
command_line last (Some mends) = named_line (codes "fix") (codes "anscheck mend" ++ (flags_text mends ++ last))

-- where there is more on the fault
abbrev pub more_line : Cause → List ℕ
more_line cause = named_line (codes "more") (codes "anscheck help F" ++ decimal (cause_number cause))

-- the last lines of a file that is refused for this
abbrev pub refused_lines : List ℕ → Cause → Option Mends → List ℕ
refused_lines last cause fix = command_line last fix ++ more_line cause

-- what makes a drawing rely on nothing: nothing that has to be asked for, if the file has room for it
abbrev pub mends_of_pass : Option Reliance → Option Mends
mends_of_pass None = None
mends_of_pass (Some r) = if r.mends then Some no_mends.NONE else None

-- the command that writes a drawing that looks the same everywhere, if kinds are named
abbrev pub everywhere_line : List ℕ → Players → List ℕ
everywhere_line last (Any class) = []
everywhere_line last (InNamedColours class times) =
    named_line (codes "everywhere") (codes "anscheck mend --name-colours" ++ last)
everywhere_line last (Agreeing used) = named_line (codes "everywhere") (codes "anscheck redraw" ++ last)

-- the last lines of a drawing that passes from the cleared start
abbrev pub pass_lines : List ℕ → Pass → List ℕ
pass_lines last pass = command_line last (mends_of_pass pass.reliance) ++ everywhere_line last pass.players

-- the last lines of a file
abbrev pub last_lines : List ℕ → Why → Option Mends → List ℕ
last_lines last (NoContent said) fix = refused_lines last said.fault.cause fix
last_lines last (Refused parts refusal) fix = refused_lines last refusal.fault.cause fix
last_lines last (Passes parts pass) fix = pass_lines last pass

-- the whole text
abbrev pub told_text : List ℕ → Why → Option Mends → List ℕ
told_text last said fix = why_text said ++ last_lines last said fix

-- What is said is true of the file of this name, and the text says it. A command that is named writes a mended file; if
-- none is, none is suggested, or what is suggested comes to none.
pub record IsToldOf (name : Option Text) (file : List ℕ) (said : Why) (text : List ℕ) : Type 0 where
  pub is_true : IsTrueOf file said
  pub fix : Option Mends
  pub is_fix : IsFix file said fix
  pub text_is : text ≡ told_text (last_words name) said fix

-- That is the text. The file passes if it passes from the cleared start.
pub record ReportsTold (name : Option Text) (file : List ℕ) (passed : Bool) (text : List ℕ) : Type 0 where
  pub said : Why
  pub told : IsToldOf name file said text
  pub passed_is : passed ≡ is_pass said
