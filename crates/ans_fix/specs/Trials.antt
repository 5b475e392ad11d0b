-- What mending comes to, and which steps of it would not help a file.
use Rattle.std.specs.Prelude.{◌≡◌, ℕ, Bool, true, false, is_some, ◌&&◌, ◌||◌, ◌==◌, MatchBool, List, Result}
use Rattle.std.specs.Prelude.{Ok, Err, IfErr}
use Rattle.ans_mend.specs.Mending.{TellsMended}
use Rattle.ans_mend.specs.declared.outcome.Mended.{Mended}
use Rattle.ans_mend.specs.declared.outcome.Unmended.{Unmended}
use Rattle.ans_mend.specs.declared.outcome.Unmended.TheVariants.{Refused, TakesNoRecord, Torn, NoLines, TooLong}
use Rattle.ans_model.specs.MendFlags.{with_step}
use Rattle.ans_model.specs.Text.FaultText.{cause_number}
use Rattle.ans_model.specs.declared.mends.MendStep.{MendStep}
use Rattle.ans_model.specs.declared.mends.MendStep.TheVariants.{TakeOut, Crlf, JoinRows, LeastLines}
use Rattle.ans_model.specs.declared.mends.Mends.{Mends}
use Rattle.ans_fix.specs.declared.without_help.Unhelped.{Unhelped}

-- by what is asked for, mending the file comes to this answer
abbrev pub ComesTo : Mends → List ℕ → Result Mended Unmended → Type 0
ComesTo mends file answer = (text : List ℕ) × TellsMended mends file answer text

-- the same fault at the same place, or the same other reason
abbrev pub same_reason : Unmended → Unmended → Bool
same_reason (Refused one) (Refused other) =
    one.offset == other.offset && cause_number one.cause == cause_number other.cause
same_reason (TakesNoRecord one) (TakesNoRecord other) = true
same_reason Torn Torn = true
same_reason NoLines NoLines = true
same_reason TooLong TooLong = true
same_reason _ _ = false

-- nothing is mended, for the same reason
abbrev pub comes_to_same : Unmended → Result Mended Unmended → Bool
comes_to_same reason (Ok mended) = false
comes_to_same reason (Err again) = same_reason again reason

-- whether the file is not mended for the same reason with the step too, if that was not asked for
abbrev pub IsHelpKnown : Mends → List ℕ → Unmended → MendStep → Bool → Bool → Type 0
IsHelpKnown asked file reason step is_asked is_known = MatchBool is_asked (is_known ≡ true)
    ((answer : Result Mended Unmended) × ComesTo (with_step step true asked) file answer
    × (is_known ≡ comes_to_same reason answer))

-- What was asked for of a file that is not mended for this reason, and with it the steps that are no help. If
-- another width is asked for, the least number of lines counts as no help, and is not tried: it would make room for
-- rows of a wrong width.
pub record IsUnhelped (asked : Mends) (file : List ℕ) (unhelped : Unhelped) : Type 0 where
  pub crlf : IsHelpKnown asked file unhelped.reason Crlf asked.crlf unhelped.without_help.crlf
  pub join_rows : IsHelpKnown asked file unhelped.reason JoinRows asked.join_rows unhelped.without_help.join_rows
  pub take_out : IsHelpKnown asked file unhelped.reason TakeOut asked.take_out unhelped.without_help.take_out
  pub least_lines : IsHelpKnown asked file unhelped.reason LeastLines (asked.least_lines || is_some asked.columns)
      unhelped.without_help.least_lines
  pub others : unhelped.without_help ≡ record asked {
    crlf = unhelped.without_help.crlf;
    join_rows = unhelped.without_help.join_rows;
    take_out = unhelped.without_help.take_out;
    least_lines = unhelped.without_help.least_lines;
  }

-- what was changed, or only why nothing was
abbrev pub reason_alone : Result Mended Unhelped → Result Mended Unmended
reason_alone (Ok mended) = Ok mended
reason_alone (Err unhelped) = Err unhelped.reason

-- What is reported of a file that was to be mended: what was changed of it, and the text is the mended file; or there
-- is no text, for this reason, and these steps are no help.
abbrev pub TellsFixed : Mends → List ℕ → Result Mended Unhelped → List ℕ → Type 0
TellsFixed mends file answer text =
    TellsMended mends file (reason_alone answer) text × IfErr answer (IsUnhelped mends file)
