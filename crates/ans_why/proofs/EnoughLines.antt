-- What is said of the lines of a file whose record is refused.
use Rattle.std.proofs.Common.{◌≡◌, true, List, ℕ, Option, None, Some}
use Rattle.std.specs.Prelude.{IfSome, IfNone}
use Rattle.ans_model.specs.Bytes.{most_lines}
use Rattle.ans_model.specs.File.Layout.{content}
use Rattle.ans_model.specs.File.Record.{stated_width}
use Rattle.ans_model.specs.declared.fault.Cause.{Cause}
use Rattle.ans_model.specs.declared.fault.Cause.TheVariants.{LinesUnstated}
use Rattle.ans_sauce.specs.Found.{body_in, record_in}
use Rattle.ans_sauce.specs.WithoutLines.{lacks_lines_alone}
use Rattle.ans_pens.specs.Lines.{IsNeverGood}
use Rattle.ans_why.specs.Explained.{IsEnough, IsSaidOfLines}
use Rattle.ans_why.specs.declared.why.Enough.{Enough}

pub said_of_lines : (file : List ℕ) (cause : Cause) (said : Option Enough) → cause ≡ LinesUnstated
    → IfSome said (IsEnough file)
    → IfNone said (lacks_lines_alone file ≡ true
    → IsNeverGood (stated_width (record_in file)) (content (body_in file)) most_lines)
    → IsSaidOfLines file cause said
said_of_lines file cause None is some none = record { some = tt; none = λ e. none }
said_of_lines file cause (Some e) is some none = record { some = (is, some); none = tt }
