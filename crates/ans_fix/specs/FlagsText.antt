-- The words by which mending is asked for.
use Rattle.std.specs.Prelude.{ℕ, Bool, List, [], ◌++◌, Option, None, Some, codes, decimal, if◌then◌else◌}
use Rattle.std.specs.List.{flat_map}
use Rattle.ans_model.specs.MendFlags.{FlagRow, mend_flags}
use Rattle.ans_model.specs.declared.mends.MendStep.{MendStep}
use Rattle.ans_model.specs.declared.mends.MendStep.TheVariants.{TakeOut, Crlf, JoinRows, Mixed, NameColours, Ice}
use Rattle.ans_model.specs.declared.mends.MendStep.TheVariants.{RepairRecord, LeastLines}
use Rattle.ans_model.specs.declared.mends.Mends.{Mends}

-- a step is asked for
abbrev pub asks_for : Mends → MendStep → Bool
asks_for mends TakeOut = mends.take_out
asks_for mends Crlf = mends.crlf
asks_for mends JoinRows = mends.join_rows
asks_for mends Mixed = mends.mixed
asks_for mends NameColours = mends.name_colours
asks_for mends Ice = mends.ice
asks_for mends RepairRecord = mends.repair_record
asks_for mends LeastLines = mends.least_lines

-- a flag, if its step is asked for
abbrev pub flag_text : Mends → FlagRow → List ℕ
flag_text mends flag = if asks_for mends flag.step then codes " --" ++ flag.name else []

-- a flag and its number, if there is one
abbrev pub number_text : List ℕ → Option ℕ → List ℕ
number_text flag None = []
number_text flag (Some number) = flag ++ decimal number

-- each flag after a blank: those without a number in the order of the help, and the numbers
abbrev pub flags_text : Mends → List ℕ
flags_text mends =
    flat_map (flag_text mends) mend_flags
    ++ (number_text (codes " --lines ") mends.lines
    ++ (number_text (codes " --columns ") mends.columns ++ number_text (codes " --add-record ") mends.add_record))
