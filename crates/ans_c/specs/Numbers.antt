-- What is given in numbers.
use Rattle.std.specs.Prelude.{◌≡◌, ℕ, ◌+◌, ◌*◌, ◌<◌, Bool, not, ◌==◌, bit_and, Option, None, Some, if◌then◌else◌}
use Rattle.ans_model.specs.Screen.State.{Size}
use Rattle.ans_model.specs.declared.fault.Cause.{Cause}
use Rattle.ans_model.specs.declared.fault.Cause.TheVariants.{UnknownCell}
use Rattle.ans_model.specs.declared.fault.Fault.{Fault}
use Rattle.ans_model.specs.declared.start.Start.{Start}
use Rattle.ans_model.specs.Text.FaultText.{cause_number}
use Rattle.ans_model.specs.MendFlags.{mend_flags, with_given}
use Rattle.ans_model.specs.declared.mends.Mends.{Mends}
use Rattle.ans_model.specs.declared.mends.TheConstants.Mends as no_mends
use Rattle.ans_c.specs.declared.numbers.PictureSize.{PictureSize}
use Rattle.ans_c.specs.declared.numbers.ToldFault.{ToldFault}

-- the row and the column of an unknown cell, counted from 1; 0 for any other cause
abbrev pub cell_row : Cause → ℕ
cell_row (UnknownCell row col) = row
cell_row _ = 0

abbrev pub cell_column : Cause → ℕ
cell_column (UnknownCell row col) = col
cell_column _ = 0

-- the fault is given
pub record TellsFault (told : ToldFault) (fault : Fault) : Type 0 where
  pub number : told.number ≡ cause_number fault.cause
  pub row : told.row ≡ cell_row fault.cause
  pub column : told.column ≡ cell_column fault.cause
  pub offset : told.offset ≡ fault.offset

-- whether a bit is set
abbrev pub has_bit : ℕ → ℕ → Bool
has_bit known bit = not (bit_and known bit == 0)

-- a number if this is so, or 0
abbrev pub number_if : Bool → ℕ → ℕ
number_if so number = if so then number else 0

-- the class of starts that bits name
abbrev pub class_of : ℕ → Start
class_of known = record {
  screen = has_bit known 1;
  cursor = has_bit known 2;
  saved = has_bit known 4;
  colours = has_bit known 8;
  wrap = has_bit known 16;
}

-- the bits name the class, and no other bit is set
pub record NamesClass (class : Start) (bits : ℕ) : Type 0 where
  pub class_is : class_of bits ≡ class
  pub no_other : bits < 32

-- a number that is asked for; 0 asks for none
abbrev pub number_or_none : ℕ → Option ℕ
number_or_none number = if number == 0 then None else Some number

-- what bits and numbers ask for in a file that is fixed
abbrev pub mends_of : ℕ → ℕ → ℕ → ℕ → Mends
mends_of classes add_record columns lines =
    with_given (λ f. has_bit classes f.bit) (record no_mends.NONE {
      add_record = number_or_none add_record;
      columns = number_or_none columns;
      lines = number_or_none lines;
    }) mend_flags

-- the size, and what is to be lent for a play of it and for its picture
pub record IsSizeOf (z : Size) (told : PictureSize) : Type 0 where
  pub columns : told.columns ≡ z.width
  pub lines : told.lines ≡ z.lines
  pub cells : told.cells ≡ z.width * z.lines
  pub scratch : told.scratch ≡ (z.lines + 1) * (24 + 4 * z.width)
