-- A run of blanks, printed from one position of the stated lines.
use Rattle.std.specs.Prelude.{ℕ, ◌+◌, ◌-◌, ◌*◌, ◌/◌, ◌%◌, min, Option, Some, None, if◌then◌else◌, nat_lt}
use Rattle.ans_model.specs.Screen.State.{Size, at, index}
use Rattle.ans_model.specs.Screen.Step.{next_row_start}
use Rattle.ans_model.specs.declared.cell.Position.{Position}
use Rattle.ans_model.specs.declared.fault.Cause.{Cause}
use Rattle.ans_model.specs.declared.fault.Cause.TheVariants.{PrintBelow, PrintUnknownPlace}
use Rattle.ans_play.specs.declared.span.Span.{Span}
use Rattle.ans_play.specs.declared.wrap.WrapMode.{WrapMode}
use Rattle.ans_play.specs.declared.wrap.WrapMode.TheVariants.{On, Off, Unknown}
use Rattle.ans_play.specs.HalfState.{one_position}
use Rattle.ans_play.specs.HalfStep.{after_print}

-- The fault of the first blank that has one. Where wrap is on, they go on to the spare row; where it is unknown, the
-- position is unknown once the row has ended.
abbrev pub fault_of_blanks : Size → WrapMode → Position → ℕ → Option Cause
fault_of_blanks z On p n = if nat_lt (z.lines * z.width) (index z p + n) then Some PrintBelow else None
fault_of_blanks z Off p n = None
fault_of_blanks z Unknown p n = if nat_lt z.width (p.column + n) then Some PrintUnknownPlace else None

-- the index after the last cell that is blanked
abbrev pub end_of_blanks : Size → WrapMode → Position → ℕ → ℕ
end_of_blanks z On p n = index z p + n
end_of_blanks z Off p n = min (index z p + n) (next_row_start z p)
end_of_blanks z Unknown p n = index z p + n

-- where the cursor may be after them
abbrev pub after_blanks : Size → WrapMode → Position → ℕ → Span
after_blanks z On p n = one_position ((index z p + n) / z.width) ((index z p + n) % z.width)
after_blanks z Off p n = one_position p.row (min (p.column + n) (z.width - 1))
after_blanks z Unknown p n = after_print z Unknown (at p.row (p.column + n - 1))
