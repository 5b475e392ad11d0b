-- All that two states have in common.
use Rattle.std.specs.Prelude.{map}
use Rattle.ans_model.specs.Screen.State.{State}
use Rattle.ans_model.specs.declared.cell.Cell.{Cell}
use Rattle.ans_screen.specs.KnownBits.{known_bits}
use Rattle.ans_screen.specs.HalfCells.{printed_cell}
use Rattle.ans_screen.specs.declared.cell.HalfCell.{HalfCell}
use Rattle.ans_play.specs.HalfState.{HalfState, half_state, span}
use Rattle.ans_play.specs.HalfStep.{wrap_of}
use Rattle.ans_play.specs.Meet.{meet}

-- a cell of which all is known
abbrev pub whole_cell : Cell → HalfCell
whole_cell c = printed_cell (known_bits 0xFF c.attribute) c.byte

-- a state of which all is known
abbrev pub whole : State → HalfState
whole s =
    half_state
    (map whole_cell s.screen)
    (span s.cursor s.cursor)
    (span s.saved s.saved)
    (known_bits 0xFF s.attribute)
    (wrap_of s.wrap)

-- what two states have in common
abbrev pub hull : State → State → HalfState
hull a b = meet (whole a) (whole b)
