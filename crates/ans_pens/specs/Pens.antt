-- A pen: what is kept of a state, which is all but its screen.
use Rattle.std.specs.Prelude.{ℕ, ◌+◌, ◌-◌, Bool, ◌&&◌, ◌==◌, fold, replicate}
use Rattle.ans_model.specs.Bytes.{blank}
use Rattle.ans_model.specs.Screen.State.{Size, State, IsOnScreen, at, sized}
use Rattle.ans_model.specs.Screen.Step.{put, tab_blanks}
use Rattle.ans_model.specs.Screen.StartClass.{cleared}
use Rattle.ans_pens.specs.declared.pen.Pen.{Pen}

-- the cursors, the attribute and wrap of a state
abbrev pub pen_of : State → Pen
pen_of s = record { cursor = s.cursor; saved = s.saved; attribute = s.attribute; wrap = s.wrap }

-- that of the cleared start, whatever its size
abbrev pub cleared_pen : Pen
cleared_pen = pen_of (cleared (sized 0 0))

-- both cursors are on the screen
pub record StandsOn (z : Size) (pen : Pen) : Type 0 where
  pub cursor : IsOnScreen z pen.cursor
  pub saved : IsOnScreen z pen.saved

-- this many columns further in its row
abbrev pub further : Pen → ℕ → Pen
further pen count = record pen { cursor = at pen.cursor.row (pen.cursor.column + count) }

-- a glyph that is printed next wraps
abbrev pub glyph_wraps : Size → Pen → Bool
glyph_wraps z pen = pen.cursor.column + 1 == z.width && pen.wrap

-- the state before the last blank of a tab
abbrev pub before_last_blank : Size → State → State
before_last_blank z s = fold (put z) s (replicate (tab_blanks s.cursor.column - 1) blank)
