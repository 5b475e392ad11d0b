-- The starts of a class, and its low and its high one. A class says which parts of a start are known to be as on the
-- cleared screen.
use Rattle.std.specs.Prelude.{◌≡◌, ℕ, ◌-◌, ◌&&◌, Bool, true, false, replicate, IsTrue, if◌then◌else◌}
use Rattle.ans_model.specs.declared.cell.Position.{Position}
use Rattle.ans_model.specs.Screen.State.{Size, State, at, cell, cell_count, IsWellFormed}
use Rattle.ans_model.specs.Screen.Step.{blank_cell}
use Rattle.ans_model.specs.declared.start.Start.{Start}

-- of any start nothing is known
abbrev pub none_known : Start
none_known = record { screen = false; cursor = false; saved = false; colours = false; wrap = false }

-- of the cleared start all is known
abbrev pub all_known : Start
all_known = record { screen = true; cursor = true; saved = true; colours = true; wrap = true }

-- each part that is known in the first class is known in the second
pub record Covers (a b : Start) : Type 0 where
  pub screen : IsTrue a.screen → IsTrue b.screen
  pub cursor : IsTrue a.cursor → IsTrue b.cursor
  pub saved : IsTrue a.saved → IsTrue b.saved
  pub colours : IsTrue a.colours → IsTrue b.colours
  pub wrap : IsTrue a.wrap → IsTrue b.wrap

-- the parts that are known in both classes
abbrev pub both_known : Start → Start → Start
both_known a b = record {
  screen = a.screen && b.screen;
  cursor = a.cursor && b.cursor;
  saved = a.saved && b.saved;
  colours = a.colours && b.colours;
  wrap = a.wrap && b.wrap;
}

-- all parts but one are known
abbrev pub all_but_screen : Start
all_but_screen = record all_known { screen = false }

abbrev pub all_but_cursor : Start
all_but_cursor = record all_known { cursor = false }

abbrev pub all_but_saved : Start
all_but_saved = record all_known { saved = false }

abbrev pub all_but_colours : Start
all_but_colours = record all_known { colours = false }

abbrev pub all_but_wrap : Start
all_but_wrap = record all_known { wrap = false }

-- blank cells of white on black, both cursors at home, wrap on (profile)
abbrev pub cleared : Size → State
cleared z = record {
  screen = replicate (cell_count z) (blank_cell 0x07);
  cursor = at 0 0;
  saved = at 0 0;
  attribute = 0x07;
  wrap = true;
}

-- a state of the machine that is as the cleared one in each known part
pub record IsStart (z : Size) (class : Start) (s : State) : Type 0 where
  pub well_formed : IsWellFormed z s
  pub screen : IsTrue class.screen → s.screen ≡ (cleared z).screen
  pub cursor : IsTrue class.cursor → s.cursor ≡ (cleared z).cursor
  pub saved : IsTrue class.saved → s.saved ≡ (cleared z).saved
  pub attribute : IsTrue class.colours → s.attribute ≡ (cleared z).attribute
  pub wrap : IsTrue class.wrap → s.wrap ≡ (cleared z).wrap

-- the cleared state in each known part, and the other state's value elsewhere
abbrev pub start_with : Size → Start → State → State
start_with z class s = record {
  screen = if class.screen then (cleared z).screen else s.screen;
  cursor = if class.cursor then (cleared z).cursor else s.cursor;
  saved = if class.saved then (cleared z).saved else s.saved;
  attribute = if class.colours then (cleared z).attribute else s.attribute;
  wrap = if class.wrap then (cleared z).wrap else s.wrap;
}

-- each cell has this byte and this attribute, which is also the current one, and both cursors are at this corner
abbrev pub uniform_state : Size → ℕ → Position → Bool → State
uniform_state z byte corner wrap = record {
  screen = replicate (cell_count z) (cell byte byte);
  cursor = corner;
  saved = corner;
  attribute = byte;
  wrap = wrap;
}

-- the least value of each part that is not known
abbrev pub low_start : Size → Start → State
low_start z class = start_with z class (uniform_state z 0x00 (at 0 0) false)

-- the greatest value of each part that is not known
abbrev pub high_start : Size → Start → State
high_start z class = start_with z class (uniform_state z 0xFF (at z.lines (z.width - 1)) true)
