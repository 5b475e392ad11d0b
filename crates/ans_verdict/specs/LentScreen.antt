-- Screens on memory that is lent.
use Rattle.std.specs.Prelude.{ℕ, ◌+◌, length}
use Rattle.ans_model.specs.Screen.State.{Size}
use Rattle.ans_screen.specs.LentRows.{HasRoom}
use Rattle.ans_verdict.specs.declared.screens.LentScreens.{LentScreens}

-- there is room for a play of this size, with one row more than its lines, in this many rows and bytes
abbrev pub HasScreen : Size → ℕ → ℕ → Type 0
HasScreen z rows bytes = HasRoom z.width (z.lines + 1) rows bytes

-- how many rows are lent
abbrev pub row_count : LentScreens → ℕ
row_count screens = length screens.rows.now

-- how many bytes are lent
abbrev pub byte_count : LentScreens → ℕ
byte_count screens = length screens.bytes.now
