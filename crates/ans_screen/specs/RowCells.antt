-- Half-known cells in four byte planes, of which the rows hold what was written to them in this round.
use Rattle.std.specs.Prelude.{◌≡◌, ℕ, ◌+◌, ◌*◌, ◌/◌, ◌^◌, ◌<◌, ◌≤◌, ◌==◌, Bool, true, false, IsTrue, List, length, map}
use Rattle.std.specs.Prelude.{set, slice_index, slice_index_or, nat_lt, if◌then◌else◌, Option, MatchOption, ◌⊎◌}
use Rattle.std.specs.List.{range_with_len, All}
use Rattle.std.proofs.lemmas.List.FromFn.{length-map-range_with_len}
use Rattle.ans_model.specs.Screen.Step.{filled}
use Rattle.ans_screen.specs.GridEdits.{is_unknown}
use Rattle.ans_screen.specs.CellPlanes.{cell_of}
use Rattle.ans_screen.specs.declared.cell.HalfCell.{HalfCell}
use Rattle.ans_screen.specs.declared.cell.CellByte.{CellByte}
use Rattle.ans_screen.specs.declared.cell.CellByte.TheVariants.{Glyph, Attribute}
use Rattle.ans_screen.specs.declared.row_planes.RowState.{RowState}

-- how a cell is held in the planes: not at all, in the two of glyphs and of values, or in all four
pub data CellState : Type 0 where
  Stale : CellState
  Known : CellState
  Mixed : CellState

-- The cell that its state, the blank and four bytes stand for: the blank where it is not held, and by two planes a
-- cell of which the glyph and all bits are known.
abbrev pub row_cell : CellState → HalfCell → ℕ → ℕ → ℕ → ℕ → HalfCell
row_cell Stale blank glyph glyph_known bits_known value = blank
row_cell Known blank glyph glyph_known bits_known value = cell_of glyph 0xFF 0xFF value
row_cell Mixed blank glyph glyph_known bits_known value = cell_of glyph glyph_known bits_known value

-- the state of the cells that a row holds, by whether all of them are known
abbrev pub state_of : Bool → CellState
state_of true = Known
state_of false = Mixed

-- a row that was never written
abbrev pub never_written : RowState
never_written = record { round = 0; known = true; first = 0; end = 0 }

-- what a row holds in a round
abbrev pub held_row : ℕ → Bool → ℕ → ℕ → RowState
held_row round known first end = record { round = round; known = known; first = first; end = end }

-- a row that holds no cell in a round: what it holds begins and ends at a place
abbrev pub holds_none : ℕ → ℕ → RowState
holds_none round place = record { round = round; known = true; first = place; end = place }

-- the state of cell i in a round, where this is its row
abbrev pub state_in : ℕ → RowState → ℕ → CellState
state_in round row i =
    if row.round == round then
    (if nat_lt i row.first then Stale else if nat_lt i row.end then state_of row.known else Stale)
    else Stale

-- What a grid of planes is made of. A plane has a byte for each cell: the glyph, FFh where it is known, the bits of
-- the attribute that are known, and its value.
pub record Planes : Type 0 where
  pub width : ℕ
  pub rows : ℕ
  pub blank : HalfCell
  pub round : ℕ
  pub held : List RowState
  pub glyphs : List ℕ
  pub glyphs_known : List ℕ
  pub bits_known : List ℕ
  pub values : List ℕ
  pub some_width : 1 ≤ width
  pub indexed : width * rows < 2 ^ 64
  pub whole_held : length held ≡ rows
  pub no_later_round : All (λ (row : RowState). row.round ≤ round) held
  pub whole_glyphs : length glyphs ≡ width * rows
  pub whole_glyphs_known : length glyphs_known ≡ width * rows
  pub whole_bits_known : length bits_known ≡ width * rows
  pub whole_values : length values ≡ width * rows

-- the plane of a cell's glyphs or attributes, and below that of what is known of them
abbrev pub shown_plane : CellByte → Planes → List ℕ
shown_plane Glyph g = g.glyphs
shown_plane Attribute g = g.values

abbrev pub known_plane : CellByte → Planes → List ℕ
known_plane Glyph g = g.glyphs_known
known_plane Attribute g = g.bits_known

-- the state of cell i of a grid, by its row
abbrev pub states_of : Planes → ℕ → CellState
states_of g i = state_in g.round (slice_index_or g.held (i / g.width) never_written) i

-- the cell that the bytes of cell i stand for in a state
abbrev pub byte_cell : CellState → Planes → ℕ → HalfCell
byte_cell state g i =
    row_cell state g.blank (slice_index g.glyphs i) (slice_index g.glyphs_known i)
    (slice_index g.bits_known i) (slice_index g.values i)

-- cell i of a grid
abbrev pub cell_in_grid : Planes → ℕ → HalfCell
cell_in_grid g i = byte_cell (states_of g i) g i

-- all cells of a grid
abbrev pub cells_of_grid : Planes → List HalfCell
cells_of_grid g = map (cell_in_grid g) (range_with_len 0 (g.width * g.rows))

-- a cell for each row and column of a grid
pub length_grid : (g : Planes) → length (cells_of_grid g) ≡ g.width * g.rows
length_grid g = length-map-range_with_len (cell_in_grid g) 0 (g.width * g.rows)

-- both grids have the same cells in the same rows
pub record ShowsSame (old new : Planes) : Type 0 where
  pub cells : cells_of_grid new ≡ cells_of_grid old
  pub width : new.width ≡ old.width
  pub rows : new.rows ≡ old.rows

-- the grids differ only in bytes of the planes
pub record SameRows (old new : Planes) : Type 0 where
  pub held : new.held ≡ old.held
  pub round : new.round ≡ old.round
  pub blank : new.blank ≡ old.blank
  pub width : new.width ≡ old.width
  pub rows : new.rows ≡ old.rows

-- the bytes of the glyphs and the values are the same
pub record SameShown (old new : Planes) : Type 0 where
  pub glyphs : new.glyphs ≡ old.glyphs
  pub values : new.values ≡ old.values

-- the bytes of what is known are the same
pub record SameKnown (old new : Planes) : Type 0 where
  pub glyphs_known : new.glyphs_known ≡ old.glyphs_known
  pub bits_known : new.bits_known ≡ old.bits_known

-- What is known of the cells from `from` up to and without `to` is written, or by their state all of it is known.
abbrev pub AreMarked : Planes → Planes → Bool → ℕ → ℕ → ℕ → ℕ → Type 0
AreMarked old new known from to k b =
    ((known ≡ false) × (new.glyphs_known ≡ filled old.glyphs_known from to k)
    × (new.bits_known ≡ filled old.bits_known from to b))
    ⊎ ((known ≡ true) × SameKnown old new × (k ≡ 0xFF) × (b ≡ 0xFF))

-- four bytes are written to those cells, in the planes that count
pub record AreFilled (old new : Planes) (known : Bool) (from to glyph glyph_known bits_known value : ℕ) : Type 0 where
  pub glyphs : new.glyphs ≡ filled old.glyphs from to glyph
  pub values : new.values ≡ filled old.values from to value
  pub marks : AreMarked old new known from to glyph_known bits_known
  pub same : SameRows old new

-- only what one row holds differs
pub record HasRow (old new : Planes) (i : ℕ) (row : RowState) : Type 0 where
  pub held : new.held ≡ set old.held i row
  pub round : new.round ≡ old.round
  pub blank : new.blank ≡ old.blank
  pub width : new.width ≡ old.width
  pub rows : new.rows ≡ old.rows
  pub shown : SameShown old new
  pub known : SameKnown old new

-- all is the same except for the round and the blank
pub record BeginsRound (old new : Planes) (r : ℕ) (cell : HalfCell) : Type 0 where
  pub held : new.held ≡ old.held
  pub round : new.round ≡ r
  pub blank : new.blank ≡ cell
  pub width : new.width ≡ old.width
  pub rows : new.rows ≡ old.rows

-- this is what a row of the grid holds
pub record IsHeldRow (g : Planes) (row : ℕ) (held : RowState) : Type 0 where
  pub round : held.round ≡ g.round
  pub start : row * g.width ≤ held.first
  pub ordered : held.first ≤ held.end
  pub stop : held.end ≤ row * g.width + g.width
  pub inside : (i : ℕ) → held.first ≤ i → i < held.end → states_of g i ≡ state_of held.known
  pub before : (i : ℕ) → row * g.width ≤ i → i < held.first → states_of g i ≡ Stale
  pub after : (i : ℕ) → held.end ≤ i → i < row * g.width + g.width → states_of g i ≡ Stale

-- this byte of n cells side by side from cell `from` on is copied
abbrev pub IsCopied : (HalfCell → ℕ) → Planes → ℕ → ℕ → List ℕ → Type 0
IsCopied byte g from n copied = (k : ℕ) → k < n → slice_index copied k ≡ byte (cell_in_grid g (from + k))

-- of the cells from `from` up to and without `to` each is known
abbrev pub AreKnownCells : (ℕ → HalfCell) → ℕ → ℕ → Type 0
AreKnownCells cell from to = (i : ℕ) → from ≤ i → i < to → is_unknown (cell i) ≡ false

-- the first of those cells that is not known
abbrev pub FindsUnknown : (ℕ → HalfCell) → ℕ → ℕ → Option ℕ → Type 0
FindsUnknown cell from to result =
    MatchOption result (AreKnownCells cell from to)
    (λ i. (from ≤ i) × (i < to) × AreKnownCells cell from i × IsTrue (is_unknown (cell i)))

-- the four bytes of cell i are the same in both grids
pub record SameBytes (old new : Planes) (i : ℕ) : Type 0 where
  pub glyph : slice_index new.glyphs i ≡ slice_index old.glyphs i
  pub glyph_known : slice_index new.glyphs_known i ≡ slice_index old.glyphs_known i
  pub bits_known : slice_index new.bits_known i ≡ slice_index old.bits_known i
  pub value : slice_index new.values i ≡ slice_index old.values i

-- from `from` up to and without `to` the bytes of each cell stand for the blank in this state, and the others are as
-- they were
pub record HasBlanks (state : CellState) (old new : Planes) (from to : ℕ) : Type 0 where
  pub inside : (i : ℕ) → from ≤ i → i < to → byte_cell state new i ≡ new.blank
  pub outside : (i : ℕ) → (i < from) ⊎ (to ≤ i) → SameBytes old new i

-- the bytes of the cells that are held stand for the same cells now, by two planes or by four
pub record IsMarked (held : RowState) (known : Bool) (old new : Planes) : Type 0 where
  pub inside : (i : ℕ) → held.first ≤ i → i < held.end
      → byte_cell (state_of known) new i ≡ byte_cell (state_of held.known) old i
  pub outside : (i : ℕ) → (i < held.first) ⊎ (held.end ≤ i) → SameBytes old new i
