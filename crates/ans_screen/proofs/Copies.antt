-- Bytes of the cells of a row, copied one after the other.
use Rattle.std.proofs.Common.{◌≡◌, ℕ, ◌+◌, ◌*◌, ◌<◌, List, take, drop, get_or, set, length, map, Some}
use Rattle.std.proofs.Common.{ap, sym, ◌∙◌, arith}
use Rattle.std.specs.Prelude.{slice_get}
use Rattle.std.proofs.lemmas.List.{length-drop, length-map, length-take-le, get_or-drop, get_or-take, get_or_default}
use Rattle.std.proofs.lemmas.List.{same_lists}
use Rattle.std.proofs.lemmas.List.Edits.{fill_by_more}
use Rattle.std.proofs.lemmas.Option.{get_or_from_slice_get}
use Rattle.ans_screen.specs.CellPlanes.{cell_of}
use Rattle.ans_screen.specs.GridEdits.{row_cells}
use Rattle.ans_screen.specs.declared.cell.HalfCell.{HalfCell}
use Rattle.ans_screen.proofs.Places.{row_end, get_or-map_within}

-- what stands behind the last cell
abbrev pub no_cell : HalfCell
no_cell = cell_of 0 0 0 0

-- this byte of n cells from `from` on is copied
abbrev pub AreCopied : (HalfCell → ℕ) → List HalfCell → ℕ → ℕ → List ℕ → Type 0
AreCopied byte cells from n copied = (k : ℕ) → k < n → get_or copied k 0 ≡ byte (get_or cells (from + k) no_cell)

-- and of one more
pub copied_more : (byte : HalfCell → ℕ) (cells : List HalfCell) (from i : ℕ) (old : List ℕ) (x : HalfCell) (y : ℕ)
    → AreCopied byte cells from i old → i < length old → slice_get cells (from + i) ≡ Some x → y ≡ byte x
    → AreCopied byte cells from (i + 1) (set old i y)
copied_more byte cells from i old x y before within read is k lt =
    let f = λ (j : ℕ). byte (get_or cells (from + j) no_cell) in
    let here : y ≡ f i = is ∙ ap byte (sym (get_or_from_slice_get cells (from + i) x no_cell read)) in
    ap (λ (z : ℕ). get_or (set old i z) k 0) here ∙ fill_by_more f old i 0 within before k lt

-- a place in a row of a grid
pub in_row : (w rows row width i len : ℕ) → width ≡ w → len ≡ w * rows → row < rows → i < w → row * width + i < len
in_row w rows row width i len e whole lt within =
    let start : row * width ≡ row * w = ap (λ (n : ℕ). row * n) e in
    omega (arith, row_end w row rows lt)

-- a row of which each cell's byte is copied
pub row_copied : (byte : HalfCell → ℕ) (cells : List HalfCell) (w rows row from : ℕ) (new : List ℕ)
    → length cells ≡ w * rows → row < rows → from ≡ row * w → length new ≡ w → AreCopied byte cells from w new
    → new ≡ map byte (row_cells w row cells)
row_copied byte cells w rows row from new whole lt start long each =
    let behind = drop (row * w) cells in
    let front = take w behind in
    let room = row_end w row rows lt in
    let count : length front ≡ w = length-take-le w behind (omega (arith, length-drop (row * w) cells)) in
    same_lists new (map byte front) (omega (arith, length-map front byte)) (λ k d below.
    let within : k < w = omega arith in
    get_or_default new k d 0 below
    ∙ (each k within
    ∙ (ap (λ (n : ℕ). byte (get_or cells (n + k) no_cell)) start
    ∙ (ap byte (sym (get_or-take w behind k no_cell within ∙ get_or-drop (row * w) cells k no_cell))
    ∙ sym (get_or-map_within byte front k no_cell d (omega arith))))))
