-- Known cells are a picture.
use Rattle.std.proofs.Common.{◌≡◌, ℕ, ◌+◌, ◌-◌, ◌*◌, ◌<◌, ◌≤◌, refl, sym, ◌∙◌, subst, arith, List, map, take, drop}
use Rattle.std.proofs.Common.{Option, Some, None, lit<}
use Rattle.std.specs.Prelude.{IfSome, unwrap_or}
use Rattle.std.proofs.lemmas.List.{take-take, length-map, length-take, drop-take, drop-map, take-map}
use Rattle.std.proofs.lemmas.Simd.{map-map}
use Rattle.std.proofs.lemmas.Nat.{mul-le}
use Rattle.std.proofs.lemmas.List.Elements.{All-map, All-take, All-weaker}
use Rattle.ans_model.specs.Bytes.{IsByte}
use Rattle.ans_model.specs.Screen.State.{Size, IsByteCell}
use Rattle.ans_model.specs.Verdict.Good.{Picture, IsPictureOf}
use Rattle.ans_model.specs.declared.cell.Cell.{Cell}
use Rattle.ans_screen.specs.declared.cell.HalfCell.{HalfCell}
use Rattle.ans_play.specs.PlayView.{IsByteHalfCell}
use Rattle.ans_play.specs.Shown.{known_cell, stated_cells, picture_of, cells_of_row, AreShownCells}

byte_or_0 : (o : Option ℕ) → IfSome o IsByte → IsByte (unwrap_or o 0)
byte_or_0 None h = lit< tt
byte_or_0 (Some b) h = h

cell_byte : (c : HalfCell) → IsByteHalfCell c → IsByteCell (known_cell c)
cell_byte c h = (byte_or_0 c.glyph h.0, h.1)

-- shown cells are a picture of their size
pub is_picture : (z : Size) (cells : List HalfCell) (picture : Picture) → picture_of z cells ≡ picture →
    AreShownCells z cells → IsPictureOf picture.size picture
is_picture z cells picture e h = rw (← e) (record {
  size = refl;
  count = simp (length-map, length-take) (omega (arith, h.enough));
  bytes = All-map IsByteCell known_cell (stated_cells z cells)
      (All-weaker IsByteHalfCell (λ c. IsByteCell (known_cell c)) cell_byte (stated_cells z cells)
      (All-take IsByteHalfCell (z.lines * z.width) cells h.bytes));
})

-- a row of the stated cells is that row of all
stated_row : (z : Size) (cells : List HalfCell) (row : ℕ) → row < z.lines →
    take z.width (drop (row * z.width) (stated_cells z cells)) ≡ take z.width (drop (row * z.width) cells)
stated_row z cells row above =
    let room : (row + 1) * z.width ≤ z.lines * z.width = mul-le (row + 1) z.width z.lines z.width (omega arith)
    (omega arith) in
    let rest = z.lines * z.width - row * z.width in
    let all : z.lines * z.width ≡ row * z.width + rest = omega arith in
    rw (all, drop-take (row * z.width) rest cells) (take-take z.width rest (drop (row * z.width) cells) (omega arith))

-- the cells of a row
row_cells : (z : Size) (cells : List HalfCell) (row : ℕ) → row < z.lines →
    cells_of_row (picture_of z cells) row ≡ map known_cell (take z.width (drop (row * z.width) cells))
row_cells z cells row above =
    rw (
      drop-map known_cell (row * z.width) (stated_cells z cells),
      take-map known_cell z.width (drop (row * z.width) (stated_cells z cells)),
      stated_row z cells row above,
    ) refl

-- what is copied of the cells of the grid's row is that part of the picture's row
pub copied_row : (part : Cell → ℕ) {z : Size} (cells : List HalfCell) {row n : ℕ} {shown : Picture} {copied : List ℕ} →
    picture_of z cells ≡ shown → row < shown.size.lines → n ≡ shown.size.width →
    copied ≡ map (λ c. part (known_cell c)) (take n (drop (row * z.width) cells)) →
    copied ≡ map part (cells_of_row shown row)
copied_row part {z = z} cells {row = row} {n = n} {copied = copied} is above wide same =
    subst (λ (p : Picture). row < p.size.lines → n ≡ p.size.width → copied ≡ map part (cells_of_row p row)) is
    (λ l e. same ∙ rw (e, row_cells z cells row l)
    (sym (map-map part known_cell (take z.width (drop (row * z.width) cells))))) above wide
