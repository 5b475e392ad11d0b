-- Digits give back the cells that they were made of.
use Rattle.std.proofs.Common.{◌≡◌, ℕ, zero, suc, ◌+◌, ◌*◌, ◌/◌, ◌%◌, ◌<◌, List, [], ◌∷◌, ◌++◌, length, take, drop}
use Rattle.std.proofs.Common.{refl, ap, ap₂, sym, ◌∙◌, arith, append_assoc, length-append, length-take, length-drop}
use Rattle.std.proofs.Common.{All, mul_comm}
use Rattle.std.specs.Prelude.{flat_map}
use Rattle.std.proofs.lemmas.Bool.Decides.{nat_tests}
use Rattle.std.proofs.lemmas.List.{take-append-drop, nil_from_length}
use Rattle.std.proofs.lemmas.List.Elements.{All-head, All-tail, All-take, All-drop}
use Rattle.std.proofs.Math.Seq.{take-append_seam, drop-append_seam}
use Rattle.ans_model.specs.declared.cell.Cell.{Cell}
use Rattle.ans_model.specs.Screen.State.{Size, IsByteCell}
use Rattle.ans_model.specs.Verdict.Good.{Picture, IsPictureOf}
use Rattle.ans_model.specs.Text.Hexadecimal.{hex_digit, hex_value}
use Rattle.ans_model.specs.Text.ReportText.{cell_digits, cells_line, rows, rows_of, cells_back, picture_back}

digit_back : (n : ℕ) → n < 16 → hex_value (hex_digit n) ≡ n
digit_back n h = grind (arith, nat_tests)

byte_back : (b : ℕ) → b < 256 → 16 * hex_value (hex_digit (b / 16)) + hex_value (hex_digit (b % 16)) ≡ b
byte_back b h =
    let high : b / 16 < 16 = omega arith in
    let low : b % 16 < 16 = omega arith in
    omega (arith, digit_back (b / 16) high, digit_back (b % 16) low)

-- the digits of a row give back its cells
cells_of_row_back : (row : List Cell) → All IsByteCell row → cells_back (flat_map cell_digits row) ≡ row
cells_of_row_back [] h = refl
cells_of_row_back (c ∷ row) h =
    let byte : IsByteCell c = All-head IsByteCell c row h in
    ap₂ (λ (u : Cell) (v : List Cell). u ∷ v)
    (λ i. record { byte = byte_back c.byte byte.0 i; attribute = byte_back c.attribute byte.1 i })
    (cells_of_row_back row (All-tail IsByteCell c row h))

-- a row has four digits a cell
row_size : (row : List Cell) → length (flat_map cell_digits row) ≡ 4 * length row
row_size [] = refl
row_size (c ∷ row) = let ih = row_size row in omega (arith, ih)

-- the lines of rows give back their cells
cells_of_rows_back : (w l : ℕ) (cells : List Cell) → length cells ≡ w * l → All IsByteCell cells
    → picture_back w l (flat_map cells_line (rows w l cells)) ≡ cells
cells_of_rows_back w zero cells h a = sym (nil_from_length cells (omega (arith, h)))
cells_of_rows_back w (suc l) cells h a =
    let row = take w cells in
    let more = flat_map cells_line (rows w l (drop w cells)) in
    let text = flat_map cell_digits row in
    let wide : length row ≡ w = simp length-take (omega (arith, h)) in
    let size : length text ≡ 4 * w = row_size row ∙ ap (λ (v : ℕ). 4 * v) wide in
    let ended : (text ++ 0x0A ∷ []) ++ more ≡ text ++ 0x0A ∷ more = append_assoc text (0x0A ∷ []) more in
    let first : take (4 * w) ((text ++ 0x0A ∷ []) ++ more) ≡ text =
    ap₂ (λ (n : ℕ) (v : List ℕ). take n v) (sym size) ended ∙ take-append_seam text (0x0A ∷ more) in
    let past : 4 * w + 1 ≡ length (text ++ 0x0A ∷ []) = omega (arith, size, length-append text (0x0A ∷ [])) in
    let left : drop (4 * w + 1) ((text ++ 0x0A ∷ []) ++ more) ≡ more =
    ap (λ (n : ℕ). drop n ((text ++ 0x0A ∷ []) ++ more)) past ∙ drop-append_seam (text ++ 0x0A ∷ []) more in
    let count : length (drop w cells) ≡ w * l = simp length-drop (omega (arith, h)) in
    let ih = cells_of_rows_back w l (drop w cells) count (All-drop IsByteCell w cells a) in
    ap₂ (λ (u v : List Cell). u ++ v) (ap cells_back first ∙ cells_of_row_back row (All-take IsByteCell w cells a))
    (ap (λ (v : List ℕ). picture_back w l v) left ∙ ih) ∙ take-append-drop w cells

-- the lines of a picture give back its cells
pub cells_of_picture_back : (z : Size) (picture : Picture) → IsPictureOf z picture
    → picture_back z.width z.lines (flat_map cells_line (rows_of picture)) ≡ picture.cells
cells_of_picture_back z picture h =
    rw h.size (cells_of_rows_back z.width z.lines picture.cells (h.count ∙ mul_comm z.lines z.width) h.bytes)
