-- The lines of a picture.
use Rattle.std.proofs.Common.{◌≡◌, ℕ, zero, suc, ◌*◌, ◌<◌, ◌≤◌, List, [], length, take, drop}
use Rattle.std.proofs.Common.{get_or, refl, sym, ap, ◌∙◌, arith, zero-mul}
use Rattle.std.proofs.lemmas.List.{take_all, drop-drop}
use Rattle.ans_model.specs.declared.cell.Cell.{Cell}
use Rattle.ans_model.specs.Verdict.Good.{Picture}
use Rattle.ans_model.specs.Text.ReportText.{rows, rows_of}
use Rattle.ans_play.specs.Shown.{cells_of_row}

pub length-rows : (w l : ℕ) (cells : List Cell) → length (rows w l cells) ≡ l
length-rows w zero cells = refl
length-rows w (suc l) cells = ap suc (length-rows w l (drop w cells))

rows_at : (w l i : ℕ) (cells : List Cell) → i < l → get_or (rows w l cells) i [] ≡ take w (drop (i * w) cells)
rows_at w zero i cells lt = absurd (omega arith)
rows_at w (suc l) zero cells lt = ap (λ (n : ℕ). take w (drop n cells)) (sym (zero-mul w))
rows_at w (suc l) (suc i) cells lt =
    rows_at w l i (drop w cells) (omega arith) ∙ ap (take w) (drop-drop (i * w) w cells)
    ∙ ap (λ (n : ℕ). take w (drop n cells)) (omega arith)

-- each of the rows is that row of the picture
pub row_at : (p : Picture) (i : ℕ) → i < p.size.lines → get_or (rows_of p) i [] ≡ cells_of_row p i
row_at p i lt = rows_at p.size.width p.size.lines i p.cells lt

pub within_rows : (p : Picture) (i : ℕ) → i < p.size.lines → i < length (rows_of p)
within_rows p i lt = rw (length-rows p.size.width p.size.lines p.cells) lt

pub all_rows : (p : Picture) (i : ℕ) → p.size.lines ≤ i → take i (rows_of p) ≡ rows_of p
all_rows p i le = take_all i (rows_of p) (rw (length-rows p.size.width p.size.lines p.cells) le)
