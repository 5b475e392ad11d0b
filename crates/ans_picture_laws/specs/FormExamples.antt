-- Small pictures, for the examples.
use Rattle.std.specs.Prelude.{◌≡◌, ℕ, List, ◌∷◌, ◌++◌, map, codes}
use Rattle.std.specs.List.{concat}
use Rattle.ans_model.specs.Bytes.{escape}
use Rattle.ans_model.specs.declared.cell.Cell.{Cell}
use Rattle.ans_model.specs.Screen.State.{cell, sized}
use Rattle.ans_players.specs.Mends.{mending_spelled}
use Rattle.ans_redraw.specs.Colours.{colours_to}
use Rattle.ans_redraw.specs.Form.{form_bytes, row_place}

-- cells of one attribute
abbrev pub cells_in : ℕ → List ℕ → List Cell
cells_in attribute bytes = map (λ b. cell b attribute) bytes

-- cells of white on black
abbrev pub grey : List ℕ → List Cell
grey bytes = cells_in 0x07 bytes

-- ESC and these characters
abbrev pub esc : List ℕ → List ℕ
esc characters = escape ∷ characters

-- the picture of these columns, lines and cells is drawn by these bytes between the mending and `ESC[0m`
abbrev pub IsDrawn : ℕ → ℕ → List Cell → List ℕ → Type 0
IsDrawn width lines cells bytes =
    form_bytes (record { size = sized width lines; cells = cells })
    ≡ concat (map (λ x. x.text) mending_spelled) ++ (bytes ++ esc (codes "[0m"))

-- one attribute becomes another by these bytes
abbrev pub Becomes : ℕ → ℕ → List ℕ → Type 0
Becomes from to bytes = concat (map (λ x. x.text) (colours_to from to)) ≡ bytes

-- the place of this row, counted from 1, is these bytes
abbrev pub IsPlaced : ℕ → List ℕ → Type 0
IsPlaced row bytes = concat (map (λ x. x.text) (row_place row)) ≡ bytes
