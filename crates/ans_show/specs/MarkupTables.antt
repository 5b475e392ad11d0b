-- Texts of a markup, in tables, and the cells of a row by them.
use Rattle.std.specs.Prelude.{◌≡◌, ℕ, ◌<◌, ◌==◌, List, [], ◌∷◌, ◌++◌, slice_index_or, if◌then◌else◌}
use Rattle.ans_model.specs.declared.cell.Cell.{Cell}
use Rattle.ans_show.specs.declared.markup.Markup.{Markup}
use Rattle.ans_show.specs.declared.short_text.ShortText.{ShortText}
use Rattle.ans_show.specs.Markups.{break_in, character_in}
use Rattle.ans_show.specs.ShortTexts.{short_bytes}

-- the entry at each byte is its text
abbrev pub IsTableOf : {N : ℕ} → (ℕ → List ℕ) → List (ShortText N) → Type 0
IsTableOf {N} text table = (b : ℕ) (d : ShortText N) → b < 256 → short_bytes (slice_index_or table b d) ≡ text b

-- cells after one of the attribute `last`: where another attribute comes, a run ends and another begins
abbrev pub cells_shown : Markup → ℕ → List Cell → List ℕ
cells_shown markup last [] = []
cells_shown markup last (c ∷ cells) =
    (if last == c.attribute then [] else break_in markup c.attribute)
    ++ (character_in markup c.byte ++ cells_shown markup c.attribute cells)
