-- The names of fonts (SAUCE 00.5, font names), and their code page.
use Rattle.std.specs.Prelude.{ℕ, Bool, not, ◌&&◌, ◌||◌, ◌==◌, nat_eq, List, [], ◌∷◌, codes}
use Rattle.std.specs.List.{list_any, before_first, ends_with, starts_with}
use Rattle.std.specs.Str.{bytes_eq}
use Rattle.ans_model.specs.File.Record.{trimmed}

-- the fonts of the IBM PC, whose code page is 437 unless the name has another
abbrev pub fonts_of_437 : List (List ℕ)
fonts_of_437 =
    codes "IBM VGA" ∷ codes "IBM VGA 437"
    ∷ codes "IBM VGA50" ∷ codes "IBM VGA50 437"
    ∷ codes "IBM VGA25G" ∷ codes "IBM VGA25G 437"
    ∷ codes "IBM EGA" ∷ codes "IBM EGA 437"
    ∷ codes "IBM EGA43" ∷ codes "IBM EGA43 437"
    ∷ []

-- the byte that ends a text (SAUCE 00.5, ZString)
abbrev pub ends_text : ℕ → Bool
ends_text b = b == 0x00

-- the name in the record's field of the font: it ends before the first zero byte (SAUCE 00.5, TInfoS is a ZString),
-- and has no trailing blanks
abbrev pub font_name : List ℕ → List ℕ
font_name field = trimmed (before_first ends_text field)

-- the name is not empty, and it is none of those
abbrev pub has_other_code_page : List ℕ → Bool
has_other_code_page name = not (bytes_eq name []) && not (list_any (bytes_eq name) fonts_of_437)

-- the fonts of the Amiga and those of code page 819 have the letters of Latin-1
abbrev pub is_latin_font : List ℕ → Bool
is_latin_font name = starts_with nat_eq name (codes "Amiga ") || ends_with nat_eq name (codes " 819")
