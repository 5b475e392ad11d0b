-- What a reader of the text for a terminal sees.
use Rattle.std.specs.Prelude.{ℕ, ◌+◌, ◌-◌, ◌*◌, Bool, true, nat_le, ◌==◌, ◌&&◌, List, [], ◌∷◌, ◌++◌}
use Rattle.std.specs.Prelude.{◌||◌, drop, Option, Some, None, if◌then◌else◌}
use Rattle.ans_model.specs.Bytes.{escape, semicolon}
use Rattle.ans_show.specs.Looks.{Look}
use Rattle.ans_show.specs.TerminalText.{Triple, terminal_order, vga_colours}
use Rattle.ans_picture_laws.specs.Seen.{Seen, white_on_black, seen_of}

-- the numbers between semicolons; of the first one, `n` is read
abbrev pub numbers : ℕ → List ℕ → List ℕ
numbers n [] = n ∷ []
numbers n (c ∷ text) =
    (if c == semicolon then n ∷ [] else [])
    ++ numbers (if c == semicolon then 0 else 10 * n + (c - 0x30)) text

-- whether two mixed colours are the same
abbrev pub same_triple : Triple → Triple → Bool
same_triple (red, green, blue) (r, g, b) = red == r && (green == g && blue == b)

-- the place of a mixed colour in a list
abbrev pub index_of_colour : Triple → List Triple → ℕ
index_of_colour t [] = 0
index_of_colour t (u ∷ colours) = if same_triple t u then 0 else 1 + index_of_colour t colours

-- What one parameter does: 0 is plain, 5 blinks, 30 to 37 and 90 to 97 set the foreground, 40 to 47 and 100 to 107 the
-- background. The order of a terminal's colours turned round is itself.
abbrev pub after_parameter : ℕ → Look → Look
after_parameter p l =
    if p == 0 then white_on_black
    else if p == 5 then record l { blinks = true }
    else if nat_le 100 p then record l { background = 8 + terminal_order (p - 100) }
    else if nat_le 90 p then record l { foreground = 8 + terminal_order (p - 90) }
    else if nat_le 40 p then record l { background = terminal_order (p - 40) }
    else record l { foreground = terminal_order (p - 30) }

-- what a mixed colour does after 38 or 48
abbrev pub after_mixed : ℕ → Triple → Look → Look
after_mixed p t l =
    if p == 38 then record l { foreground = index_of_colour t vga_colours }
    else record l { background = index_of_colour t vga_colours }

-- one parameter after another; 38 and 48 go with a 2 and three numbers
abbrev pub after_parameters : List ℕ → Look → Look
after_parameters [] l = l
after_parameters (p ∷ two ∷ r ∷ g ∷ b ∷ more) l =
    if (p == 38 || p == 48) && two == 2 then after_parameters more (after_mixed p (r, g, b) l)
    else after_parameters (two ∷ r ∷ g ∷ b ∷ more) (after_parameter p l)
after_parameters (p ∷ more) l = after_parameters more (after_parameter p l)

-- where a reader is: what it has of a sequence since ESC, if it is in one, and how a cell looks
pub record Terminal : Type 0 where
  pub sequence : Option (List ℕ)
  pub how : Look

abbrev pub terminal : Option (List ℕ) → Look → Terminal
terminal sequence how = record { sequence = sequence; how = how }

-- outside of sequences
abbrev pub outside : Look → Terminal
outside how = terminal None how

-- what a character makes of it: ESC begins a sequence, and `m` ends one
abbrev pub terminal_after : Option (List ℕ) → Look → ℕ → Terminal
terminal_after None l c = terminal (if c == escape then Some [] else None) l
terminal_after (Some text) l c =
    if c == 0x6D then terminal None (after_parameters (numbers 0 (drop 1 text)) l)
    else terminal (Some (text ++ c ∷ [])) l

-- what is seen of the character: outside of sequences each but ESC
abbrev pub terminal_sees : Option (List ℕ) → Look → ℕ → List Seen
terminal_sees None l c = if c == escape then [] else seen_of l c ∷ []
terminal_sees (Some text) l c = []

-- what is seen of characters from there on
abbrev pub read_terminal : Terminal → List ℕ → List Seen
read_terminal t [] = []
read_terminal t (c ∷ text) =
    terminal_sees t.sequence t.how c ++ read_terminal (terminal_after t.sequence t.how c) text
