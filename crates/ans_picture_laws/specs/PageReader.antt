-- What a reader of a page sees.
use Rattle.std.specs.Prelude.{ℕ, ◌+◌, ◌-◌, ◌*◌, ◌/◌, ◌%◌, Bool, true, false, ◌==◌, ◌||◌, ◌&&◌, not, List, [], ◌∷◌, ◌++◌}
use Rattle.std.specs.Prelude.{fold, codes, decimal, if◌then◌else◌}
use Rattle.std.specs.Str.{bytes_eq}
use Rattle.ans_model.specs.Text.Hexadecimal.{hex_digit}
use Rattle.ans_show.specs.Looks.{Look}
use Rattle.ans_show.specs.TerminalText.{Triple, vga_colour}
use Rattle.ans_picture_laws.specs.Seen.{Seen, SeenCell, white_on_black, seen_of}

-- the number that decimal digits spell
abbrev pub number_read : List ℕ → ℕ
number_read digits = fold (λ n d. 10 * n + (d - 0x30)) 0 digits

-- the words between blanks and quotes; of the first one, `word` is read
abbrev pub words : List ℕ → List ℕ → List (List ℕ)
words word [] = word ∷ []
words word (c ∷ text) =
    (if c == 0x20 || c == 0x22 then word ∷ [] else [])
    ++ words (if c == 0x20 || c == 0x22 then [] else word ++ c ∷ []) text

-- what a class does: `f` and a number set the foreground, `b` and a number the background, and `k` blinks
abbrev pub after_class : Look → List ℕ → Look
after_class l [] = l
after_class l (c ∷ digits) =
    if c == 0x66 then record l { foreground = number_read digits }
    else if c == 0x62 then record l { background = number_read digits }
    else if c == 0x6B then record l { blinks = true }
    else l

-- how cells look after a tag of these words: in a span by its classes, and otherwise plain
abbrev pub look_in : List (List ℕ) → Look
look_in [] = white_on_black
look_in (name ∷ classes) =
    if bytes_eq name (codes "span") then fold after_class white_on_black classes else white_on_black

-- the character of a name
abbrev pub named_character : List ℕ → ℕ
named_character name =
    if bytes_eq name (codes "amp") then 0x26
    else if bytes_eq name (codes "lt") then 0x3C
    else if bytes_eq name (codes "gt") then 0x3E
    else if bytes_eq name (codes "quot") then 0x22
    else 0x27

-- a colour in hexadecimal digits, one for each part
abbrev pub colour_digits : Triple → List ℕ
colour_digits (red, green, blue) = hex_digit (red / 17) ∷ hex_digit (green / 17) ∷ hex_digit (blue / 17) ∷ []

-- what the style says of a class: the letter and a number set a property to the VGA's colour; there are four on a line
abbrev pub class_style : List ℕ → List ℕ → ℕ → List ℕ
class_style letter property n =
    codes "." ++ (letter ++ (decimal n ++ (codes "{" ++ (property ++ (codes ":#" ++ (colour_digits (vga_colour n)
    ++ (codes "}" ++ (if n % 4 == 3 then codes "\n" else []))))))))

-- the numbers of the colours
abbrev pub sixteen : List ℕ
sixteen = 0 ∷ 1 ∷ 2 ∷ 3 ∷ 4 ∷ 5 ∷ 6 ∷ 7 ∷ 8 ∷ 9 ∷ 10 ∷ 11 ∷ 12 ∷ 13 ∷ 14 ∷ 15 ∷ []

-- Where a reader is: in text, in a tag since its `<`, or in a name since its `&`; whether it is between `<pre>` and
-- `</pre>`, and how a cell looks.
pub data Page : Type 0 where
  InText : (shown : Bool) (how : Look) → Page
  InTag : (text : List ℕ) (shown : Bool) (how : Look) → Page
  InName : (text : List ℕ) (shown : Bool) (how : Look) → Page

-- whether a picture is shown after a tag
abbrev pub shown_after : List ℕ → Bool → Bool
shown_after tag shown =
    if bytes_eq tag (codes "pre") then true
    else if bytes_eq tag (codes "/pre") then false
    else shown

-- what a character makes of it: `<` begins a tag and `>` ends it, `&` begins a name and `;` ends it
abbrev pub page_after : Page → ℕ → Page
page_after (InText shown l) c =
    if c == 0x3C then InTag [] shown l
    else if c == 0x26 then InName [] shown l
    else InText shown l
page_after (InTag text shown l) c =
    if c == 0x3E then InText (shown_after text shown) (look_in (words [] text))
    else InTag (text ++ c ∷ []) shown l
page_after (InName text shown l) c = if c == 0x3B then InText shown l else InName (text ++ c ∷ []) shown l

-- what is seen of the character where the picture is shown: text, and names where they end
abbrev pub page_sees : Page → ℕ → List Seen
page_sees (InText shown l) c = if shown && not (c == 0x3C || c == 0x26) then seen_of l c ∷ [] else []
page_sees (InTag text shown l) c = []
page_sees (InName text shown l) c = if shown && c == 0x3B then SeenCell l (named_character text) ∷ [] else []

-- what is seen of characters from there on
abbrev pub read_page : Page → List ℕ → List Seen
read_page p [] = []
read_page p (c ∷ text) = page_sees p c ++ read_page (page_after p c) text
