-- Pictures in colour are clean: a page as it stands, and a text for a terminal between its sequences.
use Rattle.std.proofs.Common.{◌≡◌, ◌⊎◌, inl, inr, ℕ, ◌<◌, Bool, true, false, refl, sym, ap, subst, ◌∙◌, append_assoc}
use Rattle.std.proofs.Common.{append-nil, arith, List, [], ◌∷◌, ◌++◌, codes, All}
use Rattle.std.specs.Prelude.{if◌then◌else◌, encode_utf8, flat_map}
use Rattle.std.specs.Fmt.{digit_glyph}
use Rattle.std.specs.List.{list_all}
use Rattle.std.proofs.lemmas.Bool.Decides.{nat_tests}
use Rattle.std.proofs.lemmas.Grind.{flat_map-append}
use Rattle.std.proofs.lemmas.List.Folds.{list_all-append}
use Rattle.std.proofs.lemmas.List.Elements.{All-nil, All-cons, All-append}
use Rattle.ans_model.specs.declared.cell.Cell.{Cell}
use Rattle.ans_model.specs.Bytes.{IsByte, escape}
use Rattle.ans_model.specs.Screen.State.{IsByteCell}
use Rattle.ans_model.specs.Text.Characters.{glyph_text, shown_bytes}
use Rattle.ans_model.specs.Text.ReportText.{rows_of}
use Rattle.ans_model.specs.Verdict.Good.{Picture}
use Rattle.ans_show.specs.Looks.{Look, look_of}
use Rattle.ans_show.specs.PageText.{page_bytes, page_character, page_end, page_line, page_start, page_style, page_text}
use Rattle.ans_show.specs.PageText.{page_title, run_span}
use Rattle.ans_show.specs.Runs.{Run, runs}
use Rattle.ans_show.specs.TerminalText.{background_parameter, background_text, colours_text, foreground_parameter}
use Rattle.ans_show.specs.TerminalText.{Triple, foreground_text, terminal_line_end, terminal_line, mixed, parameter}
use Rattle.ans_show.specs.TerminalText.{run_text}
use Rattle.ans_show.specs.TerminalText.{terminal_text, vga_colour}
use Rattle.ans_picture_laws.proofs.SeenRuns.{IsByteRun, runs_bytes}
use Rattle.ans_check_laws.specs.CleanTexts.{IsCleanText, IsColouredText, IsColourSequence, is_parameter_byte}
use Rattle.ans_check_laws.proofs.CleanPieces.{AreBytes, both_true, bytes_one, clean_append, clean_nil, clean_pieces}
use Rattle.ans_check_laws.proofs.CleanPieces.{clean_shown, decimal_is, of_each, of_rows, plain_text}

-- ---- pages

page_character_clean : (b : ℕ) → IsByte b → IsCleanText (page_character b)
page_character_clean b h =
    let shown : IsCleanText (encode_utf8 (glyph_text b)) =
    subst IsCleanText (append-nil (encode_utf8 (glyph_text b))) (clean_shown (b ∷ []) (bytes_one b h)) in
    search clean_pieces depth 20

page_bytes_clean : (bytes : List ℕ) → AreBytes bytes → IsCleanText (page_bytes bytes)
page_bytes_clean bytes h =
    of_each IsCleanText clean_nil clean_append IsByte page_character bytes h.each page_character_clean

title_clean : (title : List ℕ) → AreBytes title → IsCleanText (page_title title)
title_clean [] h = plain_text (codes "ANSI drawing") refl
title_clean (b ∷ title) h = page_bytes_clean (b ∷ title) h

run_span_clean : (non_blink : Bool) (r : Run) → IsByteRun r → IsCleanText (run_span non_blink r)
run_span_clean non_blink r h =
    let of_bytes : AreBytes r.bytes = record { each = h.bytes } in
    search (page_bytes_clean, clean_pieces) depth 20

page_line_clean : (non_blink : Bool) (row : List Cell) → All IsByteCell row → IsCleanText (page_line non_blink row)
page_line_clean non_blink row h =
    let spans : IsCleanText (flat_map (run_span non_blink) (runs row)) =
    of_each IsCleanText clean_nil clean_append IsByteRun (run_span non_blink) (runs row) (runs_bytes row h)
    (run_span_clean non_blink)
    in
    search clean_pieces

page_start_clean : IsCleanText page_start
unfolding page_start
page_start_clean = plain_text page_start refl

page_style_clean : IsCleanText page_style
unfolding page_style
page_style_clean = plain_text page_style refl

page_end_clean : IsCleanText page_end
unfolding page_end
page_end_clean = plain_text page_end refl

pub page_clean : (non_blink : Bool) (title : List ℕ) (picture : Picture) → AreBytes title
    → All IsByteCell picture.cells → IsCleanText (page_text non_blink title picture)
page_clean non_blink title picture bytes cells =
    let lines : IsCleanText (flat_map (page_line non_blink) (rows_of picture)) =
    of_rows IsCleanText clean_nil clean_append (page_line non_blink) (page_line_clean non_blink) picture.size.width
    picture.size.lines picture.cells cells in
    search (clean_append, title_clean, page_start_clean, page_style_clean, page_end_clean) depth 20

-- ---- coloured texts

-- a piece of a coloured text
abbrev IsPiece : List ℕ → Type 0
IsPiece piece = IsCleanText piece ⊎ IsColourSequence piece

one_piece : (text : List ℕ) → IsPiece text → IsColouredText text
one_piece text h = record {
  pieces = text ∷ [];
  whole = sym (append-nil text);
  each = All-cons IsPiece text [] h (All-nil IsPiece);
}

pub coloured_where_clean : (text : List ℕ) → IsCleanText text → IsColouredText text
coloured_where_clean text h = one_piece text (inl h)

coloured_nil : IsColouredText []
coloured_nil = record { pieces = []; whole = refl; each = All-nil IsPiece }

coloured_append : (a b : List ℕ) → IsColouredText a → IsColouredText b → IsColouredText (a ++ b)
coloured_append a b h g = record {
  pieces = h.pieces ++ g.pieces;
  whole = ap (λ (v : List ℕ). v ++ b) h.whole ∙ ap (λ (v : List ℕ). flat_map (λ p. p) h.pieces ++ v) g.whole
      ∙ sym (flat_map-append (λ (p : List ℕ). p) h.pieces g.pieces);
  each = All-append IsPiece h.pieces g.pieces h.each g.each;
}

-- ---- sequences

abbrev AreParameters : List ℕ → Type 0
AreParameters bytes = list_all is_parameter_byte bytes ≡ true

parameters_append : (a b : List ℕ) → AreParameters a → AreParameters b → AreParameters (a ++ b)
parameters_append a b h g =
    list_all-append is_parameter_byte a b
    ∙ both_true (list_all is_parameter_byte a) (list_all is_parameter_byte b) h g

digit_is_parameter : (d : ℕ) → d < 10 → is_parameter_byte (digit_glyph false d) ≡ true
digit_is_parameter d below = grind (arith, nat_tests)

of_parameter : (n : ℕ) → AreParameters (parameter n)
of_parameter n = decimal_is is_parameter_byte digit_is_parameter n

of_mixed : (n : ℕ) (t : Triple) → AreParameters (mixed n t)
of_mixed n (r, g, b) = search (parameters_append, of_parameter) depth 20

of_foreground : (vga : Bool) (colour : ℕ) → AreParameters (foreground_text vga colour)
of_foreground false colour = of_parameter (foreground_parameter colour)
of_foreground true colour = of_mixed 38 (vga_colour colour)

of_background : (vga : Bool) (colour : ℕ) → AreParameters (background_text vga colour)
of_background false colour = of_parameter (background_parameter colour)
of_background true colour = of_mixed 48 (vga_colour colour)

of_blink : (blinks : Bool) → AreParameters (if blinks then parameter 5 else [])
of_blink false = refl
of_blink true = of_parameter 5

colours_are_a_sequence : (vga : Bool) (l : Look) → IsColourSequence (colours_text vga l)
colours_are_a_sequence vga l =
    let blink = if l.blinks then parameter 5 else [] in
    let front = foreground_text vga l.foreground in
    let back = background_text vga l.background in
    record {
      parameters = codes "0" ++ (blink ++ (front ++ back));
      are_parameters = search (parameters_append, of_blink, of_foreground, of_background);
      whole = ap (λ (v : List ℕ). escape ∷ 0x5B ∷ 0x30 ∷ v)
          (ap (λ (v : List ℕ). blink ++ v) (sym (append_assoc front back (codes "m")))
          ∙ sym (append_assoc blink (front ++ back) (codes "m")));
    }

-- the sequence of a line's end
plain_again : IsColourSequence (escape ∷ codes "[0m")
plain_again = record { parameters = codes "0"; are_parameters = refl; whole = refl }

line_end_coloured : IsColouredText terminal_line_end
line_end_coloured =
    coloured_append (escape ∷ codes "[0m") (codes "\n") (one_piece (escape ∷ codes "[0m") (inr plain_again))
    (coloured_where_clean (codes "\n") (plain_text (codes "\n") refl))

run_coloured : (vga non_blink : Bool) (r : Run) → IsByteRun r → IsColouredText (run_text vga non_blink r)
run_coloured vga non_blink r h =
    let colours = colours_text vga (look_of non_blink r.attribute) in
    coloured_append colours (shown_bytes r.bytes)
    (one_piece colours (inr (colours_are_a_sequence vga (look_of non_blink r.attribute))))
    (coloured_where_clean (shown_bytes r.bytes) (clean_shown r.bytes (record { each = h.bytes })))

line_coloured : (vga non_blink : Bool) (row : List Cell) → All IsByteCell row
    → IsColouredText (terminal_line vga non_blink row)
line_coloured vga non_blink row h =
    coloured_append (flat_map (run_text vga non_blink) (runs row)) terminal_line_end
    (of_each IsColouredText coloured_nil coloured_append IsByteRun (run_text vga non_blink) (runs row)
    (runs_bytes row h) (run_coloured vga non_blink))
    line_end_coloured

pub terminal_coloured : (vga non_blink : Bool) (picture : Picture) → All IsByteCell picture.cells
    → IsColouredText (terminal_text vga non_blink picture)
terminal_coloured vga non_blink picture h =
    of_rows IsColouredText coloured_nil coloured_append (terminal_line vga non_blink) (line_coloured vga non_blink)
    picture.size.width picture.size.lines picture.cells h
