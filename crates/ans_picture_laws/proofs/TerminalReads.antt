-- What is seen of the text for a terminal.
use Rattle.std.proofs.Common.{◌≡◌, ℕ, ◌<◌, Bool, true, false, List, [], ◌∷◌, ◌++◌, drop, map, codes}
use Rattle.std.proofs.Common.{refl, ap, sym, ◌∙◌, append_assoc, append-nil, Some}
use Rattle.std.specs.Prelude.{◌&&◌, ◌==◌, not, chars, All, if◌then◌else◌}
use Rattle.std.specs.Fmt.{digits}
use Rattle.std.specs.Str.{all_scalars}
use lib.Utf8.{scalar}
use Rattle.std.proofs.lemmas.Bool.{and_parts}
use Rattle.std.proofs.lemmas.List.Elements.{All-head, All-tail}
use Rattle.ans_model.specs.Bytes.{IsByte, escape}
use Rattle.ans_model.specs.Screen.State.{IsByteCell}
use Rattle.ans_model.specs.Verdict.Good.{Picture}
use Rattle.ans_model.specs.Text.Characters.{glyph_text}
use Rattle.ans_show.specs.Looks.{Look, look_of}
use Rattle.ans_show.specs.Runs.{Run}
use Rattle.ans_picture_laws.specs.Seen.{Seen, SeenCell, SeenEnd, white_on_black, seen_picture}
use Rattle.ans_show.specs.TerminalText.{parameter, foreground_text, background_text, colours_text, run_text}
use Rattle.ans_show.specs.TerminalText.{terminal_line_end}
use Rattle.ans_show.specs.TerminalText.{terminal_text}
use Rattle.ans_picture_laws.specs.TerminalReader.{terminal, outside, numbers, after_parameters, read_terminal}
use Rattle.ans_show.proofs.EachByte.{all_below, holds_at}
use Rattle.ans_picture_laws.proofs.EachLook.{same_look, same_looks, not_true}
use Rattle.ans_picture_laws.proofs.TextsRead.{is_ascii, ascii_ended, Reads, ReadsOn, reads_ascii, reads_characters}
use Rattle.ans_picture_laws.proofs.TextsRead.{reads_same}
use Rattle.ans_picture_laws.proofs.TextsRead.{reads_then, reads_whole}
use Rattle.ans_picture_laws.proofs.SeenRuns.{IsByteRun, seen_run, picture_reads}

-- a sequence, without its ESC and its `m`
abbrev inside : Bool → Look → List ℕ
inside vga l =
    codes "[0" ++ ((if l.blinks then parameter 5 else [])
    ++ (foreground_text vga l.foreground ++ background_text vga l.background))

sequence_is : (vga : Bool) (l : Look) → escape ∷ (inside vga l ++ 0x6D ∷ []) ≡ colours_text vga l
sequence_is vga l = simp append_assoc

-- whether `m` does not stand in it
abbrev has_no_end : List ℕ → Bool
has_no_end [] = true
has_no_end (c ∷ text) = not (c == 0x6D) && has_no_end text

-- a sequence is read up to its `m`
read_inside : (front text rest : List ℕ) (l : Look) → has_no_end text ≡ true
    → read_terminal (terminal (Some front) l) (text ++ 0x6D ∷ rest)
    ≡ read_terminal (outside (after_parameters (numbers 0 (drop 1 (front ++ text))) l)) rest
read_inside front [] rest l h =
    ap (λ (x : List ℕ). read_terminal (outside (after_parameters (numbers 0 (drop 1 x)) l)) rest)
    (sym (append-nil front))
read_inside front (c ∷ text) rest l h =
    let parts = and_parts (not (c == 0x6D)) (has_no_end text) h in
    let other : (c == 0x6D) ≡ false = not_true (c == 0x6D) parts.0 in
    rw other (read_inside (front ++ c ∷ []) text rest l parts.1
    ∙ ap (λ (x : List ℕ). read_terminal (outside (after_parameters (numbers 0 (drop 1 x)) l)) rest)
    (append_assoc front (c ∷ []) text))

-- the sequence of an attribute, from a look on, leads to how the attribute looks
abbrev leads : Bool → Bool → Look → ℕ → Bool
leads vga non_blink l a =
    is_ascii (inside vga (look_of non_blink a)) && (has_no_end (inside vga (look_of non_blink a))
    && same_look (after_parameters (numbers 0 (drop 1 (inside vga (look_of non_blink a)))) l) (look_of non_blink a))

all_lead : (vga non_blink : Bool) (l : Look) → all_below 256 (leads vga non_blink l) ≡ true
unfolding digits
all_lead false false l = refl
all_lead false true l = refl
all_lead true false l = refl
all_lead true true l = refl

colours_read : (vga non_blink : Bool) (a : ℕ) (l : Look) → a < 256
    → Reads read_terminal (outside l) (colours_text vga (look_of non_blink a)) [] (outside (look_of non_blink a))
colours_read vga non_blink a l lt =
    let text = inside vga (look_of non_blink a) in
    let to = after_parameters (numbers 0 (drop 1 text)) l in
    let h = holds_at 256 (leads vga non_blink l) (all_lead vga non_blink l) a lt in
    let one = and_parts (is_ascii text) (has_no_end text && same_look to (look_of non_blink a)) h in
    let two = and_parts (has_no_end text) (same_look to (look_of non_blink a)) one.1 in
    reads_same (sequence_is vga (look_of non_blink a))
    (reads_ascii (escape ∷ (text ++ 0x6D ∷ [])) (ascii_ended 0x6D refl text one.0)
    (λ rest. ap (λ (x : List ℕ). read_terminal (terminal (Some []) l) x) (append_assoc text (0x6D ∷ []) rest)
    ∙ read_inside [] text rest l two.0
    ∙ ap (λ (x : Look). read_terminal (outside x) rest) (same_looks to (look_of non_blink a) two.1)))

-- a byte's character is no ESC and no line feed
abbrev is_shown : ℕ → Bool
is_shown b = scalar (glyph_text b) && (not (glyph_text b == escape) && not (glyph_text b == 0x0A))

all_shown : all_below 256 is_shown ≡ true
all_shown = refl

characters_read : (l : Look) (bytes rest : List ℕ) → All IsByte bytes
    → read_terminal (outside l) (map glyph_text bytes ++ rest)
    ≡ map (λ b. SeenCell l (glyph_text b)) bytes ++ read_terminal (outside l) rest
characters_read l [] rest all = refl
characters_read l (b ∷ bytes) rest all =
    let h = holds_at 256 is_shown all_shown b (All-head IsByte b bytes all) in
    let one = and_parts (scalar (glyph_text b)) (not (glyph_text b == escape) && not (glyph_text b == 0x0A)) h in
    let two = and_parts (not (glyph_text b == escape)) (not (glyph_text b == 0x0A)) one.1 in
    let no_escape : (glyph_text b == escape) ≡ false = not_true (glyph_text b == escape) two.0 in
    let no_end : (glyph_text b == 0x0A) ≡ false = not_true (glyph_text b == 0x0A) two.1 in
    rw (no_escape, no_end) (ap (λ (x : List Seen). SeenCell l (glyph_text b) ∷ x)
    (characters_read l bytes rest (All-tail IsByte b bytes all)))

bytes_scalars : (bytes : List ℕ) → All IsByte bytes → all_scalars (map glyph_text bytes) ≡ true
bytes_scalars [] all = refl
bytes_scalars (b ∷ bytes) all =
    let h = holds_at 256 is_shown all_shown b (All-head IsByte b bytes all) in
    let one = and_parts (scalar (glyph_text b)) (not (glyph_text b == escape) && not (glyph_text b == 0x0A)) h in
    let this : scalar (glyph_text b) ≡ true = one.0 in
    let later = bytes_scalars bytes (All-tail IsByte b bytes all) in
    rw (this, later) refl

run_reads : (vga non_blink : Bool) (r : Run) → IsByteRun r
    → ReadsOn read_terminal outside (run_text vga non_blink r) (seen_run non_blink r)
run_reads vga non_blink r h = record {
  after = λ l. look_of non_blink r.attribute;
  on = λ l. reads_then (colours_read vga non_blink r.attribute l h.attribute)
      (reads_characters (map glyph_text r.bytes) (bytes_scalars r.bytes h.bytes)
      (λ rest. characters_read (look_of non_blink r.attribute) r.bytes rest h.bytes));
}

end_reads : ReadsOn read_terminal outside terminal_line_end (SeenEnd ∷ [])
end_reads = record { after = λ l. white_on_black; on = λ l. reads_ascii terminal_line_end refl (λ rest. refl) }

-- each cell of the picture is seen in its place, as its attribute says
pub terminal_text_read : (vga non_blink : Bool) (before : Look) (picture : Picture) → All IsByteCell picture.cells
    → read_terminal (outside before) (chars (terminal_text vga non_blink picture)) ≡ seen_picture non_blink picture
terminal_text_read vga non_blink before picture all =
    let h = picture_reads read_terminal outside non_blink (run_text vga non_blink) terminal_line_end
    (run_reads vga non_blink) end_reads picture all in
    reads_whole (h.on before) refl
