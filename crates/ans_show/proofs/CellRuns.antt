-- The cells of a row, written one by one, are its runs.
use Rattle.std.proofs.Common.{◌≡◌, ℕ, ◌<◌, ◌≤◌, true, false, List, [], ◌∷◌, ◌++◌, length, drop}
use Rattle.std.proofs.Common.{refl, ap, ap₂, sym, ◌∙◌, append_assoc, append-nil, length-append, arith}
use Rattle.std.specs.Prelude.{◌==◌, if◌then◌else◌, flat_map, All}
use Rattle.std.specs.Simd.Lanes.{zip2}
use Rattle.std.proofs.Math.Seq.{drop-append_seam}
use Rattle.std.proofs.lemmas.Bool.{ne_eqb}
use Rattle.std.proofs.lemmas.List.{drop-append-le}
use Rattle.std.proofs.lemmas.List.Elements.{All-head}
use Rattle.ans_model.specs.declared.cell.Cell.{Cell}
use Rattle.ans_model.specs.Screen.State.{cell, IsByteCell}
use Rattle.ans_write.proofs.RowTexts.{shown_bytes_is}
use Rattle.ans_show.specs.declared.markup.Markup.{Markup}
use Rattle.ans_show.specs.declared.markup.Markup.TheVariants.{Terminal, Page}
use Rattle.ans_show.specs.MarkupTables.{cells_shown}
use Rattle.ans_show.specs.Markups.{break_in, character_in, end_in, line_in, run_end_in, run_in, start_in}
use Rattle.ans_show.specs.Looks.{look_of}
use Rattle.ans_show.specs.Runs.{Run, run, joined, runs}
use Rattle.ans_show.specs.TerminalText.{colours_text}
use Rattle.ans_show.proofs.RunLemmas.{joined_begins}

-- the characters of bytes in a markup
abbrev characters : Markup → List ℕ → List ℕ
characters markup bytes = flat_map (character_in markup) bytes

-- a run is its beginning, its characters and its end
run_is : (markup : Markup) (r : Run)
    → run_in markup r ≡ start_in markup r.attribute ++ (characters markup r.bytes ++ run_end_in markup)
run_is (Terminal vga non_blink) r =
    ap (λ (v : List ℕ). colours_text vga (look_of non_blink r.attribute) ++ v)
    (shown_bytes_is r.bytes ∙ sym (append-nil (characters (Terminal vga non_blink) r.bytes)))
run_is (Page non_blink) r = refl

-- what stands behind an attribute's run, or before the first one: runs as they are put
abbrev behind : Markup → ℕ → List Run → List ℕ
behind markup last [] = run_end_in markup
behind markup last (r ∷ more) =
    (if last == r.attribute then [] else break_in markup r.attribute)
    ++ (characters markup r.bytes ++ (run_end_in markup ++ flat_map (run_in markup) more))

-- where another run begins, the one before has ended
broken : (markup : Markup) (r : Run) (more : List Run)
    → break_in markup r.attribute ++ (characters markup r.bytes ++ (run_end_in markup ++ flat_map (run_in markup) more))
    ≡ run_end_in markup ++ flat_map (run_in markup) (r ∷ more)
broken markup r more =
    let end = run_end_in markup in
    let start = start_in markup r.attribute in
    let shown = characters markup r.bytes in
    let later = flat_map (run_in markup) more in
    append_assoc end start (shown ++ (end ++ later))
    ∙ ap (λ (v : List ℕ). end ++ v)
    (ap (λ (v : List ℕ). start ++ v) (sym (append_assoc shown end later))
    ∙ sym (append_assoc start (shown ++ end) later)
    ∙ ap (λ (v : List ℕ). v ++ later) (sym (run_is markup r)))

-- a cell and what stands behind it
joined_behind : (markup : Markup) (front : List ℕ) (c : Cell) (rs : List Run) (last : ℕ)
    → front ≡ (if last == c.attribute then [] else break_in markup c.attribute)
    → front ++ (character_in markup c.byte ++ behind markup c.attribute rs) ≡ behind markup last (joined c rs)
joined_behind markup front c [] last is =
    let shown = character_in markup c.byte in
    let end = run_end_in markup in
    ap₂ (λ (u v : List ℕ). u ++ v) is
    (ap₂ (λ (u v : List ℕ). u ++ v) (sym (append-nil shown)) (sym (append-nil end)))
joined_behind markup front c (r ∷ more) last is =
    let shown = character_in markup c.byte in
    let end = run_end_in markup in
    let later = end ++ flat_map (run_in markup) more in
    let first = if last == c.attribute then [] else break_in markup c.attribute in
    elim (c.attribute == r.attribute) as (λ t. front
    ++ (shown ++ ((if t then [] else break_in markup r.attribute) ++ (characters markup r.bytes ++ later)))
    ≡ behind markup last
    (if t then run c.attribute (c.byte ∷ r.bytes) ∷ more else run c.attribute (c.byte ∷ []) ∷ r ∷ more)) [
      | true ↦ ap₂ (λ (u v : List ℕ). u ++ v) is (sym (append_assoc shown (characters markup r.bytes) later))
      | false ↦ ap₂ (λ (u v : List ℕ). u ++ v) is
          (ap₂ (λ (u v : List ℕ). u ++ v) (sym (append-nil shown)) (broken markup r more))
    ]

-- cells, and then the end of their last run
cells_are : (markup : Markup) (last : ℕ) (cells : List Cell)
    → cells_shown markup last cells ++ run_end_in markup ≡ behind markup last (runs cells)
cells_are markup last [] = refl
cells_are markup last (c ∷ cells) =
    let first = if last == c.attribute then [] else break_in markup c.attribute in
    let shown = character_in markup c.byte in
    let later = cells_shown markup c.attribute cells in
    append_assoc first (shown ++ later) (run_end_in markup)
    ∙ ap (λ (v : List ℕ). first ++ v)
    (append_assoc shown later (run_end_in markup)
    ∙ ap (λ (v : List ℕ). shown ++ v) (cells_are markup c.attribute cells))
    ∙ joined_behind markup first c (runs cells) last refl

-- the first run of a row begins as if another stood before it
row_is : (markup : Markup) (c : Cell) (cells : List Cell) → c.attribute < 256
    → cells_shown markup 256 (c ∷ cells) ++ run_end_in markup
    ≡ run_end_in markup ++ flat_map (run_in markup) (runs (c ∷ cells))
row_is markup c cells lt =
    let begins = joined_begins c (runs cells) in
    let other : (256 == begins.first.attribute) ≡ false =
    ne_eqb 256 begins.first.attribute (λ e. omega (arith, lt, e, begins.has)) in
    let put : behind markup 256 (begins.first ∷ begins.more)
    ≡ break_in markup begins.first.attribute ++ (characters markup begins.first.bytes
    ++ (run_end_in markup ++ flat_map (run_in markup) begins.more)) = rw other refl in
    cells_are markup 256 (c ∷ cells) ∙ ap (behind markup 256) begins.are ∙ put ∙ broken markup begins.first begins.more
    ∙ ap (λ (rs : List Run). run_end_in markup ++ flat_map (run_in markup) rs) (sym begins.are)

-- so it is as long as what ends a run
row_long : (markup : Markup) (c : Cell) (cells : List Cell) → c.attribute < 256
    → length (run_end_in markup) ≤ length (cells_shown markup 256 (c ∷ cells))
row_long markup c cells lt =
    let other : (256 == c.attribute) ≡ false = ne_eqb 256 c.attribute (λ e. omega (arith, lt, e)) in
    let end = run_end_in markup in
    let start = start_in markup c.attribute in
    let later = character_in markup c.byte ++ cells_shown markup c.attribute cells in
    let is : cells_shown markup 256 (c ∷ cells) ≡ end ++ (start ++ later) = rw other (append_assoc end start later) in
    rw is (omega (arith, length-append end (start ++ later)))

-- a row without the end of a run in front, and with one behind, is its line
pub row_line : (markup : Markup) (row : List Cell) (text : List ℕ) → text ≡ cells_shown markup 256 row → 0 < length row
    → All IsByteCell row
    → (length (run_end_in markup) ≤ length text)
    × (drop (length (run_end_in markup)) text ++ (run_end_in markup ++ end_in markup) ≡ line_in markup row)
row_line markup [] text is some bytes = absurd (omega arith)
row_line markup (c ∷ cells) text is some bytes =
    let lt : c.attribute < 256 = (All-head IsByteCell c cells bytes).1 in
    let end = run_end_in markup in
    let all = flat_map (run_in markup) (runs (c ∷ cells)) in
    let long : length end ≤ length text = rw is (row_long markup c cells lt) in
    let whole : text ++ end ≡ end ++ all = ap (λ (v : List ℕ). v ++ end) is ∙ row_is markup c cells lt in
    let left : drop (length end) text ++ end ≡ all =
    sym (drop-append-le (length end) text end long) ∙ ap (drop (length end)) whole ∙ drop-append_seam end all in (
      long,
      sym (append_assoc (drop (length end) text) end (end_in markup)) ∙ ap (λ (v : List ℕ). v ++ end_in markup) left,
    )

-- the cells from a column on
abbrev pub cells_from : List ℕ → List ℕ → ℕ → List Cell
cells_from bytes attributes i = zip2 cell (drop i bytes) (drop i attributes)
