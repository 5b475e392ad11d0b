-- Glyphs in a row before its last column: one run is what they print one by one.
use Rattle.std.proofs.Common.{◌≡◌, ℕ, suc, ◌+◌, ◌*◌, ◌<◌, ◌≤◌, refl, sym, ap, ◌∙◌, arith, List, [], ◌∷◌, ◌++◌}
use Rattle.std.proofs.Common.{min, inl, inr, ◌⊎◌, length, take, drop, set, All, Option, Some, None, subst, append_assoc}
use Rattle.std.proofs.lemmas.List.{append-nil, take-append-drop, length-set, drop-set-lt, take_more_set, length-take}
use Rattle.std.proofs.lemmas.List.{length-take-le, take_all, take-take}
use Rattle.std.proofs.Math.Nat.{mul-le-mul_right}
use Rattle.std.proofs.lemmas.List.Elements.{All-head, All-tail, All-append, All-take, All-drop, All-map}
use Rattle.std.specs.Prelude.{Bool, true, false, ◌≢◌, ◌==◌, if◌then◌else◌}
use Rattle.std.proofs.lemmas.Bool.{cases_lt, eqb-false, lt-ltb}
use Rattle.std.proofs.lemmas.Bool.Decides.{nat_tests}
use Rattle.ans_model.specs.Bytes.{IsByte}
use Rattle.ans_model.specs.Sequence.TokenKind.{Glyph}
use Rattle.ans_model.specs.Screen.State.{Size, at, index, cell_count}
use Rattle.ans_model.specs.declared.fault.Cause.{Cause}
use Rattle.ans_model.specs.declared.fault.Cause.TheVariants.{PrintBelow, PrintUnknownPlace}
use Rattle.ans_model.specs.declared.start.Start.{Start}
use Rattle.ans_tokens.specs.ScannerView.{ScannerView}
use Rattle.ans_tokens.specs.Glyphs.{IsGlyphByte, IsGlyphFront, IsBetweenTokens, scanner_after}
use Rattle.ans_screen.specs.KnownBits.{KnownBits}
use Rattle.ans_screen.specs.HalfCells.{printed_cell}
use Rattle.ans_screen.specs.GridEdits.{written, printed_run}
use Rattle.ans_screen.specs.declared.cell.HalfCell.{HalfCell}
use Rattle.ans_play.specs.declared.span.Span.{Span}
use Rattle.ans_play.specs.declared.wrap.WrapMode.{WrapMode}
use Rattle.ans_play.specs.declared.play.brush.Brush.{Brush}
use Rattle.ans_play.specs.Brushes.{with_brush, IsBrush}
use Rattle.ans_play.specs.HalfState.{HalfState, half_state, one_position}
use Rattle.ans_play.specs.HalfStep.{half_step}
use Rattle.ans_play.specs.HalfFault.{half_fault, is_one_position}
use Rattle.ans_play.specs.Stands.{IsPlayed, PlaysWholeTokens}
use Rattle.ans_play.specs.Plays.{AreFree, IsLongestRun}
use Rattle.ans_play.specs.PlayView.{PlayView, play_view, IsByteHalfCell}
use Rattle.ans_tokens.proofs.ReadSoFar.{scanner_after-none, scanner_after-more}
use Rattle.ans_play.proofs.Feeding.{whole_token_played}

-- ---- cells
written_none : {A : Type 0} (xs : List A) (i : ℕ) → written xs i [] ≡ xs
written_none xs i = let same : i + 0 ≡ i = omega arith in rw same (take-append-drop i xs)

-- the first of the new elements, and then the others
written_first : {A : Type 0} (xs : List A) (i : ℕ) (c : A) (cs : List A) → i < length xs →
    written (set xs i c) (i + 1) cs ≡ written xs i (c ∷ cs)
written_first xs i c cs l =
    let end : i + 1 + length cs ≡ i + suc (length cs) = omega arith in
    let rest_is : drop (i + 1 + length cs) (set xs i c) ≡ drop (i + suc (length cs)) xs =
    drop-set-lt (i + 1 + length cs) xs i c (omega arith) ∙ ap (λ (n : ℕ). drop n xs) end in
    rw (take_more_set xs i c l, rest_is)
    (append_assoc (take i xs) (c ∷ []) (cs ++ drop (i + suc (length cs)) xs))

-- what is so of the cells and of the new ones is so of them all
pub All-written : {A : Type 0} (P : A → Type 0) (cells : List A) (i : ℕ) (items : List A) → All P cells → All P items →
    All P (written cells i items)
All-written P cells i items h k =
    All-append P (take i cells) (items ++ drop (i + length items) cells) (All-take P i cells h)
    (All-append P items (drop (i + length items) cells) k (All-drop P (i + length items) cells h))

-- printed bytes are known cells
pub printed_bytes : (attribute : KnownBits) (bytes : List ℕ) → IsByte attribute.value → All IsByte bytes →
    All IsByteHalfCell (printed_run attribute bytes)
printed_bytes attribute bytes byte h = All-map IsByteHalfCell (printed_cell attribute) bytes (λ k d l. (h k d l, byte))

-- ---- one glyph
prints_here : (z : Size) (screen : List HalfCell) (row column : ℕ) (saved : Span) (attribute : KnownBits)
    (wrap : WrapMode) (b : ℕ) → row < z.lines →
    half_fault z (half_state screen (one_position row column) saved attribute wrap) (Glyph b) ≡ None
prints_here z screen row column saved attribute wrap b above = grind (arith, nat_tests)

-- and goes one column on
prints_on : (z : Size) (screen : List HalfCell) (row column : ℕ) (saved : Span) (attribute : KnownBits)
    (wrap : WrapMode) (b : ℕ) → column + 1 < z.width →
    half_step z (half_state screen (one_position row column) saved attribute wrap) (Glyph b)
    ≡ half_state (set screen (index z (at row column)) (printed_cell attribute b))
    (one_position row (column + 1)) saved attribute wrap
prints_on z screen row column saved attribute wrap b within = rw (lt-ltb (column + 1) z.width within)

-- one glyph is played
plays_glyph : (z : Size) (class : Start) (s : List ℕ) (scanner : ScannerView) (screen : List HalfCell) (row column : ℕ)
    (saved : Span) (attribute : KnownBits) (wrap : WrapMode) (b : ℕ) →
    IsPlayed z class s scanner (half_state screen (one_position row column) saved attribute wrap) →
    IsBetweenTokens scanner → IsGlyphByte b → row < z.lines → column + 1 < z.width →
    IsPlayed z class (s ++ b ∷ []) (scanner_after scanner 1)
    (half_state (set screen (index z (at row column)) (printed_cell attribute b))
    (one_position row (column + 1)) saved attribute wrap)
plays_glyph z class s scanner screen row column saved attribute wrap b p between glyph above within =
    let h : HalfState = half_state screen (one_position row column) saved attribute wrap in
    subst (λ (k : HalfState). IsPlayed z class (s ++ b ∷ []) (scanner_after scanner 1) k)
    (prints_on z screen row column saved attribute wrap b within)
    (whole_token_played z class s (b ∷ []) scanner h (Glyph b) p between glyph
    (prints_here z screen row column saved attribute wrap b above))

-- where a glyph is printed, the cursor stands at one position above the spare row
prints_at_one_position : (z : Size) (h : HalfState) (b : ℕ) → half_fault z h (Glyph b) ≡ None
    → (is_one_position h.cursor ≡ true) × (h.cursor.low.row ≢ z.lines)
prints_at_one_position z h b e = by_tests (is_one_position h.cursor) (h.cursor.low.row == z.lines) refl refl e
  where
    by_tests : (p q : Bool) → is_one_position h.cursor ≡ p → (h.cursor.low.row == z.lines) ≡ q →
        (if p then (if q then Some PrintBelow else None) else Some PrintUnknownPlace) ≡ None →
        (is_one_position h.cursor ≡ true) × (h.cursor.low.row ≢ z.lines)
    by_tests true true one bottom n = absurd (cc)
    by_tests true false one bottom n = (one, eqb-false h.cursor.low.row z.lines bottom)
    by_tests false q one bottom n = absurd (cc)

-- ---- a run
plays_run : (z : Size) (class : Start) (run s : List ℕ) (scanner : ScannerView) (screen : List HalfCell)
    (row column : ℕ)
    (saved : Span) (attribute : KnownBits) (wrap : WrapMode) →
    IsPlayed z class s scanner (half_state screen (one_position row column) saved attribute wrap) →
    IsBetweenTokens scanner → All IsGlyphByte run → row < z.lines → column + length run < z.width →
    index z (at row column) + length run ≤ length screen →
    IsPlayed z class (s ++ run) (scanner_after scanner (length run))
    (half_state (written screen (index z (at row column)) (printed_run attribute run))
    (one_position row (column + length run)) saved attribute wrap)
plays_run z class [] s scanner screen row column saved attribute wrap p between glyphs above within room =
    let same : column + 0 ≡ column = omega arith in
    rw (append-nil s, scanner_after-none scanner, written_none screen (index z (at row column)), same) p
plays_run z class (b ∷ run) s scanner screen row column saved attribute wrap p between glyphs above within room =
    let i : ℕ = index z (at row column) in
    let first = plays_glyph z class s scanner screen row column saved attribute wrap b p between
    (All-head IsGlyphByte b run glyphs) above (omega arith) in
    let next : index z (at row (column + 1)) ≡ i + 1 = omega arith in
    let later = plays_run z class run (s ++ b ∷ []) (scanner_after scanner 1)
    (set screen i (printed_cell attribute b)) row
    (column + 1) saved attribute wrap first
    (record { nothing = between.nothing; unrefused = between.unrefused }) (All-tail IsGlyphByte b run glyphs) above
    (omega arith) (rw length-set (omega arith)) in
    subst (λ (xs : List ℕ). IsPlayed z class xs (scanner_after scanner (suc (length run)))
    (printed (b ∷ run) column))
    (append_assoc s (b ∷ []) run)
    (subst (λ (c : ScannerView). IsPlayed z class ((s ++ b ∷ []) ++ run) c (printed (b ∷ run) column))
    (scanner_after-more scanner 1 (length run) (suc (length run)) (omega arith))
    (subst (λ (k : HalfState). IsPlayed z class ((s ++ b ∷ []) ++ run)
    (scanner_after (scanner_after scanner 1) (length run)) k)
    (same_run _ _ _ _ row saved attribute wrap
    (rw next (written_first screen i (printed_cell attribute b) (printed_run attribute run) (omega arith)))
    (omega arith))
    later))
  where
    printed : List ℕ → ℕ → HalfState
    printed bytes c = half_state (written screen (index z (at row column)) (printed_run attribute bytes))
        (one_position row (c + length bytes)) saved attribute wrap

    same_run : (xs ys : List HalfCell) (c d row : ℕ) (saved : Span) (attribute : KnownBits) (wrap : WrapMode) →
        xs ≡ ys → c ≡ d → half_state xs (one_position row c) saved attribute wrap
        ≡ half_state ys (one_position row d) saved attribute wrap
    same_run xs ys c d row saved attribute wrap e f = cc

-- ---- what the code of a run gives
-- the run ends on the screen
room_on_screen : (width lines row column count cells : ℕ) → row < lines → column + count < width →
    cells ≡ (lines + 1) * width → row * width + column + count ≤ cells
room_on_screen width lines row column count cells above within e =
    let rows : (row + 1) * width ≤ (lines + 1) * width = mul-le-mul_right width (omega arith) in
    omega (arith, rows)

-- glyphs at the start of a front
front_of_front : (bytes : List ℕ) (m count : ℕ) → IsGlyphFront (take m bytes) count →
    (count ≤ m) × All IsGlyphByte (take count bytes)
front_of_front bytes m count f =
    let within : count ≤ m = omega (arith, f.within, length-take m bytes) in
    (within, rw take-take at f.glyphs)

-- the first count bytes are glyphs, and have room in the row of a brush that the play has already
pub record IsRun (p : PlayView) (b : Brush) (bytes : List ℕ) (count : ℕ) : Type 0 where
  pub same : with_brush p b ≡ p
  pub above : b.position.row < p.size.lines
  pub columns : b.position.column + count < p.size.width
  pub within : count ≤ length bytes
  pub glyphs : All IsGlyphByte (take count bytes)

-- the glyphs that the scanner counts in the free columns
pub is_run : {p : PlayView} {b : Brush} {bytes : List ℕ} {columns m count : ℕ} → IsBrush p.size b →
    (is_one_position p.state.cursor ≡ true → with_brush p b ≡ p) → AreFree p columns → m ≤ columns →
    IsGlyphFront (take m bytes) count → 0 < count → IsRun p b bytes count
is_run {p = p} {b = b} {bytes = bytes} {columns = columns} {m = m} {count = count} on kept free below front some =
    by_fault (half_fault p.size p.state (Glyph 0)) refl
  where
    by_fault : (o : Option Cause) → half_fault p.size p.state (Glyph 0) ≡ o → IsRun p b bytes count
    by_fault (Some cause) e = absurd (omega (arith, free.refused 0 cause e, (front_of_front bytes m count front).0))
    by_fault None e =
        let one = prints_at_one_position p.size p.state 0 e in
        let same = kept one.0 in
        let row : b.position.row ≡ p.state.cursor.low.row = ap (λ (q : PlayView). q.state.cursor.low.row) same in
        let column : b.position.column ≡ p.state.cursor.low.column =
        ap (λ (q : PlayView). q.state.cursor.low.column) same in
        let glyphs = front_of_front bytes m count front in
        record {
          same = same;
          above = omega (arith, on.on_screen.0, row, one.1);
          columns = omega (arith, column, free.printed 0 e, glyphs.0);
          within = omega (arith, front.within, length-take m bytes);
          glyphs = glyphs.1;
        }

-- a run is played
pub run_is_played : (z : Size) (scanner : ScannerView) (screen new : List HalfCell) (row column : ℕ) (saved : Span)
    (attribute : KnownBits) (wrap : WrapMode)
    (bytes : List ℕ) (count : ℕ) → count ≤ length bytes → row < z.lines → column + count < z.width →
    All IsGlyphByte (take count bytes) → length screen ≡ cell_count z →
    new ≡ written screen (index z (at row column)) (printed_run attribute (take count bytes)) →
    PlaysWholeTokens
    (play_view z scanner (half_state screen (one_position row column) saved attribute wrap))
    (take count bytes)
    (play_view z scanner (half_state new (one_position row (column + count)) saved attribute wrap))
run_is_played z scanner screen new row column saved attribute wrap bytes count within above columns glyphs cells is =
    let n : length (take count bytes) ≡ count = length-take-le count bytes within in
    let fits : index z (at row column) + length (take count bytes) ≤ length screen =
    rw n (room_on_screen z.width z.lines row column count (length screen) above columns cells) in
    let room : column + length (take count bytes) < z.width = rw n columns in
    record {
      scanner = refl;
      played = λ s between. record {
        size = refl;
        offset = refl;
        played = λ class text p.
            let on = plays_run z class (take count bytes) text s screen row column saved attribute wrap p between
            glyphs above room fits in
            rw (n, is) (rw n at on);
      };
    }

-- the free columns are one number
free_once : (p : PlayView) (c d : ℕ) → AreFree p c → AreFree p d → c ≡ d
free_once p c d free other = by_fault (half_fault p.size p.state (Glyph 0)) refl
  where
    by_fault : (o : Option Cause) → half_fault p.size p.state (Glyph 0) ≡ o → c ≡ d
    by_fault None e = omega (arith, free.printed 0 e, other.printed 0 e)
    by_fault (Some cause) e = free.refused 0 cause e ∙ sym (other.refused 0 cause e)

-- the glyphs that the scanner counts in the free columns are the longest run
pub longest_run : {p : PlayView} (bytes : List ℕ) {columns m count : ℕ} → AreFree p columns →
    m ≡ min (length bytes) columns → IsGlyphFront (take m bytes) count → IsLongestRun p bytes count
longest_run {p = p} bytes {columns = columns} {m = m} {count = count} free least front other other_free =
    let same : columns ≡ other = free_once p columns other free other_free in
    rw (← same) (subst (λ (xs : List ℕ). IsGlyphFront xs count) (front_is (cases_lt columns (length bytes))) front)
  where
    front_is : (columns < length bytes) ⊎ (length bytes ≤ columns) → take m bytes ≡ take columns bytes
    front_is (inl less) = let e : m ≡ columns = omega (arith, least) in rw e refl
    front_is (inr all) = let e : m ≡ length bytes = omega (arith, least) in
        rw e (take_all (length bytes) bytes (omega arith) ∙ sym (take_all columns bytes all))
