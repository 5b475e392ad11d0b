-- The kinds of the picture's own bytes do arise in the form.
use Rattle.std.proofs.Common.{◌≡◌, ℕ, zero, suc, ◌+◌, ◌*◌, Bool, true, false, not, refl, ap, sym, ◌∙◌, arith, subst}
use Rattle.std.proofs.Common.{List, [], ◌∷◌, ◌++◌, length, take, drop, Some, All}
use Rattle.std.specs.Prelude.{slice_get, ◌<◌, if◌then◌else◌}
use Rattle.std.specs.List.{AllByRecursion, list_all}
use Rattle.std.proofs.lemmas.Bool.{and_parts}
use Rattle.std.proofs.lemmas.List.{length-drop, take-append-drop}
use Rattle.std.proofs.lemmas.List.Elements.{All-nil, All-cons}
use Rattle.std.proofs.lemmas.List.Folds.{list_all-append}
use Rattle.ans_model.specs.declared.cell.Cell.{Cell}
use Rattle.ans_model.specs.declared.start.Start.{Start}
use Rattle.ans_model.specs.Sequence.TokenKind.{TokenKind, Glyph}
use Rattle.ans_model.specs.Screen.State.{Size, State}
use Rattle.ans_model.specs.Screen.StartClass.{low_start}
use Rattle.ans_model.specs.Text.ReportText.{rows, rows_of}
use Rattle.ans_model.specs.Verdict.Good.{Picture}
use Rattle.ans_model.proofs.StartLemmas.{low_is_start}
use Rattle.ans_players.specs.declared.difference.Difference.{Difference}
use Rattle.ans_players.specs.Sync.{Stand, is_same_for_all, unsure_kinds}
use Rattle.ans_players.specs.Mends.{mending_spelled}
use Rattle.ans_players.specs.Situations.{Spelled, AreAgreed, is_agreed, name_kinds, spelling_kinds, stand_of}
use Rattle.ans_redraw.specs.Colours.{colours_to}
use Rattle.ans_picture_laws.specs.Drawable.{IsDrawable, BytesAreAgreed, shown_kinds}
use Rattle.ans_redraw.specs.declared.pen.RowPen.{RowPen}
use Rattle.ans_redraw.specs.Form.{pen, is_blank, glyph, over, drawn, pen_behind, opens_below, are_some, before_row}
use Rattle.ans_redraw.specs.Form.{at_row, after_row, row_drawn, attribute_after_row, set_back, are_blank, rows_drawn}
use Rattle.ans_redraw.specs.Form.{form}
use Rattle.ans_redraw.proofs.RowsGiven.{suc_rows}
use Rattle.ans_picture_laws.proofs.PictureDrawn.{nothing_left}
use Rattle.ans_picture_laws.proofs.RowDrawn.{blank_is}

module _ (agreed : Difference → Bool) where
  -- the kinds of a byte are agreed
  abbrev KindsAgreed : ℕ → Type 0
  KindsAgreed byte = list_all agreed (shown_kinds byte) ≡ true

  -- those of a printed byte are
  abbrev GlyphAgreed : TokenKind → Type 0
  GlyphAgreed (Glyph byte) = KindsAgreed byte
  GlyphAgreed t = Unit {0}

  abbrev AllGlyphs : List Spelled → Type 0
  AllGlyphs xs = AllByRecursion (λ x. GlyphAgreed x.token) xs

  abbrev CellAgreed : Cell → Type 0
  CellAgreed c = KindsAgreed c.byte

  -- ---- the tokens
  later_agreed : (xs ys : List Difference) → list_all agreed (xs ++ ys) ≡ true → list_all agreed ys ≡ true
  later_agreed xs ys h =
      (and_parts (list_all agreed xs) (list_all agreed ys) (sym (list_all-append agreed xs ys) ∙ h)).1

  first_agreed : (xs ys : List Difference) → list_all agreed (xs ++ ys) ≡ true → list_all agreed xs ≡ true
  first_agreed xs ys h =
      (and_parts (list_all agreed xs) (list_all agreed ys) (sym (list_all-append agreed xs ys) ∙ h)).0

  token_agreed : (z : Size) (h : Stand) (t : TokenKind) (text : List ℕ)
      → is_agreed agreed z h (record { token = t; text = text }) ≡ true → GlyphAgreed t
  token_agreed z h (Glyph byte) text e =
      first_agreed (shown_kinds byte) (spelling_kinds h.state (Glyph byte) text)
      (first_agreed (shown_kinds byte ++ spelling_kinds h.state (Glyph byte) text) (name_kinds h.names (Glyph byte))
      (later_agreed (if is_same_for_all h.sync (Glyph byte) then [] else unsure_kinds h.sync)
      ((shown_kinds byte ++ spelling_kinds h.state (Glyph byte) text) ++ name_kinds h.names (Glyph byte)) e))
  token_agreed z h t text e = tt

  each_of : (xs : List Spelled) → ((k : ℕ) (x : Spelled) → slice_get xs k ≡ Some x → GlyphAgreed x.token)
      → AllGlyphs xs
  each_of [] each = tt
  each_of (x ∷ xs) each = (each zero x refl, each_of xs (λ k y e. each (suc k) y e))

  all_glyphs : (z : Size) (class : Start) (xs : List Spelled) → 0 < z.width → AreAgreed agreed z class xs → AllGlyphs xs
  all_glyphs z class xs some each =
      let low : State = low_start z class in
      each_of xs (λ k x e.
      token_agreed z (stand_of z low (take k xs)) x.token x.text (each low k x (low_is_start z class some) e))

  -- ---- the cells
  glyphs_before : (xs ys : List Spelled) → AllGlyphs (xs ++ ys) → AllGlyphs xs
  glyphs_before [] ys h = tt
  glyphs_before (x ∷ xs) ys h = (h.0, glyphs_before xs ys h.1)

  glyphs_behind : (xs ys : List Spelled) → AllGlyphs (xs ++ ys) → AllGlyphs ys
  glyphs_behind [] ys h = h
  glyphs_behind (x ∷ xs) ys h = glyphs_behind xs ys h.1

  blank_agreed : (c : Cell) → is_blank c ≡ true → CellAgreed c
  blank_agreed c h = subst (λ (v : Cell). CellAgreed v) (sym (blank_is c h)) refl

  blanks_agreed : (row : List Cell) → list_all is_blank row ≡ true → AllByRecursion CellAgreed row
  blanks_agreed [] h = tt
  blanks_agreed (c ∷ row) h =
      let both = and_parts (is_blank c) (list_all is_blank row) h in
      (blank_agreed c both.0, blanks_agreed row both.1)

  all_blank_agreed : (rs : List (List Cell)) → are_blank rs ≡ true → AllByRecursion (AllByRecursion CellAgreed) rs
  all_blank_agreed [] h = tt
  all_blank_agreed (row ∷ rs) h =
      let both = and_parts (list_all is_blank row) (are_blank rs) h in
      (blanks_agreed row both.0, all_blank_agreed rs both.1)

  row_agreed : (p : RowPen) (row : List Cell) → AllGlyphs (drawn p row) → AllByRecursion CellAgreed row
  row_agreed p [] h = tt
  row_agreed p (c ∷ row) h =
      by_test (is_blank c) refl (row_agreed (pen p.attribute (p.passed + 1)) row) (row_agreed (pen c.attribute 0) row) h
    where
      by_test : (t : Bool) → is_blank c ≡ t
          → (AllGlyphs (drawn (pen p.attribute (p.passed + 1)) row) → AllByRecursion CellAgreed row)
          → (AllGlyphs (drawn (pen c.attribute 0) row) → AllByRecursion CellAgreed row)
          → AllGlyphs ((if t then []
          else over p.attribute p.passed ++ (colours_to p.attribute c.attribute ++ glyph c.byte ∷ []))
          ++ drawn (if t then pen p.attribute (p.passed + 1) else pen c.attribute 0) row)
          → CellAgreed c × AllByRecursion CellAgreed row
      by_test true e passed printed g = (blank_agreed c e, passed g)
      by_test false e passed printed g =
          let way : List Spelled = colours_to p.attribute c.attribute ++ glyph c.byte ∷ [] in
          let rest : List Spelled = drawn (pen c.attribute 0) row in
          let here = glyphs_behind (colours_to p.attribute c.attribute) (glyph c.byte ∷ [])
          (glyphs_behind (over p.attribute p.passed) way
          (glyphs_before (over p.attribute p.passed ++ way) rest g)) in
          (here.0, printed (glyphs_behind (over p.attribute p.passed ++ way) rest g))

  -- a row, with what stands before and after it
  whole_row_agreed : (opens follows : Bool) (r a : ℕ) (row : List Cell) → AllGlyphs (row_drawn opens follows r a row)
      → AllByRecursion CellAgreed row
  whole_row_agreed opens follows r a row h =
      let p : RowPen = pen (at_row opens a) 0 in
      let after : List Spelled = after_row opens follows r (pen_behind p row).attribute in
      row_agreed p row
      (glyphs_before (drawn p row) after (glyphs_behind (before_row opens a) (drawn p row ++ after) h))

  rows_agreed : (r a : ℕ) (rs : List (List Cell)) → AllGlyphs (rows_drawn r a rs)
      → AllByRecursion (AllByRecursion CellAgreed) rs
  rows_agreed r a [] h = tt
  rows_agreed r a (row ∷ rs) h = by_test (are_blank (row ∷ rs)) refl (rows_agreed (r + 1) b rs) h
    where
      opens : Bool
      opens = opens_below (not (are_blank rs)) (are_some rs) row

      b : ℕ
      b = attribute_after_row (opens_below (not (are_blank rs)) (are_some rs) row) (not (are_blank rs)) a row

      by_test : (t : Bool) → are_blank (row ∷ rs) ≡ t
          → (AllGlyphs (rows_drawn (r + 1) b rs) → AllByRecursion (AllByRecursion CellAgreed) rs)
          → AllGlyphs (if t then set_back
          else row_drawn opens (not (are_blank rs)) r a row ++ rows_drawn (r + 1) b rs)
          → AllByRecursion (AllByRecursion CellAgreed) (row ∷ rs)
      by_test true e others g = all_blank_agreed (row ∷ rs) e
      by_test false e others g =
          let here : List Spelled = row_drawn opens (not (are_blank rs)) r a row in (
            whole_row_agreed opens (not (are_blank rs)) r a row (glyphs_before here (rows_drawn (r + 1) b rs) g),
            others (glyphs_behind here (rows_drawn (r + 1) b rs) g),
          )

  -- ---- the picture
  all_from : (cells : List Cell) → AllByRecursion CellAgreed cells → All CellAgreed cells
  all_from [] h = All-nil CellAgreed
  all_from (c ∷ cells) h = All-cons CellAgreed c cells h.0 (all_from cells h.1)

  both_agreed : (xs ys : List Cell) → AllByRecursion CellAgreed xs → AllByRecursion CellAgreed ys
      → AllByRecursion CellAgreed (xs ++ ys)
  both_agreed [] ys h g = g
  both_agreed (x ∷ xs) ys h g = (h.0, both_agreed xs ys h.1 g)

  from_rows : (w n : ℕ) (cells : List Cell) → length cells ≡ n * w
      → AllByRecursion (AllByRecursion CellAgreed) (rows w n cells) → AllByRecursion CellAgreed cells
  from_rows w zero cells count h =
      let none : 0 ≡ 0 * w = omega arith in
      subst (λ (xs : List Cell). AllByRecursion CellAgreed xs) (sym (nothing_left cells (count ∙ sym none))) tt
  from_rows w (suc n) cells count h =
      let more : length cells ≡ w + n * w = count ∙ suc_rows n w in
      let back : length (drop w cells) ≡ n * w = simp length-drop (omega arith) in
      subst (λ (xs : List Cell). AllByRecursion CellAgreed xs) (take-append-drop w cells)
      (both_agreed (take w cells) (drop w cells) h.0 (from_rows w n (drop w cells) back h.1))

  pub bytes_agreed : (z : Size) (class : Start) (picture : Picture) → IsDrawable z picture
      → AreAgreed agreed z class (form picture) → BytesAreAgreed agreed picture
  bytes_agreed z class picture h each =
      let glyphs = all_glyphs z class (form picture) h.size.some_columns each in
      let in_rows = rows_agreed 0 0x07 (rows_of picture)
      (glyphs_behind mending_spelled (rows_drawn 0 0x07 (rows_of picture)) glyphs) in
      let count : length picture.cells ≡ picture.size.lines * picture.size.width =
      h.is_picture.count ∙ ap (λ (y : Size). y.lines * y.width) (sym h.is_picture.size) in
      all_from picture.cells (from_rows picture.size.width picture.size.lines picture.cells count in_rows)
