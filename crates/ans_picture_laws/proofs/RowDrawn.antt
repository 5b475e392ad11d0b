-- Where the cells of a row lead.
use Rattle.std.proofs.Common.{◌≡◌, ℕ, suc, ◌+◌, ◌-◌, ◌*◌, ◌<◌, Bool, true, false, not, refl, ap, ap₂, sym, ◌∙◌}
use Rattle.std.proofs.Common.{arith, List, [], ◌∷◌, ◌++◌, length, drop, get_or, replicate, subst, append_assoc}
use Rattle.std.specs.Prelude.{All, ◌==◌, if◌then◌else◌}
use Rattle.std.specs.List.{list_all}
use Rattle.std.proofs.lemmas.Bool.{eqb-true, ne_eqb, and_parts}
use Rattle.std.proofs.lemmas.List.{replicate-append-replicate}
use Rattle.std.proofs.lemmas.List.Elements.{All-head, All-tail}
use Rattle.ans_model.specs.Bytes.{IsByte, blank}
use Rattle.ans_model.specs.declared.cell.Cell.{Cell}
use Rattle.ans_model.specs.Screen.State.{Size, at, cell}
use Rattle.ans_model.specs.Screen.Step.{blank_cell}
use Rattle.ans_players.specs.declared.difference.Difference.{Difference}
use Rattle.ans_players.specs.Sync.{InSync, Stand}
use Rattle.ans_players.specs.Situations.{Spelled}
use Rattle.ans_redraw.specs.Colours.{colours_to}
use Rattle.ans_redraw.specs.declared.pen.RowPen.{RowPen}
use Rattle.ans_redraw.specs.Form.{pen, pen_after, is_blank, last_cell, glyph, over, drawn, pen_behind}
use Rattle.ans_picture_laws.specs.Drawable.{IsPrinted, shown_kinds}
use Rattle.ans_picture_laws.proofs.Going.{Leads, stays, both_lead}
use Rattle.ans_picture_laws.proofs.HalfDrawn.{next_is, blanks_are_there}
use Rattle.ans_picture_laws.proofs.Pieces.{place, place_is, IsAt, is_within, glyph_leads}
use Rattle.ans_picture_laws.proofs.Ways.{over_leads, colours_to_lead}

-- a cell whose byte is printed, in kinds that are agreed
pub record IsShownCell (agreed : Difference → Bool) (c : Cell) : Type 0 where
  pub printed : IsPrinted c.byte
  pub attribute : IsByte c.attribute
  pub kinds : list_all agreed (shown_kinds c.byte) ≡ true

-- a blank is the blank of a cleared screen
pub blank_is : (c : Cell) → is_blank c ≡ true → c ≡ blank_cell 0x07
blank_is c h =
    let both = and_parts (c.byte == blank) (c.attribute == 0x07) h in
    ap₂ cell (eqb-true c.byte blank both.0) (eqb-true c.attribute 0x07 both.1)

one_more_blank : (n : ℕ) (x : Cell) (rest : List Cell) → x ≡ blank_cell 0x07
    → replicate n (blank_cell 0x07) ++ x ∷ rest ≡ replicate (n + 1) (blank_cell 0x07) ++ rest
one_more_blank n x rest e =
    ap (λ (v : Cell). replicate n (blank_cell 0x07) ++ v ∷ rest) e
    ∙ sym (append_assoc (replicate n (blank_cell 0x07)) (blank_cell 0x07 ∷ []) rest)
    ∙ ap (λ (v : List Cell). v ++ rest) (replicate-append-replicate n 1 (blank_cell 0x07))

-- Behind a row that is drawn: k cells are, those of row r before column c, and those from there on are blanks.
pub record IsRowDrawn (z : Size) (cells : List Cell) (agreed : Difference
    → Bool) (r : ℕ) (h : Stand) (xs : List Spelled)
    (p : RowPen) (rest : List Cell) : Type 0 where
  pub k : ℕ
  pub c : ℕ
  pub index_is : k ≡ r * z.width + c
  pub whole : c + p.passed ≡ z.width
  pub left : drop k cells ≡ replicate p.passed (blank_cell 0x07) ++ rest
  pub attribute : IsByte p.attribute
  pub leads : Leads z agreed h xs (place z cells k r c p.attribute)

-- where a pen stands in a row, before cells that are shown
pub record IsBefore (z : Size) (cells : List Cell) (agreed : Difference
    → Bool) (row : List Cell) (p : RowPen) (k r c : ℕ)
    (rest : List Cell) : Type 0 where
  pub index_is : k ≡ r * z.width + c
  pub row_stated : r < z.lines
  pub whole : c + p.passed + length row ≡ z.width
  pub left : drop k cells ≡ replicate p.passed (blank_cell 0x07) ++ (row ++ rest)
  pub shown : All (IsShownCell agreed) row
  pub attribute : IsByte p.attribute

module _ (z : Size) (cells : List Cell) (agreed : Difference → Bool) where
  -- the cells of the row lead to its end
  abbrev pub RowLeads : List Cell → Type 0
  RowLeads row = (p : RowPen) (k r c : ℕ) (rest : List Cell) → IsBefore z cells agreed row p k r c rest
      → IsRowDrawn z cells agreed r (place z cells k r c p.attribute) (drawn p row) (pen_behind p row) rest

  no_cells : RowLeads []
  no_cells p k r c rest h = record {
    k = k;
    c = c;
    index_is = h.index_is;
    whole = omega (arith, h.whole);
    left = h.left;
    attribute = h.attribute;
    leads = stays z agreed _ _ refl;
  }

  -- a cell is printed: the way, the colours and the byte
  printed_leads : (p : RowPen) (x : Cell) (row : List Cell) (k r c : ℕ) (rest : List Cell)
      → IsBefore z cells agreed (x ∷ row) p k r c rest
      → Leads z agreed (place z cells k r c p.attribute)
      (over p.attribute p.passed ++ (colours_to p.attribute x.attribute ++ glyph x.byte ∷ []))
      (place z cells (suc (k + p.passed)) r (c + p.passed + 1) x.attribute)
  printed_leads p x row k r c rest h =
      let shown = All-head (IsShownCell agreed) x row h.shown in
      let there : IsAt z cells k r c =
      record { index_is = h.index_is; row_stated = h.row_stated; column = omega (arith, h.whole) } in
      let further : IsAt z cells (k + p.passed) r (c + p.passed) =
      record {
        index_is = omega (arith, h.index_is);
        row_stated = h.row_stated;
        column = omega (arith, h.whole);
      } in
      let within = is_within z cells (k + p.passed) r (c + p.passed) further in
      let blanks = blanks_are_there z cells p.passed k (x ∷ (row ++ rest)) h.left (omega (arith, within)) in
      subst (λ (v : Stand). Leads z agreed v
      (over p.attribute p.passed ++ (colours_to p.attribute x.attribute ++ glyph x.byte ∷ []))
      (place z cells (suc (k + p.passed)) r (c + p.passed + 1) x.attribute))
      (sym (place_is z cells agreed k r c p.attribute there.column))
      (both_lead z agreed _ _ _ (over p.attribute p.passed) (colours_to p.attribute x.attribute ++ glyph x.byte ∷ [])
      (over_leads z cells agreed p.passed k r c p.attribute (x ∷ (row ++ rest)) there further.column h.left)
      (both_lead z agreed _ _ _ (colours_to p.attribute x.attribute) (glyph x.byte ∷ [])
      (colours_to_lead z cells agreed InSync (k + p.passed) p.attribute x.attribute (at r (c + p.passed)) h.attribute
      shown.attribute)
      (glyph_leads z cells agreed (k + p.passed) r (c + p.passed) x.byte x.attribute (row ++ rest) further
      blanks.left shown.printed shown.kinds)))

  -- and then the others
  printed_first : (x : Cell) (row : List Cell) → RowLeads row → (p : RowPen) (k r c : ℕ) (rest : List Cell)
      → IsBefore z cells agreed (x ∷ row) p k r c rest
      → IsRowDrawn z cells agreed r (place z cells k r c p.attribute)
      ((over p.attribute p.passed ++ (colours_to p.attribute x.attribute ++ glyph x.byte ∷ []))
      ++ drawn (pen x.attribute 0) row)
      (pen_behind (pen x.attribute 0) row) rest
  printed_first x row others p k r c rest h =
      let shown = All-head (IsShownCell agreed) x row h.shown in
      let further : IsAt z cells (k + p.passed) r (c + p.passed) =
      record {
        index_is = omega (arith, h.index_is);
        row_stated = h.row_stated;
        column = omega (arith, h.whole);
      } in
      let within = is_within z cells (k + p.passed) r (c + p.passed) further in
      let blanks = blanks_are_there z cells p.passed k (x ∷ (row ++ rest)) h.left (omega (arith, within)) in
      let next = next_is (k + p.passed) cells x (row ++ rest) blanks.left in
      let more = others (pen x.attribute 0) (suc (k + p.passed)) r (c + p.passed + 1) rest
      (record {
        index_is = omega (arith, h.index_is);
        row_stated = h.row_stated;
        whole = omega (arith, h.whole);
        left = next.left;
        shown = All-tail (IsShownCell agreed) x row h.shown;
        attribute = shown.attribute;
      }) in
      record {
        k = more.k;
        c = more.c;
        index_is = more.index_is;
        whole = more.whole;
        left = more.left;
        attribute = more.attribute;
        leads = both_lead z agreed (place z cells k r c p.attribute)
            (place z cells (suc (k + p.passed)) r (c + p.passed + 1) x.attribute)
            (place z cells more.k r more.c (pen_behind (pen x.attribute 0) row).attribute)
            (over p.attribute p.passed ++ (colours_to p.attribute x.attribute ++ glyph x.byte ∷ []))
            (drawn (pen x.attribute 0) row) (printed_leads p x row k r c rest h) more.leads;
      }

  -- a blank is passed over
  passed_first : (x : Cell) (row : List Cell) → RowLeads row → (p : RowPen) (k r c : ℕ) (rest : List Cell)
      → IsBefore z cells agreed (x ∷ row) p k r c rest → is_blank x ≡ true
      → IsRowDrawn z cells agreed r (place z cells k r c p.attribute)
      (drawn (pen p.attribute (p.passed + 1)) row)
      (pen_behind (pen p.attribute (p.passed + 1)) row) rest
  passed_first x row others p k r c rest h passed =
      others (pen p.attribute (p.passed + 1)) k r c rest
      (record {
        index_is = h.index_is;
        row_stated = h.row_stated;
        whole = omega (arith, h.whole);
        left = h.left ∙ one_more_blank p.passed x (row ++ rest) (blank_is x passed);
        shown = All-tail (IsShownCell agreed) x row h.shown;
        attribute = h.attribute;
      })

  one_more_cell : (x : Cell) (row : List Cell) → RowLeads row → RowLeads (x ∷ row)
  one_more_cell x row others p k r c rest h = by_test (is_blank x) refl
    where
      by_test : (t : Bool) → is_blank x ≡ t
          → IsRowDrawn z cells agreed r (place z cells k r c p.attribute)
          ((if t then []
          else over p.attribute p.passed ++ (colours_to p.attribute x.attribute ++ glyph x.byte ∷ []))
          ++ drawn (if t then pen p.attribute (p.passed + 1) else pen x.attribute 0) row)
          (pen_behind (if t then pen p.attribute (p.passed + 1) else pen x.attribute 0) row) rest
      by_test true e = passed_first x row others p k r c rest h e
      by_test false e = printed_first x row others p k r c rest h

  pub row_leads : (row : List Cell) → RowLeads row
  row_leads [] = no_cells
  row_leads (x ∷ row) = one_more_cell x row (row_leads row)

-- ---- which rows are full
-- after a row the pen has passed nothing exactly if the last cell is no blank
pub full_is : (p : RowPen) (c : Cell) (row : List Cell)
    → ((pen_behind p (c ∷ row)).passed == 0) ≡ not (is_blank (last_cell (c ∷ row)))
full_is p c [] = by_test (is_blank c)
  where
    by_test : (t : Bool)
        → ((if t then pen p.attribute (p.passed + 1) else pen c.attribute 0).passed == 0) ≡ not t
    by_test true = ne_eqb (p.passed + 1) 0 (λ e. omega arith)
    by_test false = refl
full_is p c (d ∷ row) =
    let one : length (c ∷ d ∷ row) - 1 ≡ suc (length row) = omega arith in
    let other : length (d ∷ row) - 1 ≡ length row = omega arith in
    let same : last_cell (c ∷ d ∷ row) ≡ last_cell (d ∷ row) =
    ap (λ (i : ℕ). get_or (c ∷ d ∷ row) i (blank_cell 0x07)) one
    ∙ ap (λ (i : ℕ). get_or (d ∷ row) i (blank_cell 0x07)) (sym other) in
    full_is (pen_after p c) d row ∙ ap (λ (v : Cell). not (is_blank v)) (sym same)
