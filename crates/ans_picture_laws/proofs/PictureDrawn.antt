-- Where the rows of a picture lead.
use Rattle.std.proofs.Common.{◌≡◌, ℕ, zero, suc, ◌+◌, ◌-◌, ◌*◌, ◌<◌, ◌≤◌, Bool, true, false, not, refl, ap, ap₂, sym}
use Rattle.std.proofs.Common.{◌∙◌, arith, add-mul, one-mul, List, [], ◌∷◌, ◌++◌, length, take, drop, replicate}
use Rattle.std.proofs.Common.{subst}
use Rattle.std.specs.Prelude.{All, nat_lt, ◌==◌, ◌&&◌, ◌||◌, if◌then◌else◌}
use Rattle.std.specs.List.{list_all}
use Rattle.std.proofs.lemmas.Bool.{le-ltb, eqb-true, eqb-false, and_parts}
use Rattle.std.proofs.lemmas.List.{append-nil, length-take, length-drop, drop-drop, replicate-append-replicate}
use Rattle.std.proofs.lemmas.List.{take-append-drop}
use Rattle.std.proofs.lemmas.List.Elements.{All-take, All-drop}
use Rattle.std.proofs.lemmas.Nat.{mul-le}
use Rattle.ans_model.specs.Bytes.{IsByte}
use Rattle.ans_model.specs.declared.cell.Cell.{Cell}
use Rattle.ans_model.specs.Text.ReportText.{rows}
use Rattle.ans_model.specs.Screen.State.{Size, at, cell_count}
use Rattle.ans_model.specs.Screen.Step.{blank_cell}
use Rattle.ans_players.specs.declared.difference.Difference.{Difference}
use Rattle.ans_players.specs.Sync.{InSync, AfterWrap, Stand}
use Rattle.ans_players.specs.Situations.{Spelled}
use Rattle.ans_redraw.specs.declared.pen.RowPen.{RowPen}
use Rattle.ans_redraw.specs.Form.{pen, is_blank, drawn, pen_behind, is_coloured, last_cell, line_end, set_back}
use Rattle.ans_redraw.specs.Form.{are_blank, are_some, opens_below, black, blackened, down_and_up, row_place}
use Rattle.ans_redraw.specs.Form.{before_row, at_row, after_row, below_row, row_drawn, attribute_after_row, rows_drawn}
use Rattle.ans_redraw.proofs.RowsGiven.{suc_rows}
use Rattle.ans_picture_laws.proofs.Going.{Leads, stays, both_lead}
use Rattle.ans_picture_laws.proofs.HalfDrawn.{half, blanks_are_there}
use Rattle.ans_picture_laws.proofs.Pieces.{stand, place, place_is}
use Rattle.ans_picture_laws.proofs.Ways.{black_leads, down_and_up_leads, ended, set_back_leads, line_end_leads}
use Rattle.ans_picture_laws.proofs.Ways.{row_place_leads}
use Rattle.ans_picture_laws.proofs.RowDrawn.{IsShownCell, blank_is, IsRowDrawn, row_leads, full_is}

-- ---- rows of blanks
row_of_blanks : (row : List Cell) → list_all is_blank row ≡ true → row ≡ replicate (length row) (blank_cell 0x07)
row_of_blanks [] h = refl
row_of_blanks (c ∷ row) h =
    let both = and_parts (is_blank c) (list_all is_blank row) h in
    ap₂ (λ (x : Cell) (xs : List Cell). x ∷ xs) (blank_is c both.0) (row_of_blanks row both.1)

pub nothing_left : (xs : List Cell) → length xs ≡ 0 → xs ≡ []
nothing_left [] h = refl
nothing_left (x ∷ xs) h = absurd (let no : ⊥ = omega arith in no)

rows_of_blanks : (w n : ℕ) (cells : List Cell) → length cells ≡ n * w → are_blank (rows w n cells) ≡ true
    → cells ≡ replicate (n * w) (blank_cell 0x07)
rows_of_blanks w zero cells count h =
    let none : zero * w ≡ 0 = omega arith in
    nothing_left cells (count ∙ none) ∙ ap (λ (m : ℕ). replicate m (blank_cell 0x07)) (sym none)
rows_of_blanks w (suc n) cells count h =
    let both = and_parts (list_all is_blank (take w cells)) (are_blank (rows w n (drop w cells))) h in
    let more : length cells ≡ w + n * w = count ∙ suc_rows n w in
    let front : length (take w cells) ≡ w = simp length-take (omega arith) in
    let back : length (drop w cells) ≡ n * w = simp length-drop (omega arith) in
    sym (take-append-drop w cells)
    ∙ ap₂ (λ (xs ys : List Cell). xs ++ ys)
    (row_of_blanks (take w cells) both.0 ∙ ap (λ (m : ℕ). replicate m (blank_cell 0x07)) front)
    (rows_of_blanks w n (drop w cells) back both.1)
    ∙ replicate-append-replicate w (n * w) (blank_cell 0x07)
    ∙ ap (λ (m : ℕ). replicate m (blank_cell 0x07)) (sym (suc_rows n w))

or_right : (opens follows : Bool) → opens ≡ false → (opens || follows) ≡ true → follows ≡ true
or_right false follows h e = e
or_right true follows h e = absurd (let no : ⊥ = cc in no)

-- Behind all rows: the whole picture is on the screen, and the attribute is white on black.
pub record IsAllDrawn (z : Size) (cells : List Cell) (agreed : Difference → Bool) (h : Stand) (xs : List Spelled)
    : Type 0 where
  pub there : Stand
  pub leads : Leads z agreed h xs there
  pub screen : there.state.screen ≡ half z cells (length cells)
  pub attribute : there.state.attribute ≡ 0x07

-- before row r, with n rows of cells left
record IsAtRow (z : Size) (cells : List Cell) (agreed : Difference → Bool) (n r a : ℕ) (rest : List Cell) : Type 0 where
  rows_left : r + n ≡ z.lines
  left : drop (r * z.width) cells ≡ rest
  count : length rest ≡ n * z.width
  shown : All (IsShownCell agreed) rest
  attribute : IsByte a

-- after the cells of row r, if the row below is open or others follow
record IsAfter (z : Size) (cells : List Cell) (opens follows : Bool) (r : ℕ) (p : RowPen) (k c : ℕ) (below : List Cell)
    : Type 0 where
  index_is : k ≡ r * z.width + c
  whole : c + p.passed ≡ z.width
  left : drop k cells ≡ replicate p.passed (blank_cell 0x07) ++ below
  attribute : IsByte p.attribute
  row_below : r + 1 < z.lines
  full : opens ≡ true → p.passed ≡ 0
  not_full : opens ≡ false → p.passed ≡ 0 → ⊥
  some : (opens || follows) ≡ true

-- ---- which rows open the one below
full_of : (p : RowPen) (row : List Cell) → 0 < length row
    → ((pen_behind p row).passed == 0) ≡ not (is_blank (last_cell row))
full_of p [] some = absurd (let no : ⊥ = omega arith in no)
full_of p (c ∷ row) some = full_is p c row

-- a row that is followed and opens nothing is not full
closed : (full follows other : Bool) → (full && (follows || other)) ≡ false → follows ≡ true → full ≡ false
closed false follows other h e = refl
closed true true other h e = h
closed true false other h e = absurd (let no : ⊥ = cc in no)

opens_none : (full coloured : Bool) → (full && (false || (coloured && false))) ≡ true → ⊥
opens_none false coloured h = cc
opens_none true true h = cc
opens_none true false h = cc

-- what opens a row has one below
opens_some : (w n : ℕ) (xs : List Cell) (full coloured : Bool)
    → (full && (not (are_blank (rows w n xs)) || (coloured && are_some (rows w n xs)))) ≡ true → 0 < n
opens_some w zero xs full coloured h = absurd (opens_none full coloured h)
opens_some w (suc n) xs full coloured h = omega arith

follows_some : (w n : ℕ) (xs : List Cell) → not (are_blank (rows w n xs)) ≡ true → 0 < n
follows_some w zero xs h = absurd (let no : ⊥ = cc in no)
follows_some w (suc n) xs h = omega arith

blank_of_not : (t : Bool) → not t ≡ false → t ≡ true
blank_of_not true h = refl
blank_of_not false h = absurd (let no : ⊥ = cc in no)

-- nothing but blanks is drawn by the end alone
blank_ends : (r a : ℕ) (rs : List (List Cell)) → are_blank rs ≡ true → rows_drawn r a rs ≡ set_back
blank_ends r a [] h = refl
blank_ends r a (row ∷ rs) h = rw h refl

-- ---- attributes
blackened_byte : (a : ℕ) → IsByte a → IsByte (blackened a)
blackened_byte a h = by_test (is_coloured a)
  where
    by_test : (t : Bool) → IsByte (if t then 0x07 else a)
    by_test true = omega arith
    by_test false = h

at_row_byte : (opens : Bool) (a : ℕ) → IsByte a → IsByte (at_row opens a)
at_row_byte true a h = blackened_byte a h
at_row_byte false a h = h

below_row_byte : (opens follows : Bool) (a : ℕ) → IsByte a → IsByte (below_row opens follows a)
below_row_byte true follows a h = h
below_row_byte false true a h = blackened_byte a h
below_row_byte false false a h = h

module _ (z : Size) (cells : List Cell) (agreed : Difference → Bool) where
  -- ---- before and after a row
  row_ends : (k r c behind : ℕ) → k ≡ r * z.width + c → c + behind ≡ z.width → r < z.lines
      → k + behind ≤ cell_count z
  row_ends k r c behind index whole lt =
      let sum : suc r * z.width ≡ z.width + r * z.width = suc_rows r z.width in
      let le : suc r * z.width ≤ (z.lines + 1) * z.width =
      mul-le (suc r) z.width (z.lines + 1) z.width (omega arith) (omega arith) in
      omega arith

  next_row : (k r c behind : ℕ) → k ≡ r * z.width + c → c + behind ≡ z.width → k + behind ≡ (r + 1) * z.width
  next_row k r c behind index whole =
      let sum : (r + 1) * z.width ≡ r * z.width + 1 * z.width = add-mul r 1 z.width in
      let one : 1 * z.width ≡ z.width = one-mul z.width in
      omega arith

  before_leads : (opens : Bool) (k r a : ℕ) → IsByte a → (opens ≡ true → r + 1 < z.lines)
      → Leads z agreed (stand z cells InSync k (at r 0) a) (before_row opens a)
      (stand z cells InSync k (at r 0) (at_row opens a))
  before_leads true k r a h on =
      both_lead z agreed _ (stand z cells InSync k (at r 0) (blackened a)) _ (black a) down_and_up
      (black_leads z cells agreed k a (at r 0) h) (down_and_up_leads z cells agreed k r (blackened a) (on refl))
  before_leads false k r a h on = stays z agreed _ _ refl

  after_leads : (opens follows : Bool) (r : ℕ) (p : RowPen) (k c : ℕ) (below : List Cell) → 0 < z.width
      → IsAfter z cells opens follows r p k c below
      → Leads z agreed (place z cells k r c p.attribute) (after_row opens follows r p.attribute)
      (stand z cells InSync ((r + 1) * z.width) (at (r + 1) 0) (below_row opens follows p.attribute))
  after_leads true follows r p k c below columns h =
      let none : p.passed ≡ 0 = h.full refl in
      let start : place z cells k r c p.attribute ≡ stand z cells AfterWrap k (at (r + 1) 0) p.attribute =
      rw (le-ltb c z.width (omega (arith, h.whole))) refl in
      let next : k + p.passed ≡ (r + 1) * z.width = next_row k r c p.passed h.index_is h.whole in
      let index : k ≡ (r + 1) * z.width = omega (arith, next, none) in
      let row : (r + 2) - 1 ≡ r + 1 = omega arith in
      let below_there = h.row_below in
      subst (λ (v : Stand). Leads z agreed v (row_place (r + 2))
      (stand z cells InSync ((r + 1) * z.width) (at (r + 1) 0) p.attribute)) (sym start)
      (subst
      (λ (v : Stand). Leads z agreed (stand z cells AfterWrap k (at (r + 1) 0) p.attribute) (row_place (r + 2)) v)
      (ap₂ (λ (j i : ℕ). stand z cells InSync j (at i 0) p.attribute) index row)
      (row_place_leads z cells agreed (r + 2) k p.attribute (at (r + 1) 0) (omega arith) (omega arith) columns))
  after_leads false true r p k c below columns h =
      let some : p.passed ≡ 0 → ⊥ = h.not_full refl in
      let lt : c < z.width = omega (arith, h.whole) in
      let on = h.row_below in
      let next : k + p.passed ≡ (r + 1) * z.width = next_row k r c p.passed h.index_is h.whole in
      let there = blanks_are_there z cells p.passed k below h.left
      (row_ends k r c p.passed h.index_is h.whole (omega arith)) in
      let same : half z cells k ≡ half z cells ((r + 1) * z.width) =
      there.same ∙ ap (λ (j : ℕ). half z cells j) next in
      let a : ℕ = blackened p.attribute in
      subst (λ (v : Stand). Leads z agreed v (black p.attribute ++ line_end)
      (stand z cells InSync ((r + 1) * z.width) (at (r + 1) 0) a)) (sym (place_is z cells agreed k r c p.attribute lt))
      (subst (λ (v : List Cell). Leads z agreed (stand z cells InSync k (at r c) p.attribute)
      (black p.attribute ++ line_end)
      (record (stand z cells InSync k (at (r + 1) 0) a) {
        state = record (stand z cells InSync k (at (r + 1) 0) a).state { screen = v };
      })) same
      (both_lead z agreed _ _ _ (black p.attribute) line_end
      (black_leads z cells agreed k p.attribute (at r c) h.attribute) (line_end_leads z cells agreed k r c a on)))
  after_leads false false r p k c below columns h = absurd (let some = h.some in let no : ⊥ = cc in no)

  -- ---- the end
  then_all : (h m : Stand) (xs ys : List Spelled) → Leads z agreed h xs m → IsAllDrawn z cells agreed m ys
      → IsAllDrawn z cells agreed h (xs ++ ys)
  then_all h m xs ys one all = record {
    there = all.there;
    leads = both_lead z agreed h m all.there xs ys one all.leads;
    screen = all.screen;
    attribute = all.attribute;
  }

  end_leads : (k r c a : ℕ) (t : Bool) → half z cells k ≡ half z cells (length cells)
      → IsAllDrawn z cells agreed
      (if t then stand z cells InSync k (at r c) a else stand z cells AfterWrap k (at (r + 1) 0) a) set_back
  end_leads k r c a true same = record {
    there = ended z cells agreed InSync k (at r c);
    leads = set_back_leads z cells agreed InSync k a (at r c);
    screen = same;
    attribute = refl;
  }
  end_leads k r c a false same = record {
    there = ended z cells agreed AfterWrap k (at (r + 1) 0);
    leads = set_back_leads z cells agreed AfterWrap k a (at (r + 1) 0);
    screen = same;
    attribute = refl;
  }

  rest_is_there : length cells ≡ z.lines * z.width → (k m : ℕ) → drop k cells ≡ replicate m (blank_cell 0x07)
      → k + m ≡ length cells → half z cells k ≡ half z cells (length cells)
  rest_is_there total k m blanks all =
      let le : z.lines * z.width ≤ (z.lines + 1) * z.width =
      mul-le z.lines z.width (z.lines + 1) z.width (omega arith) (omega arith) in
      (blanks_are_there z cells m k [] (blanks ∙ sym (append-nil (replicate m (blank_cell 0x07)))) (omega arith)).same
      ∙ ap (λ (j : ℕ). half z cells j) all

  all_lines : length cells ≡ z.lines * z.width → (r n : ℕ) → r + n ≡ z.lines
      → r * z.width + n * z.width ≡ length cells
  all_lines total r n lines = sym (add-mul r n z.width) ∙ ap (λ (j : ℕ). j * z.width) lines ∙ sym total

  all_blank : length cells ≡ z.lines * z.width → (n r a : ℕ) (rest : List Cell) → IsAtRow z cells agreed n r a rest
      → rest ≡ replicate (n * z.width) (blank_cell 0x07)
      → IsAllDrawn z cells agreed (stand z cells InSync (r * z.width) (at r 0) a) set_back
  all_blank total n r a rest h e =
      end_leads (r * z.width) r 0 a true
      (rest_is_there total (r * z.width) (n * z.width) (h.left ∙ e) (all_lines total r n h.rows_left))

  -- ---- a row
  cells_drawn : (n r a b : ℕ) (rest : List Cell) → 0 < z.width → IsByte b → IsAtRow z cells agreed (suc n) r a rest
      → IsRowDrawn z cells agreed r (stand z cells InSync (r * z.width) (at r 0) b)
      (drawn (pen b 0) (take z.width rest)) (pen_behind (pen b 0) (take z.width rest)) (drop z.width rest)
  cells_drawn n r a b rest some is_byte h =
      let row : List Cell = take z.width rest in
      let more : length rest ≡ z.width + n * z.width = h.count ∙ suc_rows n z.width in
      let width : length row ≡ z.width = simp length-take (omega arith) in
      let lines = h.rows_left in
      subst (λ (v : Stand). IsRowDrawn z cells agreed r v (drawn (pen b 0) row) (pen_behind (pen b 0) row)
      (drop z.width rest)) (place_is z cells agreed (r * z.width) r 0 b some)
      (row_leads z cells agreed row (pen b 0) (r * z.width) r 0 (drop z.width rest)
      (record {
        index_is = omega arith;
        row_stated = omega arith;
        whole = omega arith;
        left = h.left ∙ sym (take-append-drop z.width rest);
        shown = All-take (IsShownCell agreed) z.width rest h.shown;
        attribute = is_byte;
      }))

  -- n rows lead to the whole picture
  abbrev RowsLead : ℕ → Type 0
  RowsLead n = (r a : ℕ) (rest : List Cell) → IsAtRow z cells agreed n r a rest
      → IsAllDrawn z cells agreed (stand z cells InSync (r * z.width) (at r 0) a) (rows_drawn r a (rows z.width n rest))

  -- one row, and the others
  module _ (n r a : ℕ) (rest : List Cell) (some : 0 < z.width) (h : IsAtRow z cells agreed (suc n) r a rest) where
    abbrev row : List Cell
    row = take z.width rest

    abbrev below : List (List Cell)
    below = rows z.width n (drop z.width rest)

    row_width : length row ≡ z.width
    row_width =
        let more : length rest ≡ z.width + n * z.width = h.count ∙ suc_rows n z.width in
        simp length-take (omega arith)

    row_goes : (opens follows : Bool) → opens_below (not (are_blank below)) (are_some below) row ≡ opens
        → not (are_blank below) ≡ follows → (opens || follows) ≡ true → 0 < n
        → Leads z agreed (stand z cells InSync (r * z.width) (at r 0) a) (row_drawn opens follows r a row)
        (stand z cells InSync ((r + 1) * z.width) (at (r + 1) 0) (attribute_after_row opens follows a row))
    row_goes opens follows is_opened is_followed on more =
        let b : ℕ = at_row opens a in
        let p : RowPen = pen_behind (pen b 0) row in
        let full : (p.passed == 0) ≡ not (is_blank (last_cell row)) =
        full_of (pen b 0) row (omega (arith, row_width, some)) in
        let lines = h.rows_left in
        let one = cells_drawn n r a b rest some (at_row_byte opens a h.attribute) h in
        both_lead z agreed _ (stand z cells InSync (r * z.width) (at r 0) b) _ (before_row opens a)
        (drawn (pen b 0) row ++ after_row opens follows r p.attribute)
        (before_leads opens (r * z.width) r a h.attribute (λ e. omega arith))
        (both_lead z agreed _ (place z cells one.k r one.c p.attribute) _ (drawn (pen b 0) row)
        (after_row opens follows r p.attribute) one.leads
        (after_leads opens follows r p one.k one.c (drop z.width rest) some (record {
          index_is = one.index_is;
          whole = one.whole;
          left = one.left;
          attribute = one.attribute;
          row_below = omega arith;
          full = λ e. eqb-true p.passed 0 (full ∙ (and_parts (not (is_blank (last_cell row))) _ (is_opened ∙ e)).0);
          not_full = λ e. eqb-false p.passed 0 (full ∙ closed (not (is_blank (last_cell row)))
              (not (are_blank below)) _ (is_opened ∙ e) (is_followed ∙ or_right opens follows e on));
          some = on;
        })))

    behind_row : (opens follows : Bool)
        → IsAtRow z cells agreed n (r + 1) (attribute_after_row opens follows a row) (drop z.width rest)
    behind_row opens follows =
        let b : ℕ = at_row opens a in
        let one = cells_drawn n r a b rest some (at_row_byte opens a h.attribute) h in
        let more : length rest ≡ z.width + n * z.width = h.count ∙ suc_rows n z.width in
        let lines = h.rows_left in
        let sum : (r + 1) * z.width ≡ r * z.width + 1 * z.width = add-mul r 1 z.width in
        let single : 1 * z.width ≡ z.width = one-mul z.width in
        let next : (r + 1) * z.width ≡ r * z.width + z.width = omega arith in
        record {
          rows_left = omega arith;
          left = ap (λ (j : ℕ). drop j cells) next ∙ sym (drop-drop z.width (r * z.width) cells)
              ∙ ap (λ (v : List Cell). drop z.width v) h.left;
          count = simp length-drop (omega arith);
          shown = All-drop (IsShownCell agreed) z.width rest h.shown;
          attribute = below_row_byte opens follows _ one.attribute;
        }

    -- the last row
    last_row : length cells ≡ z.lines * z.width → are_blank below ≡ true
        → IsAllDrawn z cells agreed (stand z cells InSync (r * z.width) (at r 0) a)
        (row_drawn false false r a row ++ rows_drawn (r + 1) (attribute_after_row false false a row) below)
    last_row total blank =
        let p : RowPen = pen_behind (pen a 0) row in
        let one = cells_drawn n r a a rest some h.attribute h in
        let more : length rest ≡ z.width + n * z.width = h.count ∙ suc_rows n z.width in
        let back : length (drop z.width rest) ≡ n * z.width = simp length-drop (omega arith) in
        let blanks : drop one.k cells ≡ replicate (p.passed + n * z.width) (blank_cell 0x07) =
        one.left ∙ ap (λ (v : List Cell). replicate p.passed (blank_cell 0x07) ++ v)
        (rows_of_blanks z.width n (drop z.width rest) back blank)
        ∙ replicate-append-replicate p.passed (n * z.width) (blank_cell 0x07) in
        let lines = all_lines total (r + 1) n (omega (arith, h.rows_left)) in
        let next : one.k + p.passed ≡ (r + 1) * z.width = next_row one.k r one.c p.passed one.index_is one.whole in
        let all : one.k + (p.passed + n * z.width) ≡ length cells = omega (arith, lines, next) in
        subst (λ (xs : List Spelled). IsAllDrawn z cells agreed (stand z cells InSync (r * z.width) (at r 0) a) xs)
        (ap₂ (λ (xs ys : List Spelled). xs ++ ys) (sym (append-nil (drawn (pen a 0) row)))
        (sym (blank_ends (r + 1) p.attribute below blank)))
        (then_all _ (place z cells one.k r one.c p.attribute) (drawn (pen a 0) row) set_back one.leads
        (end_leads one.k r one.c p.attribute (nat_lt one.c z.width)
        (rest_is_there total one.k (p.passed + n * z.width) blanks all)))

    -- the row, and the others
    row_then_others : length cells ≡ z.lines * z.width → RowsLead n → (opens follows : Bool)
        → opens_below (not (are_blank below)) (are_some below) row ≡ opens → not (are_blank below) ≡ follows
        → IsAllDrawn z cells agreed (stand z cells InSync (r * z.width) (at r 0) a)
        (row_drawn opens follows r a row ++ rows_drawn (r + 1) (attribute_after_row opens follows a row) below)
    row_then_others total others true follows is_opened is_followed =
        then_all _ (stand z cells InSync ((r + 1) * z.width) (at (r + 1) 0) (attribute_after_row true follows a row))
        (row_drawn true follows r a row) (rows_drawn (r + 1) (attribute_after_row true follows a row) below)
        (row_goes true follows is_opened is_followed refl
        (opens_some z.width n (drop z.width rest) (not (is_blank (last_cell row)))
        (is_coloured (last_cell row).attribute) is_opened))
        (others (r + 1) (attribute_after_row true follows a row) (drop z.width rest) (behind_row true follows))
    row_then_others total others false true is_opened is_followed =
        then_all _ (stand z cells InSync ((r + 1) * z.width) (at (r + 1) 0) (attribute_after_row false true a row))
        (row_drawn false true r a row) (rows_drawn (r + 1) (attribute_after_row false true a row) below)
        (row_goes false true is_opened is_followed refl (follows_some z.width n (drop z.width rest) is_followed))
        (others (r + 1) (attribute_after_row false true a row) (drop z.width rest) (behind_row false true))
    row_then_others total others false false is_opened is_followed =
        last_row total (blank_of_not (are_blank below) is_followed)

    one_more_row : length cells ≡ z.lines * z.width → RowsLead n
        → IsAllDrawn z cells agreed (stand z cells InSync (r * z.width) (at r 0) a) (rows_drawn r a (row ∷ below))
    one_more_row total others = by_test (are_blank (row ∷ below)) refl
      where
        by_test : (t : Bool) → are_blank (row ∷ below) ≡ t
            → IsAllDrawn z cells agreed (stand z cells InSync (r * z.width) (at r 0) a)
            (if t then set_back
            else row_drawn (opens_below (not (are_blank below)) (are_some below) row) (not (are_blank below)) r a row
            ++ rows_drawn (r + 1)
            (attribute_after_row (opens_below (not (are_blank below)) (are_some below) row) (not (are_blank below)) a
            row) below)
        by_test true e = all_blank total (suc n) r a rest h (rows_of_blanks z.width (suc n) rest h.count e)
        by_test false e =
            row_then_others total others (opens_below (not (are_blank below)) (are_some below) row)
            (not (are_blank below)) refl refl

  no_rows : length cells ≡ z.lines * z.width → RowsLead 0
  no_rows total r a rest h =
      let none : 0 ≡ 0 * z.width = omega arith in
      all_blank total 0 r a rest h
      (nothing_left rest (h.count ∙ sym none) ∙ ap (λ (m : ℕ). replicate m (blank_cell 0x07)) none)

  rows_lead : length cells ≡ z.lines * z.width → 0 < z.width → (n : ℕ) → RowsLead n
  rows_lead total some zero = no_rows total
  rows_lead total some (suc n) = λ r a rest h. one_more_row n r a rest some h total (rows_lead total some n)

  -- ---- the picture
  pub picture_leads : length cells ≡ z.lines * z.width → 0 < z.width → All (IsShownCell agreed) cells
      → IsAllDrawn z cells agreed (stand z cells InSync (0 * z.width) (at 0 0) 0x07)
      (rows_drawn 0 0x07 (rows z.width z.lines cells))
  picture_leads total some shown =
      let none : 0 * z.width ≡ 0 = omega arith in
      rows_lead total some z.lines 0 0x07 cells (record {
        rows_left = omega arith;
        left = ap (λ (n : ℕ). drop n cells) none;
        count = total;
        shown = shown;
        attribute = omega arith;
      })
