-- The rows of a picture, as they are given.
use Rattle.std.proofs.Common.{◌≡◌, inl, inr, ℕ, zero, suc, ◌+◌, ◌-◌, ◌*◌, ◌<◌, ◌≤◌, Bool, true, false, ◌&&◌, not, refl}
use Rattle.std.proofs.Common.{ap, ap₂, sym, ◌∙◌, arith, List, [], ◌∷◌, ◌++◌, length, drop, get_or, append_assoc}
use Rattle.std.proofs.Common.{subst, codes, add-mul, one-mul}
use Rattle.std.specs.Prelude.{nat_lt, ◌||◌}
use Rattle.std.specs.Fmt.{digits}
use Rattle.std.specs.List.{list_all}
use Rattle.std.specs.Simd.Lanes.{zip2}
use Rattle.std.proofs.lemmas.Bool.{and_right, cases_lt, lt-ltb, le-ltb}
use Rattle.std.proofs.lemmas.List.{drop_more, drop_all, length-take, length-drop, length-map, get_or-drop}
use Rattle.std.proofs.lemmas.Nat.{mul-le}
use Rattle.std.proofs.lemmas.Simd.{get_or-zip2}
use Rattle.ans_model.specs.Bytes.{escape}
use Rattle.ans_model.specs.declared.cell.Cell.{Cell}
use Rattle.ans_model.specs.Screen.State.{cell}
use Rattle.ans_model.specs.Screen.Step.{blank_cell}
use Rattle.ans_model.specs.Text.ReportText.{rows_of}
use Rattle.ans_model.specs.Verdict.Good.{Picture, IsPictureOf}
use Rattle.ans_players.specs.Situations.{Spelled}
use Rattle.ans_players.specs.Mends.{mending_spelled}
use Rattle.ans_play.specs.Shown.{attributes_of_row, bytes_of_row, cells_of_row}
use Rattle.ans_play.proofs.PictureRows.{row_at, within_rows, length-rows}
use Rattle.ans_write.proofs.RowTexts.{cells_zipped}
use Rattle.ans_redraw.specs.Form.{are_blank, are_some, is_blank, last_cell, opens_below, row_drawn, attribute_after_row}
use Rattle.ans_redraw.specs.declared.pen.RowPen.{RowPen}
use Rattle.ans_redraw.specs.Form.{pen, pen_behind, drawn, is_coloured, at_row, below_row, before_row, after_row}
use Rattle.ans_redraw.specs.Form.{rows_drawn, texts, form_bytes}
use Rattle.ans_redraw.proofs.WayTexts.{texts_both}

-- ---- the rows of a picture
-- one row more
pub suc_rows : (n w : ℕ) → suc n * w ≡ w + n * w
suc_rows n w =
    let one : suc n ≡ n + 1 = omega arith in
    let e : (n + 1) * w ≡ n * w + 1 * w = add-mul n 1 w in
    let f : 1 * w ≡ w = one-mul w in
    ap (λ (m : ℕ). m * w) one ∙ omega (arith, e, f)

-- ---- the last cell
zipped_length : (bytes attributes : List ℕ) → length attributes ≡ length bytes
    → length (zip2 cell bytes attributes) ≡ length bytes
zipped_length [] [] same = refl
zipped_length [] (a ∷ attributes) same = refl
zipped_length (b ∷ bytes) [] same = absurd (let no : ⊥ = omega arith in no)
zipped_length (b ∷ bytes) (a ∷ attributes) same =
    ap (λ (n : ℕ). suc n) (zipped_length bytes attributes (omega arith))

-- that of a row, by its bytes and its attributes
pub last_zipped : (bytes attributes : List ℕ) (width : ℕ) → length bytes ≡ width → length attributes ≡ width
    → 0 < width
    → cell (get_or bytes (width - 1) 0) (get_or attributes (width - 1) 0) ≡ last_cell (zip2 cell bytes attributes)
last_zipped bytes attributes width is_bytes is_attributes some =
    let long : length (zip2 cell bytes attributes) ≡ length bytes =
    zipped_length bytes attributes (is_attributes ∙ sym is_bytes) in
    let index : width - 1 ≡ length (zip2 cell bytes attributes) - 1 = omega arith in
    sym (get_or-zip2 cell bytes attributes (width - 1) 0 0 (blank_cell 0x07) (omega arith) (omega arith))
    ∙ ap (λ (i : ℕ). get_or (zip2 cell bytes attributes) i (blank_cell 0x07)) index

-- the row, and those below it
pub rows_from : (p : Picture) (i : ℕ) → i < p.size.lines
    → drop i (rows_of p) ≡ cells_of_row p i ∷ drop (i + 1) (rows_of p)
rows_from p i lt =
    drop_more (rows_of p) i [] (within_rows p i lt)
    ∙ ap (λ (row : List Cell). row ∷ drop (i + 1) (rows_of p)) (row_at p i lt)

pub no_rows_below : (p : Picture) → are_blank (drop p.size.lines (rows_of p)) ≡ true
no_rows_below p =
    ap are_blank (drop_all p.size.lines (rows_of p) (omega (arith, length-rows p.size.width p.size.lines p.cells)))

-- a row's bytes and attributes are its cells
pub row_zipped : (p : Picture) (i : ℕ) (bytes attributes : List ℕ) → bytes ≡ bytes_of_row p i
    → attributes ≡ attributes_of_row p i → zip2 cell bytes attributes ≡ cells_of_row p i
row_zipped p i bytes attributes is_bytes is_attributes =
    ap₂ (λ (x y : List ℕ). zip2 cell x y) is_bytes is_attributes ∙ cells_zipped (cells_of_row p i)

-- a row is as long as the picture is wide
row_long : (p : Picture) (i : ℕ) → IsPictureOf p.size p → i < p.size.lines
    → length (cells_of_row p i) ≡ p.size.width
row_long p i whole lt =
    let w : ℕ = p.size.width in
    let sum : suc i * w ≡ w + i * w = suc_rows i w in
    let le : suc i * w ≤ p.size.lines * w = mul-le (suc i) w p.size.lines w (omega arith) (omega arith) in
    simp (length-take, length-drop) (omega (arith, whole.count))

pub bytes_long : (p : Picture) (i : ℕ) (bytes : List ℕ) → IsPictureOf p.size p → i < p.size.lines
    → bytes ≡ bytes_of_row p i → length bytes ≡ p.size.width
bytes_long p i bytes whole lt is =
    ap length is ∙ length-map (cells_of_row p i) (λ (c : Cell). c.byte) ∙ row_long p i whole lt

pub attributes_long : (p : Picture) (i : ℕ) (attributes : List ℕ) → IsPictureOf p.size p → i < p.size.lines
    → attributes ≡ attributes_of_row p i → length attributes ≡ p.size.width
attributes_long p i attributes whole lt is =
    ap length is ∙ length-map (cells_of_row p i) (λ (c : Cell). c.attribute) ∙ row_long p i whole lt

-- ---- blank rows
pub blank_from : (p : Picture) (i : ℕ) → i < p.size.lines → list_all is_blank (cells_of_row p i) ≡ true
    → are_blank (drop (i + 1) (rows_of p)) ≡ true → are_blank (drop i (rows_of p)) ≡ true
blank_from p i lt here below = ap are_blank (rows_from p i lt) ∙ rw (here, below) refl

-- rows of which one is not blank
one_is_not : (rs : List (List Cell)) (j : ℕ) → j < length rs → list_all is_blank (get_or rs j []) ≡ false
    → are_blank rs ≡ false
one_is_not [] j lt h = absurd (let no : ⊥ = omega arith in no)
one_is_not (row ∷ rs) zero lt h = rw h refl
one_is_not (row ∷ rs) (suc j) lt h =
    ap (λ (t : Bool). list_all is_blank row && t) (one_is_not rs j (omega arith) h)
    ∙ and_right (list_all is_blank row) false refl

pub not_blank_from : (p : Picture) (i j : ℕ) → i ≤ j → j < p.size.lines
    → list_all is_blank (cells_of_row p j) ≡ false → are_blank (drop i (rows_of p)) ≡ false
not_blank_from p i j le lt h =
    one_is_not (drop i (rows_of p)) (j - i)
    (omega (arith, length-drop i (rows_of p), within_rows p j lt))
    (ap (λ (row : List Cell). list_all is_blank row)
    (get_or-drop i (rows_of p) (j - i) [] ∙ ap (λ (n : ℕ). get_or (rows_of p) n []) there ∙ row_at p j lt)
    ∙ h)
  where
    there : i + (j - i) ≡ j
    there = omega arith

-- ---- what is given
-- rows are drawn below row i exactly if it is not the last of those that are
pub follows_is : (p : Picture) (i end : ℕ) → i < end → end ≤ p.size.lines
    → are_blank (drop end (rows_of p)) ≡ true → list_all is_blank (cells_of_row p (end - 1)) ≡ false
    → nat_lt (i + 1) end ≡ not (are_blank (drop (i + 1) (rows_of p)))
follows_is p i end lt le behind before = elim (cases_lt (i + 1) end) [
  | inl more ↦ lt-ltb (i + 1) end more
      ∙ ap (λ (t : Bool). not t) (sym (not_blank_from p (i + 1) (end - 1) (omega arith) (omega arith) before))
  | inr last ↦
      let same : i + 1 ≡ end = omega arith in
      le-ltb (i + 1) end last
      ∙ ap (λ (t : Bool). not t) (sym (ap (λ (n : ℕ). are_blank (drop n (rows_of p))) same ∙ behind))
]

pub there_is : (p : Picture) (i : ℕ) → nat_lt (i + 1) p.size.lines ≡ are_some (drop (i + 1) (rows_of p))
there_is p i = elim (cases_lt (i + 1) p.size.lines) [
  | inl more ↦ lt-ltb (i + 1) p.size.lines more ∙ ap are_some (sym (rows_from p (i + 1) more))
  | inr last ↦ le-ltb (i + 1) p.size.lines last
      ∙ ap are_some (sym (drop_all (i + 1) (rows_of p)
      (omega (arith, length-rows p.size.width p.size.lines p.cells))))
]

-- whether a row opens the one below, by the last of its bytes and of its attributes
pub opens_is : (p : Picture) (i : ℕ) (bytes attributes : List ℕ) (width : ℕ) (follows is_there opens : Bool)
    → zip2 cell bytes attributes ≡ cells_of_row p i → length bytes ≡ width → length attributes ≡ width → 0 < width
    → opens
    ≡ (not (is_blank (cell (get_or bytes (width - 1) 0) (get_or attributes (width - 1) 0)))
    && (follows || is_coloured (get_or attributes (width - 1) 0) && is_there))
    → opens ≡ opens_below follows is_there (cells_of_row p i)
opens_is p i bytes attributes width follows is_there opens is is_bytes is_attributes some e =
    e ∙ ap (λ (c : Cell). not (is_blank c) && (follows || is_coloured c.attribute && is_there))
    (last_zipped bytes attributes width is_bytes is_attributes some ∙ ap last_cell is)

-- a row, with what stands before and after it: its attributes and its cells go by other names
module _ (opens follows : Bool) (i a b e : ℕ) (row cells : List Cell) (is_b : b ≡ at_row opens a)
    (is_row : cells ≡ row) (is_e : e ≡ (pen_behind (pen b 0) cells).attribute) where
  pub row_given : texts (before_row opens a) ++ (texts (drawn (pen b 0) cells) ++ texts (after_row opens follows i e))
      ≡ texts (row_drawn opens follows i a row)
  row_given =
      let p : RowPen = pen (at_row opens a) 0 in
      let before : List Spelled = before_row opens a in
      let after : List Spelled = after_row opens follows i (pen_behind p row).attribute in
      ap (λ (v : ℕ). texts before ++ (texts (drawn (pen b 0) cells) ++ texts (after_row opens follows i v))) is_e
      ∙ ap (λ (v : ℕ). texts before ++ (texts (drawn (pen v 0) cells)
      ++ texts (after_row opens follows i (pen_behind (pen v 0) cells).attribute))) is_b
      ∙ ap (λ (v : List Cell). texts before ++ (texts (drawn p v)
      ++ texts (after_row opens follows i (pen_behind p v).attribute))) is_row
      ∙ ap (λ (v : List ℕ). texts before ++ v) (sym (texts_both (drawn p row) after))
      ∙ sym (texts_both before (drawn p row ++ after))

pub attribute_given : (opens follows : Bool) (a b e : ℕ) (row cells : List Cell) → b ≡ at_row opens a → cells ≡ row
    → e ≡ (pen_behind (pen b 0) cells).attribute
    → below_row opens follows e ≡ attribute_after_row opens follows a row
attribute_given opens follows a b e row cells is_b is_row is_e =
    ap (below_row opens follows) (is_e ∙ ap (λ (v : ℕ). (pen_behind (pen v 0) cells).attribute) is_b
    ∙ ap (λ (v : List Cell). (pen_behind (pen (at_row opens a) 0) v).attribute) is_row)

-- the mending, and all rows
pub begins : (picture : Picture)
    → texts mending_spelled ++ texts (rows_drawn 0 0x07 (rows_of picture)) ≡ form_bytes picture
begins picture = sym (texts_both mending_spelled (rows_drawn 0 0x07 (rows_of picture)))

-- one row more
pub goes_on : (picture : Picture) (i a b : ℕ) (follows is_there : Bool) (sent : List ℕ) → i < picture.size.lines
    → are_blank (drop i (rows_of picture)) ≡ false
    → follows ≡ not (are_blank (drop (i + 1) (rows_of picture)))
    → is_there ≡ are_some (drop (i + 1) (rows_of picture))
    → b ≡ attribute_after_row (opens_below follows is_there (cells_of_row picture i)) follows a (cells_of_row picture i)
    → sent ++ texts (rows_drawn i a (drop i (rows_of picture))) ≡ form_bytes picture
    → (sent ++ texts (row_drawn (opens_below follows is_there (cells_of_row picture i)) follows i a
    (cells_of_row picture i)))
    ++ texts (rows_drawn (i + 1) b (drop (i + 1) (rows_of picture)))
    ≡ form_bytes picture
goes_on picture i a b follows is_there sent lt some is_followed is_below is_behind so_far =
    let row : List Cell = cells_of_row picture i in
    let below : List (List Cell) = drop (i + 1) (rows_of picture) in
    let f : Bool = not (are_blank below) in
    let t : Bool = are_some below in
    let here : List Spelled = row_drawn (opens_below f t row) f i a row in
    let more : List Spelled = rows_drawn (i + 1) (attribute_after_row (opens_below f t row) f a row) below in
    let is : are_blank (row ∷ below) ≡ false = ap are_blank (sym (rows_from picture i lt)) ∙ some in
    let drawn_here : rows_drawn i a (row ∷ below) ≡ here ++ more = rw is refl in
    ap (λ (v : ℕ). (sent ++ texts (row_drawn (opens_below follows is_there row) follows i a row))
    ++ texts (rows_drawn (i + 1) v below)) is_behind
    ∙ ap₂ (λ (u v : Bool). (sent ++ texts (row_drawn (opens_below u v row) u i a row))
    ++ texts (rows_drawn (i + 1) (attribute_after_row (opens_below u v row) u a row) below)) is_followed is_below
    ∙ append_assoc sent (texts here) (texts more)
    ∙ ap (λ (v : List ℕ). sent ++ v)
    (sym (texts_both here more) ∙ ap texts (sym drawn_here ∙ ap (rows_drawn i a) (sym (rows_from picture i lt))))
    ∙ so_far

-- below the last row that is drawn, the end
pub ends : (i a : ℕ) (rs : List (List Cell)) → are_blank rs ≡ true → texts (rows_drawn i a rs) ≡ escape ∷ codes "[0m"
unfolding digits
ends i a [] h = refl
ends i a (row ∷ rs) h = rw h refl

-- the bytes are taken by another name
pub takes_same : {S : Type 0} (takes : S → S → List ℕ → Type 0) {a b : S} {x y : List ℕ} → x ≡ y → takes a b x
    → takes a b y
takes_same takes {a} {b} same h = subst (λ (v : List ℕ). takes a b v) same h
