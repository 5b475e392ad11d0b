-- What printed bytes do to a pen.
use Rattle.std.proofs.Common.{◌≡◌, ℕ, zero, suc, ◌+◌, ◌<◌, ◌≤◌, Bool, true, false, List, [], ◌∷◌, length, refl, sym, ap}
use Rattle.std.proofs.Common.{◌∙◌, arith, fold, replicate}
use Rattle.std.specs.Prelude.{nat_lt, ◌==◌, if◌then◌else◌}
use Rattle.std.proofs.lemmas.List.{replicate-append-replicate}
use Rattle.std.proofs.lemmas.List.Sums.{fold-append}
use Rattle.std.proofs.lemmas.Bool.{le-ltb, lt-ltb}
use Rattle.ans_model.specs.Bytes.{blank}
use Rattle.ans_model.specs.Screen.State.{Size, State, at}
use Rattle.ans_model.specs.Sequence.TokenKind.{Glyph}
use Rattle.ans_model.specs.Screen.Step.{advanced, line_feed, printed, put, step}
use Rattle.ans_pens.specs.Pens.{further, pen_of}
use Rattle.ans_pens.specs.declared.pen.Pen.{Pen}

-- in the last column, where wrap is on
pub wraps : (z : Size) (s : State) → z.width ≤ s.cursor.column + 1 → s.wrap ≡ true
    → advanced z s ≡ line_feed z (record s { cursor = at s.cursor.row 0 })
wraps z s last on = rw (le-ltb (s.cursor.column + 1) z.width last, on) refl

-- ---- before the last column
abbrev pub one_on : Size → State → ℕ → State
one_on z s byte = record (printed z s byte) { cursor = at s.cursor.row (s.cursor.column + 1) }

pub stays_in_row : (z : Size) (s : State) (byte : ℕ) → s.cursor.column + 1 < z.width → put z s byte ≡ one_on z s byte
stays_in_row z s byte lt = rw (lt-ltb (s.cursor.column + 1) z.width lt) refl

-- bytes before the last column
pub bytes_in_row : (bytes : List ℕ) (z : Size) (s : State) (n : ℕ) → length bytes ≡ n → s.cursor.column + n < z.width
    → pen_of (fold (put z) s bytes) ≡ record (pen_of s) { cursor = at s.cursor.row (s.cursor.column + n) }
bytes_in_row [] z s n long lt =
    let same : s.cursor.column ≡ s.cursor.column + n = omega (arith, long) in
    ap (λ (c : ℕ). record (pen_of s) { cursor = at s.cursor.row c }) same
bytes_in_row (b ∷ bytes) z s n long lt =
    let same : (s.cursor.column + 1) + length bytes ≡ s.cursor.column + n = omega (arith, long) in
    ap (λ (t : State). pen_of (fold (put z) t bytes)) (stays_in_row z s b (omega (arith, lt, long)))
    ∙ bytes_in_row bytes z (one_on z s b) (length bytes) refl (omega (arith, lt, long))
    ∙ ap (λ (c : ℕ). record (pen_of s) { cursor = at s.cursor.row c }) same

-- ---- one blank more is one more in the end
pub one_blank_last : (z : Size) (s : State) (n : ℕ)
    → put z (fold (put z) s (replicate n blank)) blank ≡ fold (put z) s (replicate (n + 1) blank)
one_blank_last z s n =
    sym (fold-append (put z) s (replicate n blank) (blank ∷ []))
    ∙ ap (λ (bytes : List ℕ). fold (put z) s bytes) (replicate-append-replicate n 1 blank)

-- ---- a printed byte takes the cursor to no higher row
either_lowers : (test : Bool) (row : ℕ) (s t : State) → row ≤ s.cursor.row → row ≤ t.cursor.row
    → row ≤ (if test then s else t).cursor.row
either_lowers true row s t h g = h
either_lowers false row s t h g = g

feed_lowers : (z : Size) (s : State) → s.cursor.row ≤ (line_feed z s).cursor.row
feed_lowers z s = either_lowers (s.cursor.row == z.lines) s.cursor.row _ _ (omega arith) (omega arith)

advance_lowers : (z : Size) (s : State) → s.cursor.row ≤ (advanced z s).cursor.row
advance_lowers z s =
    either_lowers (nat_lt (s.cursor.column + 1) z.width) s.cursor.row _ _ (omega arith)
    (either_lowers s.wrap s.cursor.row _ _ (feed_lowers z (record s { cursor = at s.cursor.row 0 })) (omega arith))

put_lowers : (z : Size) (s : State) (byte : ℕ) → s.cursor.row ≤ (put z s byte).cursor.row
put_lowers z s byte = advance_lowers z (printed z s byte)

-- so blanks do
blanks_lower : (z : Size) (s : State) (n : ℕ) → s.cursor.row ≤ (fold (put z) s (replicate n blank)).cursor.row
blanks_lower z s zero = omega arith
blanks_lower z s (suc n) = omega (arith, put_lowers z s blank, blanks_lower z (put z s blank) n)

pub more_blanks_lower : (z : Size) (s : State) (n m : ℕ) → n ≤ m
    → (fold (put z) s (replicate n blank)).cursor.row ≤ (fold (put z) s (replicate m blank)).cursor.row
more_blanks_lower z s zero m less = blanks_lower z s m
more_blanks_lower z s (suc n) zero less = absurd (omega (arith, less))
more_blanks_lower z s (suc n) (suc m) less = more_blanks_lower z (put z s blank) n m (omega (arith, less))

-- ---- a byte of a run that stays in its row
pub further_zero : (pen : Pen) → further pen 0 ≡ pen
further_zero pen =
    let same : pen.cursor.column + 0 ≡ pen.cursor.column = omega arith in
    ap (λ (c : ℕ). record pen { cursor = at pen.cursor.row c }) same

module _ (z : Size) (pen : Pen) (k b : ℕ) (stays : pen.cursor.column + suc k < z.width) (s : State)
    (here : further pen k ≡ pen_of s) where
  column_is : pen.cursor.column + k ≡ s.cursor.column
  column_is = ap (λ (p : Pen). p.cursor.column) here

  pub goes_on : step z s (Glyph b) ≡ one_on z s b
  goes_on = stays_in_row z s b (omega (arith, column_is, stays))

  pub byte_further : further pen (suc k) ≡ pen_of (step z s (Glyph b))
  byte_further =
      let one : pen.cursor.column + suc k ≡ (pen.cursor.column + k) + 1 = omega arith in
      ap (λ (c : ℕ). record pen { cursor = at pen.cursor.row c }) one
      ∙ ap (λ (p : Pen). record p { cursor = at p.cursor.row (p.cursor.column + 1) }) here ∙ sym (ap pen_of goes_on)
