-- A run of blanks from one position of the stated lines: one filling is what they print one by one.
use Rattle.std.proofs.Common.{◌≡◌, ℕ, zero, suc, ◌+◌, ◌-◌, ◌*◌, ◌/◌, ◌%◌, ◌<◌, ◌≤◌, min, refl, sym, ap, ◌∙◌, arith, inl}
use Rattle.std.proofs.Common.{inr, List, length, set, All, Some, None, lit<, Bool, true, false, add-mul, one-mul}
use Rattle.std.specs.Prelude.{nat_lt, if◌then◌else◌, ◌≢◌}
use Rattle.std.proofs.lemmas.Bool.{cases_lt, lt-ltb, le-ltb, eq-eqb, ne_eqb, ltb-true, ltb-false}
use Rattle.std.proofs.lemmas.List.{length-set}
use Rattle.std.proofs.Math.Seq.{set-set}
use Rattle.std.proofs.lemmas.Nat.{div-mul-add, mod-mul-add, mul-le}
use Rattle.ans_model.specs.Bytes.{IsByte, blank}
use Rattle.ans_model.specs.Screen.State.{Size, at, index, cell_count}
use Rattle.ans_model.specs.Screen.Step.{filled, next_row_start, tab_blanks}
use Rattle.ans_model.specs.Sequence.TokenKind.{Tab}
use Rattle.ans_model.specs.declared.cell.Position.{Position}
use Rattle.ans_model.proofs.CleanLemmas.{some_blanks}
use Rattle.ans_model.specs.declared.fault.Cause.{Cause}
use Rattle.ans_model.specs.declared.fault.Cause.TheVariants.{PrintBelow, PrintUnknownPlace}
use Rattle.ans_screen.specs.KnownBits.{KnownBits}
use Rattle.ans_screen.specs.declared.cell.HalfCell.{HalfCell}
use Rattle.ans_play.specs.declared.span.Span.{Span}
use Rattle.ans_play.specs.declared.wrap.WrapMode.{WrapMode}
use Rattle.ans_play.specs.declared.wrap.WrapMode.TheVariants.{On, Off, Unknown}
use Rattle.ans_play.specs.HalfState.{HalfState, half_state, span, one_position, IsSpanOnScreen}
use Rattle.ans_play.specs.HalfStep.{half_blank, half_put, half_blanks, half_step, after_print, after_last_column}
use Rattle.ans_play.specs.HalfFault.{half_print_fault, half_blanks_fault, half_fault, is_one_position}
use Rattle.ans_play.specs.HalfBlanks.{fault_of_blanks, end_of_blanks, after_blanks}
use Rattle.ans_play.specs.PlayView.{IsByteHalfCell}
use Rattle.ans_play.proofs.Positions.{one_position_if}
use Rattle.ans_model.proofs.FilledLemmas.{All-filled, filled_none, filled_from_set}
use Rattle.ans_screen.proofs.Places.{filled_one}

-- ---- cells
-- the others, where the first is set
filled_from : {A : Type 0} (xs : List A) (i end : ℕ) (c : A) → i < length xs → i + 1 ≤ end →
    filled (set xs i c) (i + 1) end c ≡ filled xs i end c
filled_from xs i end c lt le =
    let next : suc i ≡ i + 1 = omega arith in
    rw next at (filled_from_set xs i end c lt (omega arith))

-- what is known of filled cells are bytes
pub filled_bytes : (old : List HalfCell) {new : List HalfCell} (i end : ℕ) {attribute : KnownBits} {c : HalfCell} →
    new ≡ filled old i end c → c ≡ half_blank attribute → IsByte attribute.value → All IsByteHalfCell old →
    All IsByteHalfCell new
filled_bytes old i end {c = c} is e byte bytes =
    rw is (All-filled IsByteHalfCell old i end c (rw e (lit< tt, byte)) bytes)

-- ---- one blank
-- a state with the cursor at one position
abbrev here : List HalfCell → ℕ → ℕ → Span → KnownBits → WrapMode → HalfState
here screen row column saved attribute wrap = half_state screen (one_position row column) saved attribute wrap

module _ (z : Size) (saved : Span) (attribute : KnownBits) where
  none_shown : (screen : List HalfCell) (row column : ℕ) (wrap : WrapMode) → row < z.lines →
      half_print_fault z (here screen row column saved attribute wrap) ≡ None
  none_shown screen row column wrap above =
      let ne : row ≢ z.lines = λ e. omega arith in
      rw (eq-eqb row row refl, eq-eqb column column refl, ne_eqb row z.lines ne) refl

  below_shown : (screen : List HalfCell) (row column : ℕ) (wrap : WrapMode) → row ≡ z.lines →
      half_print_fault z (here screen row column saved attribute wrap) ≡ Some PrintBelow
  below_shown screen row column wrap bottom =
      rw (eq-eqb row row refl, eq-eqb column column refl, eq-eqb row z.lines bottom) refl

  -- where the first blank has no fault, the fault is that of the others
  others : (h : HalfState) {next : HalfState} (n : ℕ) → half_print_fault z h ≡ None → half_put z h blank ≡ next →
      half_blanks_fault z h (suc n) ≡ half_blanks_fault z next n
  others h n none put = rw none (ap (λ (k : HalfState). half_blanks_fault z k n) put)

  -- where it has one, it is the fault
  first : (h : HalfState) (n : ℕ) (c : Cause) → half_print_fault z h ≡ Some c →
      half_blanks_fault z h (suc n) ≡ Some c
  first h n c some = rw some refl

  -- a blank before the last column
  put_on : (screen : List HalfCell) (row column : ℕ) (wrap : WrapMode) → column + 1 < z.width →
      half_put z (here screen row column saved attribute wrap) blank
      ≡ here (set screen (index z (at row column)) (half_blank attribute)) row (column + 1) saved attribute wrap
  put_on screen row column wrap more = rw (lt-ltb (column + 1) z.width more) refl

  -- a blank in the last column
  put_last : (screen : List HalfCell) (row column : ℕ) (wrap : WrapMode) → z.width ≤ column + 1 →
      half_put z (here screen row column saved attribute wrap) blank
      ≡ half_state (set screen (index z (at row column)) (half_blank attribute))
      (after_last_column z wrap (at row column)) saved attribute wrap
  put_last screen row column wrap last = rw (le-ltb (column + 1) z.width last) refl

  -- ---- n blanks, one after the other
  -- none has a fault, and the cells up to an end are filled
  abbrev Filled : List HalfCell → ℕ → ℕ → WrapMode → ℕ → ℕ → Span → Type 0
  Filled screen row column wrap n end cursor =
      (half_blanks_fault z (here screen row column saved attribute wrap) n ≡ None)
      × (half_blanks z (here screen row column saved attribute wrap) n
      ≡ half_state (filled screen (index z (at row column)) end (half_blank attribute)) cursor saved attribute wrap)

  same_filled : (screen : List HalfCell) (row column n end end2 : ℕ) (wrap : WrapMode) (cursor cursor2 : Span) →
      end ≡ end2 → cursor ≡ cursor2 → Filled screen row column wrap n end cursor →
      Filled screen row column wrap n end2 cursor2
  same_filled screen row column n end end2 wrap cursor cursor2 e c f = rw (← e, ← c) f

  -- one blank, and then the others
  one_more : (screen : List HalfCell) (row column next_row next_column n end : ℕ) (wrap : WrapMode) (cursor : Span) →
      row < z.lines → index z (at row column) < length screen →
      index z (at next_row next_column) ≡ index z (at row column) + 1 →
      index z (at row column) + 1 ≤ end →
      half_put z (here screen row column saved attribute wrap) blank
      ≡ here (set screen (index z (at row column)) (half_blank attribute)) next_row next_column saved attribute wrap →
      Filled (set screen (index z (at row column)) (half_blank attribute)) next_row next_column wrap n end cursor →
      Filled screen row column wrap (suc n) end cursor
  one_more screen row column next_row next_column n end wrap cursor above within next le put f =
      let i : ℕ = index z (at row column) in
      let b : HalfCell = half_blank attribute in (
        others _ n (none_shown screen row column wrap above) put ∙ f.0,
        ap (λ (h : HalfState). half_blanks z h n) put ∙ f.1
            ∙ ap (λ (cells : List HalfCell). half_state cells cursor saved attribute wrap)
            (ap (λ (j : ℕ). filled (set screen i b) j end b) next ∙ filled_from screen i end b within le),
      )

  -- no blank
  no_blank : (screen : List HalfCell) (row column : ℕ) (wrap : WrapMode) →
      Filled screen row column wrap 0 (index z (at row column)) (one_position row column)
  no_blank screen row column wrap = (
    refl,
    ap (λ (cells : List HalfCell). here cells row column saved attribute wrap)
        (sym (filled_none screen (index z (at row column)) (half_blank attribute))),
  )

  -- the index after the last column is that of the next row's first
  next_row : (row column : ℕ) → column + 1 ≡ z.width → index z (at (row + 1) 0) ≡ index z (at row column) + 1
  next_row row column last = omega (arith, add-mul row 1 z.width, one-mul z.width)

  -- a position of the stated lines has an index below that of the spare row
  stated_index : (row column : ℕ) → row < z.lines → column < z.width → index z (at row column) < z.lines * z.width
  stated_index row column above within =
      let rows : (row + 1) * z.width ≤ z.lines * z.width =
      mul-le (row + 1) z.width z.lines z.width (omega arith) (omega arith) in
      omega (arith, add-mul row 1 z.width, one-mul z.width, rows)

  -- and the screen has a cell there
  cell_there : (screen : List HalfCell) (row column : ℕ) → row < z.lines → column < z.width →
      length screen ≡ cell_count z → index z (at row column) < length screen
  cell_there screen row column above within cells =
      omega (arith, cells, stated_index row column above within, add-mul z.lines 1 z.width, one-mul z.width)

  set_cells : (screen : List HalfCell) (i : ℕ) → length screen ≡ cell_count z →
      length (set screen i (half_blank attribute)) ≡ cell_count z
  set_cells screen i cells = length-set screen i (half_blank attribute) ∙ cells

  -- ---- wrap is on
  row_is_stated : (row column n : ℕ) → index z (at row column) + suc n ≤ z.lines * z.width → row < z.lines
  row_is_stated row column n room = elim (cases_lt row z.lines) [
    | inl above ↦ above
    | inr below ↦ absurd (omega (arith, mul-le z.lines z.width row z.width below (omega arith)))
  ]

  -- the position of an index
  position_on : (row column n : ℕ) → column < z.width → n ≡ index z (at row column) →
      one_position row column ≡ one_position (n / z.width) (n % z.width)
  position_on row column n within e =
      rw (e, div-mul-add row z.width column within, mod-mul-add row z.width column within) refl

  filled_on : (n : ℕ) (screen : List HalfCell) (row column : ℕ) → column < z.width → length screen ≡ cell_count z →
      index z (at row column) + n ≤ z.lines * z.width →
      Filled screen row column On n (index z (at row column) + n)
      (one_position ((index z (at row column) + n) / z.width) ((index z (at row column) + n) % z.width))
  filled_on zero screen row column within cells room =
      let end : index z (at row column) ≡ index z (at row column) + 0 = omega arith in
      same_filled screen row column 0 _ _ On _ _ end (position_on row column _ within (sym end))
      (no_blank screen row column On)
  filled_on (suc n) screen row column within cells room =
      let i : ℕ = index z (at row column) in
      let above : row < z.lines = row_is_stated row column n room in
      let there : i < length screen = cell_there screen row column above within cells in
      elim (cases_lt (column + 1) z.width) [
        | inl more ↦
            let end : index z (at row (column + 1)) + n ≡ i + suc n = omega arith in
            one_more screen row column row (column + 1) n (i + suc n) On _ above there (omega arith) (omega arith)
            (put_on screen row column On more)
            (rw end at (filled_on n (set screen i (half_blank attribute)) row (column + 1) more
            (set_cells screen i cells) (omega arith)))
        | inr last ↦
            let next : index z (at (row + 1) 0) ≡ i + 1 = next_row row column (omega arith) in
            let end : index z (at (row + 1) 0) + n ≡ i + suc n = omega (arith, next) in
            one_more screen row column (row + 1) 0 n (i + suc n) On _ above there next (omega arith)
            (put_last screen row column On last)
            (rw end at (filled_on n (set screen i (half_blank attribute)) (row + 1) 0 (omega arith)
            (set_cells screen i cells) (omega (arith, next, room))))
      ]

  -- where they do not fit, one is printed below the stated lines
  fault_on : (n : ℕ) (screen : List HalfCell) (row column : ℕ) → row < z.lines → column < z.width →
      z.lines * z.width < index z (at row column) + n →
      half_blanks_fault z (here screen row column saved attribute On) n ≡ Some PrintBelow
  fault_on zero screen row column above within over =
      absurd (let lt = stated_index row column above within in let no : ⊥ = omega (arith, lt) in no)
  fault_on (suc n) screen row column above within over =
      let i : ℕ = index z (at row column) in
      elim (cases_lt (column + 1) z.width) [
        | inl more ↦ others _ n (none_shown screen row column On above) (put_on screen row column On more)
            ∙ fault_on n (set screen i (half_blank attribute)) row (column + 1) above more (omega arith)
        | inr last ↦
            let next : index z (at (row + 1) 0) ≡ i + 1 = next_row row column (omega arith) in
            others _ n (none_shown screen row column On above) (put_last screen row column On last)
            ∙ elim (cases_lt (row + 1) z.lines) [
              | inl stated ↦ fault_on n (set screen i (half_blank attribute)) (row + 1) 0 stated (omega arith)
                  (omega (arith, next, over))
              | inr spare ↦ in_spare_row n (set screen i (half_blank attribute)) (row + 1) (omega arith)
                  (omega (arith, next, over))
            ]
      ]
    where
      in_spare_row : (n : ℕ) (screen : List HalfCell) (row : ℕ) → row ≡ z.lines →
          z.lines * z.width < index z (at row 0) + n →
          half_blanks_fault z (here screen row 0 saved attribute On) n ≡ Some PrintBelow
      in_spare_row zero screen row bottom over =
          absurd (let rows = ap (λ (r : ℕ). r * z.width) bottom in let no : ⊥ = omega (arith, rows) in no)
      in_spare_row (suc n) screen row bottom over =
          first (here screen row 0 saved attribute On) n PrintBelow (below_shown screen row 0 On bottom)

  -- ---- wrap is off
  -- in the last column the cursor stays
  stays : (n : ℕ) (screen : List HalfCell) (row column : ℕ) → row < z.lines → z.width ≤ column + 1 →
      (half_blanks_fault z (here (set screen (index z (at row column)) (half_blank attribute)) row column saved
      attribute Off) n ≡ None)
      × (half_blanks z (here (set screen (index z (at row column)) (half_blank attribute)) row column saved attribute
      Off) n
      ≡ here (set screen (index z (at row column)) (half_blank attribute)) row column saved attribute Off)
  stays zero screen row column above last = (refl, refl)
  stays (suc n) screen row column above last =
      let i : ℕ = index z (at row column) in
      let cells : List HalfCell = set screen i (half_blank attribute) in
      let put : half_put z (here cells row column saved attribute Off) blank
      ≡ here cells row column saved attribute Off =
      put_last cells row column Off last
      ∙ ap (λ (xs : List HalfCell). here xs row column saved attribute Off)
      (set-set screen i (half_blank attribute) (half_blank attribute)) in
      let later = stays n screen row column above last in (
        others _ n (none_shown cells row column Off above) put ∙ later.0,
        ap (λ (h : HalfState). half_blanks z h n) put ∙ later.1,
      )

  filled_off : (n : ℕ) (screen : List HalfCell) (row column : ℕ) → row < z.lines → column < z.width →
      length screen ≡ cell_count z →
      Filled screen row column Off n (min (index z (at row column) + n) (next_row_start z (at row column)))
      (one_position row (min (column + n) (z.width - 1)))
  filled_off zero screen row column above within cells =
      same_filled screen row column 0 _ _ Off _ _
      (omega (arith, add-mul row 1 z.width, one-mul z.width))
      (ap (λ (c : ℕ). one_position row c) (omega arith))
      (no_blank screen row column Off)
  filled_off (suc n) screen row column above within cells =
      let i : ℕ = index z (at row column) in
      let there : i < length screen = cell_there screen row column above within cells in
      let row_end : next_row_start z (at row column) ≡ row * z.width + z.width =
      add-mul row 1 z.width ∙ ap (λ (k : ℕ). row * z.width + k) (one-mul z.width) in
      elim (cases_lt (column + 1) z.width) [
        | inl more ↦
            same_filled screen row column (suc n) _ _ Off _ _
            (omega arith) (ap (λ (c : ℕ). one_position row c) (omega arith))
            (one_more screen row column row (column + 1) n _ Off _ above there (omega arith) (omega (arith, row_end))
            (put_on screen row column Off more)
            (filled_off n (set screen i (half_blank attribute)) row (column + 1) above more (set_cells screen i cells)))
        | inr last ↦
            let later = stays n screen row column above last in
            same_filled screen row column (suc n) (i + 1) _ Off (one_position row column) _
            (omega (arith, row_end)) (ap (λ (c : ℕ). one_position row c) (omega arith)) (
              others _ n (none_shown screen row column Off above) (put_last screen row column Off last) ∙ later.0,
              ap (λ (h : HalfState). half_blanks z h n) (put_last screen row column Off last) ∙ later.1
                  ∙ ap (λ (xs : List HalfCell). here xs row column saved attribute Off)
                  (sym (filled_one screen i (half_blank attribute) there)),
            )
      ]

  -- ---- wrap is unknown
  filled_unknown : (n : ℕ) (screen : List HalfCell) (row column : ℕ) → row < z.lines → column + suc n ≤ z.width →
      length screen ≡ cell_count z →
      Filled screen row column Unknown (suc n) (index z (at row column) + suc n)
      (after_print z Unknown (at row (column + n)))
  filled_unknown zero screen row column above room cells =
      let i : ℕ = index z (at row column) in
      let there : i < length screen = cell_there screen row column above (omega arith) cells in
      let same : column ≡ column + 0 = omega arith in (
        others (here screen row column saved attribute Unknown) 0 (none_shown screen row column Unknown above) refl,
        rw (← same) (ap (λ (xs : List HalfCell).
            half_state xs (after_print z Unknown (at row column)) saved attribute Unknown)
            (sym (filled_one screen i (half_blank attribute) there))),
      )
  filled_unknown (suc n) screen row column above room cells =
      let i : ℕ = index z (at row column) in
      let there : i < length screen = cell_there screen row column above (omega arith) cells in
      same_filled screen row column (suc (suc n)) _ _ Unknown _ _
      (omega arith) (ap (λ (c : ℕ). after_print z Unknown (at row c)) (omega arith))
      (one_more screen row column row (column + 1) (suc n) _ Unknown _ above there (omega arith) (omega arith)
      (put_on screen row column Unknown (omega arith))
      (filled_unknown n (set screen i (half_blank attribute)) row (column + 1) above (omega arith)
      (set_cells screen i cells)))

  -- where the row has ended, one is printed at an unknown position
  fault_unknown : (n : ℕ) (screen : List HalfCell) (row column : ℕ) → row < z.lines → column < z.width →
      z.width < column + n →
      half_blanks_fault z (here screen row column saved attribute Unknown) n ≡ Some PrintUnknownPlace
  fault_unknown zero screen row column above within over = absurd (let no : ⊥ = omega arith in no)
  fault_unknown (suc n) screen row column above within over =
      let i : ℕ = index z (at row column) in
      elim (cases_lt (column + 1) z.width) [
        | inl more ↦ others _ n (none_shown screen row column Unknown above) (put_on screen row column Unknown more)
            ∙ fault_unknown n (set screen i (half_blank attribute)) row (column + 1) above more (omega arith)
        | inr last ↦ others _ n (none_shown screen row column Unknown above) (put_last screen row column Unknown last)
            ∙ in_two_rows n (set screen i (half_blank attribute)) row (omega arith)
      ]
    where
      in_two_rows : (n : ℕ) (screen : List HalfCell) (row : ℕ) → 0 < n →
          half_blanks_fault z
          (half_state screen (span (at row 0) (at (row + 1) (z.width - 1))) saved attribute Unknown) n
          ≡ Some PrintUnknownPlace
      in_two_rows zero screen row some = absurd (let no : ⊥ = omega arith in no)
      in_two_rows (suc n) screen row some =
          let ne : row ≢ row + 1 = λ e. omega arith in
          first (half_state screen (span (at row 0) (at (row + 1) (z.width - 1))) saved attribute Unknown) n
          PrintUnknownPlace (rw (ne_eqb row (row + 1) ne) refl)

  -- ---- in each mode
  pub blanks_filled : (screen : List HalfCell) (row column n : ℕ) (wrap : WrapMode) → row < z.lines →
      column < z.width → 1 ≤ n → length screen ≡ cell_count z → fault_of_blanks z wrap (at row column) n ≡ None →
      Filled screen row column wrap n (end_of_blanks z wrap (at row column) n) (after_blanks z wrap (at row column) n)
  blanks_filled screen row column n On above within some cells none =
      filled_on n screen row column within cells
      (fits (nat_lt (z.lines * z.width) (index z (at row column) + n)) refl none)
    where
      fits : (b : Bool) → nat_lt (z.lines * z.width) (index z (at row column) + n) ≡ b →
          (if b then Some PrintBelow else None) ≡ None → index z (at row column) + n ≤ z.lines * z.width
      fits true e none = absurd (cc)
      fits false e none = ltb-false (z.lines * z.width) (index z (at row column) + n) e
  blanks_filled screen row column n Off above within some cells none = filled_off n screen row column above within cells
  blanks_filled screen row column n Unknown above within some cells none = unknown n some none
    where
      fits : (n : ℕ) (b : Bool) → nat_lt z.width (column + n) ≡ b →
          (if b then Some PrintUnknownPlace else None) ≡ None → column + n ≤ z.width
      fits n true e none = absurd (cc)
      fits n false e none = ltb-false z.width (column + n) e

      unknown : (n : ℕ) → 1 ≤ n → fault_of_blanks z Unknown (at row column) n ≡ None →
          Filled screen row column Unknown n (end_of_blanks z Unknown (at row column) n)
          (after_blanks z Unknown (at row column) n)
      unknown zero some none = absurd (let no : ⊥ = omega arith in no)
      unknown (suc n) some none =
          same_filled screen row column (suc n) _ _ Unknown _ _ refl
          (ap (λ (c : ℕ). after_print z Unknown (at row c)) (omega arith))
          (filled_unknown n screen row column above
          (fits (suc n) (nat_lt z.width (column + suc n)) refl none) cells)

  pub blanks_faulty : (screen : List HalfCell) (row column n : ℕ) (wrap : WrapMode) (cause : Cause) → row < z.lines →
      column < z.width → fault_of_blanks z wrap (at row column) n ≡ Some cause →
      half_blanks_fault z (here screen row column saved attribute wrap) n ≡ Some cause
  blanks_faulty screen row column n On cause above within some =
      over (nat_lt (z.lines * z.width) (index z (at row column) + n)) refl some
    where
      over : (b : Bool) → nat_lt (z.lines * z.width) (index z (at row column) + n) ≡ b →
          (if b then Some PrintBelow else None) ≡ Some cause →
          half_blanks_fault z (here screen row column saved attribute On) n ≡ Some cause
      over true e found = fault_on n screen row column above within
          (ltb-true (z.lines * z.width) (index z (at row column) + n) e) ∙ found
      over false e found = absurd (cc)
  blanks_faulty screen row column n Off cause above within some = absurd (cc)
  blanks_faulty screen row column n Unknown cause above within some =
      over (nat_lt z.width (column + n)) refl some
    where
      over : (b : Bool) → nat_lt z.width (column + n) ≡ b →
          (if b then Some PrintUnknownPlace else None) ≡ Some cause →
          half_blanks_fault z (here screen row column saved attribute Unknown) n ≡ Some cause
      over true e found = fault_unknown n screen row column above within (ltb-true z.width (column + n) e) ∙ found
      over false e found = absurd (cc)

-- ---- a tab
-- where the first of some blanks is refused, they are
first_of_some : (z : Size) (h : HalfState) (n : ℕ) (cause : Cause) → 0 < n → half_print_fault z h ≡ Some cause →
    half_blanks_fault z h n ≡ Some cause
first_of_some z h zero cause some shown = absurd (let no : ⊥ = omega arith in no)
first_of_some z h (suc n) cause some shown = rw shown refl

-- where a blank is refused, a tab is
pub tab_refused_as_print : (z : Size) (h : HalfState) (cause : Cause) → half_print_fault z h ≡ Some cause →
    half_fault z h Tab ≡ Some cause
tab_refused_as_print z h cause shown =
    first_of_some z h (tab_blanks h.cursor.low.column) cause (some_blanks h.cursor.low.column) shown

pub same_run : (xs ys : List HalfCell) (c d saved : Span) (attribute : KnownBits) (wrap : WrapMode) → xs ≡ ys → c ≡ d →
    half_state xs c saved attribute wrap ≡ half_state ys d saved attribute wrap
same_run xs ys c d saved attribute wrap e f = cc

-- where the cursor stands at one position of the stated lines
record IsAtTab (z : Size) (cursor : Span) : Type 0 where
  one : cursor ≡ one_position cursor.low.row cursor.low.column
  above : cursor.low.row < z.lines
  within : cursor.low.column < z.width

at_tab : (z : Size) (cursor : Span) → IsSpanOnScreen z cursor → is_one_position cursor ≡ true →
    cursor.low.row ≢ z.lines → IsAtTab z cursor
at_tab z cursor on one ne =
    let same : cursor.low ≡ cursor.high = one_position_if cursor one in
    record {
      one = ap (λ (p : Position). span cursor.low p) (sym same);
      above = omega (arith, on.rows, on.on_screen.0);
      within = omega (arith, on.columns, on.on_screen.1);
    }

module _ (z : Size) (screen : List HalfCell) (cursor saved : Span) (attribute : KnownBits) (wrap : WrapMode)
    (on : IsSpanOnScreen z cursor) (one : is_one_position cursor ≡ true) (ne : cursor.low.row ≢ z.lines) where
  -- the blanks of a tab show the fault of the run
  pub tab_is_refused : (cause : Cause) →
      fault_of_blanks z wrap cursor.low (tab_blanks cursor.low.column) ≡ Some cause →
      half_fault z (half_state screen cursor saved attribute wrap) Tab ≡ Some cause
  tab_is_refused cause some =
      let t : IsAtTab z cursor = at_tab z cursor on one ne in
      ap (λ (c : Span). half_blanks_fault z (half_state screen c saved attribute wrap) (tab_blanks cursor.low.column))
      t.one
      ∙ blanks_faulty z saved attribute screen cursor.low.row cursor.low.column (tab_blanks cursor.low.column) wrap
      cause t.above t.within some

  -- where it has none, they are the run
  pub tab_is_played : length screen ≡ cell_count z →
      fault_of_blanks z wrap cursor.low (tab_blanks cursor.low.column) ≡ None →
      (half_fault z (half_state screen cursor saved attribute wrap) Tab ≡ None)
      × (half_step z (half_state screen cursor saved attribute wrap) Tab
      ≡ half_state (filled screen (index z cursor.low) (end_of_blanks z wrap cursor.low (tab_blanks cursor.low.column))
      (half_blank attribute)) (after_blanks z wrap cursor.low (tab_blanks cursor.low.column)) saved attribute wrap)
  tab_is_played cells none =
      let t : IsAtTab z cursor = at_tab z cursor on one ne in
      let run = blanks_filled z saved attribute screen cursor.low.row cursor.low.column
      (tab_blanks cursor.low.column) wrap t.above t.within (some_blanks cursor.low.column) cells none in (
        ap (λ (c : Span). half_blanks_fault z (half_state screen c saved attribute wrap)
            (tab_blanks cursor.low.column)) t.one ∙ run.0,
        ap (λ (c : Span). half_blanks z (half_state screen c saved attribute wrap) (tab_blanks cursor.low.column)) t.one
            ∙ run.1,
      )
