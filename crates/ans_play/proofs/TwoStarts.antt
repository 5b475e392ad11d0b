-- What is known after clean tokens, and what the plays from the low and the high start show of a fault.
use Rattle.std.proofs.Common.{◌≡◌, ◌≢◌, ◌⊎◌, inl, inr, ℕ, zero, suc, ◌+◌, ◌*◌, ◌<◌, ◌≤◌, min, max, Bool, true, false}
use Rattle.std.proofs.Common.{List, [], ◌∷◌, ◌++◌, length, take, get_or, All, Option, Some, None, refl, sym, ap, ◌∙◌}
use Rattle.std.proofs.Common.{arith, subst}
use Rattle.std.specs.Prelude.{slice_get}
use Rattle.std.proofs.lemmas.Bool.{cases_eq}
use Rattle.std.proofs.lemmas.List.{take_more, take_all}
use Rattle.std.proofs.lemmas.List.Elements.{All-get_or}
use Rattle.std.proofs.lemmas.Option.{slice_get-get_or}
use Rattle.ans_model.specs.Sequence.TokenKind.{TokenKind, PrintsByte, Glyph, LineFeed, EraseLine, Bell, Tab}
use Rattle.ans_model.specs.declared.fault.Fault.{Fault}
use Rattle.ans_model.specs.declared.fault.Cause.{Cause}
use Rattle.ans_model.specs.declared.fault.Cause.TheVariants.{PrintBelow, Scrolls, PrintUnknownPlace, EraseUnknownPlace}
use Rattle.ans_model.specs.declared.fault.Cause.TheVariants.{MayScroll, UnknownCell}
use Rattle.ans_model.specs.declared.cell.Position.{Position}
use Rattle.ans_model.specs.Screen.State.{Size, IsStated, index, cell_at, IsWellFormed}
use Rattle.ans_model.specs.Screen.StartClass.{low_start, high_start}
use Rattle.ans_model.specs.declared.start.Start.{Start}
use Rattle.ans_model.specs.Screen.Step.{final}
use Rattle.ans_model.specs.Verdict.TokenFault.{HasFault, HasFaultAfter, PositionsDiffer, IsInSpareRow, FromSome}
use Rattle.ans_model.specs.Verdict.TokenFault.{IsClean, FromEvery, HasTabFault, then_blanks}
use Rattle.ans_model.specs.Verdict.FirstFault.{IsFirstFault, IsToBlame, IsRefused}
use Rattle.ans_model.specs.Verdict.LastFault.{IsLastFault, SameCell, CellsDiffer, IsFirstUnknown}
use Rattle.ans_model.specs.Verdict.Certain.{IsCertain}
use Rattle.ans_model.specs.Verdict.TwoStarts.{low_final, high_final, CursorsDiffer, OneIsInSpareRow, IsFirstDifference}
use Rattle.ans_model.specs.Verdict.TwoStarts.{TwoStartsShow, IsShownByTwoStarts, CursorsDifferInTab}
use Rattle.ans_model.specs.Sequence.Reads.{SpellsToken}
use Rattle.ans_model.proofs.StartLemmas.{low_is_start, high_is_start}
use Rattle.ans_model.proofs.OneCause.{static_is_certain}
use Rattle.ans_model.proofs.OneAnswer.{refused_certain}
use Rattle.ans_model.proofs.PositionLemmas.{index-lt_stated}
use Rattle.ans_model.proofs.Reading.{reads_bytes}
use Rattle.ans_model.proofs.CleanLemmas.{read_before_first, read_before_sequence, read_to_the_end}
use Rattle.ans_screen.specs.HalfCells.{is_known}
use Rattle.ans_screen.specs.declared.cell.HalfCell.{HalfCell}
use Rattle.ans_play.specs.Between.{IsBetween}
use Rattle.ans_play.specs.HalfStart.{half_start}
use Rattle.ans_play.specs.Hull.{hull}
use Rattle.ans_play.specs.HalfState.{HalfState, DescribesCell, DescribesPosition}
use Rattle.ans_play.specs.HalfStep.{half_step}
use Rattle.ans_play.specs.HalfFault.{half_fault}
use Rattle.ans_play.specs.Stands.{IsKnownAfter}
use Rattle.ans_play.proofs.Zips.{AllZip-length}
use Rattle.ans_play.proofs.KnownCells.{unknown_at, known_where_same}
use Rattle.ans_play.proofs.Clean.{clean_none, clean_more, clean_blanks, blanks_print}
use Rattle.ans_play.proofs.KnownAfter.{known_at_start}
use Rattle.ans_play.proofs.Positions.{positions_agree, one_position_if_same, all_in_spare_row, none_in_spare_row}
use Rattle.ans_play.proofs.FaultShown.{token_has_fault}
use Rattle.ans_play.proofs.NoFaultShown.{known_next, token_has_no_fault}
use Rattle.ans_play.proofs.Finishing.{same_where_known, no_cell}

-- ---- what is known after tokens, up to the first that has a fault
-- the first n tokens are clean, and this is known after them
pub record IsCleanTo (z : Size) (class : Start) (tokens : List TokenKind) (n : ℕ) : Type 0 where
  pub clean : IsClean z class (take n tokens)
  pub state : HalfState
  pub known : IsKnownAfter z class (take n tokens) state

-- the tokens before one are clean, and it has a fault
pub record HasFaultyToken (z : Size) (class : Start) (tokens : List TokenKind) : Type 0 where
  pub index : ℕ
  pub within : index < length tokens
  pub token : TokenKind
  pub cause : Cause
  pub here : slice_get tokens index ≡ Some token
  pub clean : IsClean z class (take index tokens)
  pub fault : HasFault z class (take index tokens) token cause

module _ (z : Size) (class : Start) (w : 0 < z.width) (tokens : List TokenKind) (prints : All PrintsByte tokens) where
  -- one more token is clean, or is the first that has a fault
  clean_to_one_more : (n : ℕ) → n < length tokens → (c : IsCleanTo z class tokens n) → (o : Option Cause) →
      half_fault z c.state (get_or tokens n Bell) ≡ o
      → IsCleanTo z class tokens (n + 1) ⊎ HasFaultyToken z class tokens
  clean_to_one_more n lt c None e =
      let t : TokenKind = get_or tokens n Bell in
      let more : take (n + 1) tokens ≡ take n tokens ++ t ∷ [] = take_more tokens n Bell lt in
      inl (record {
        clean = subst (λ (ts : List TokenKind). IsClean z class ts) (sym more)
            (clean_more z class (take n tokens) t c.clean
            (λ cause. token_has_no_fault z class (take n tokens) c.state w c.known t cause e));
        state = half_step z c.state t;
        known = subst (λ (ts : List TokenKind). IsKnownAfter z class ts (half_step z c.state t)) (sym more)
            (known_next z class (take n tokens) c.state w c.known t (All-get_or PrintsByte tokens n Bell lt prints) e);
      })
  clean_to_one_more n lt c (Some cause) e = inr (record {
    index = n;
    within = lt;
    token = get_or tokens n Bell;
    cause = cause;
    here = slice_get-get_or tokens n Bell lt;
    clean = c.clean;
    fault = token_has_fault z class (take n tokens) c.state w c.known (get_or tokens n Bell) cause e;
  })

  -- of the first n tokens
  clean_or_faulty_to : (n : ℕ) → n ≤ length tokens → IsCleanTo z class tokens n ⊎ HasFaultyToken z class tokens
  clean_or_faulty_to zero le = inl (record {
    clean = clean_none z class;
    state = half_start z class;
    known = known_at_start z class;
  })
  clean_or_faulty_to (suc n) le = elim (clean_or_faulty_to n (omega arith)) [
    | inl c ↦ subst (λ (m : ℕ). IsCleanTo z class tokens m ⊎ HasFaultyToken z class tokens) (omega arith)
        (clean_to_one_more n (omega arith) c (half_fault z c.state (get_or tokens n Bell)) refl)
    | inr b ↦ inr b
  ]

  -- tokens are clean, or one has a fault after clean ones
  pub clean_or_faulty : (IsClean z class tokens × ((h : HalfState) × IsKnownAfter z class tokens h))
      ⊎ HasFaultyToken z class tokens
  clean_or_faulty = elim (clean_or_faulty_to (length tokens) (omega arith)) [
    | inl c ↦
        let all : take (length tokens) tokens ≡ tokens = take_all (length tokens) tokens (omega arith) in
        inl (
          subst (λ (ts : List TokenKind). IsClean z class ts) all c.clean,
          (c.state, subst (λ (ts : List TokenKind). IsKnownAfter z class ts c.state) all c.known),
        )
    | inr b ↦ inr b
  ]

  -- after clean tokens a state is known
  pub known_after_clean : IsClean z class tokens → (h : HalfState) × IsKnownAfter z class tokens h
  known_after_clean clean = elim clean_or_faulty [
    | inl c ↦ c.1
    | inr b ↦ absurd (clean b.index b.cause (b.token, b.here, b.fault))
  ]

-- ---- what the two plays tell
module _ (z : Size) (class : Start) (w : 0 < z.width) (tokens : List TokenKind) (prints : All PrintsByte tokens)
    (clean : IsClean z class tokens) where
  -- from every start the cursor stands between the two
  pub cursor_between : FromEvery z class (λ s. IsBetween (low_final z class tokens).cursor
      (high_final z class tokens).cursor (final z s tokens).cursor)
  cursor_between s start =
      let known = known_after_clean z class w tokens prints clean in
      let within : DescribesPosition (hull (low_final z class tokens) (high_final z class tokens)).cursor
      (final z s tokens).cursor = rw known.1.is_hull at (known.1.describes s start).cursor in
      record {
        row_from = within.low_row;
        row_to = within.high_row;
        column_from = within.low_column;
        column_to = within.high_column;
      }

  -- a cell in which the two agree is the same from every start
  pub same_where_agreed : (p : Position) → IsStated z p →
      cell_at z (low_final z class tokens).screen p ≡ cell_at z (high_final z class tokens).screen p →
      SameCell z class tokens p
  same_where_agreed p stated same =
      let known = known_after_clean z class w tokens prints clean in
      let fits = (known.1.well_formed (low_start z class) (low_is_start z class w)).fits in
      let within : index z p < length (low_final z class tokens).screen =
      omega (arith, index-lt_stated z p stated, fits.cells) in
      let cell = known_where_same (low_final z class tokens).screen (high_final z class tokens).screen
      (index z p) within same in
      same_where_known z class tokens known.0 w known.1 p (index z p) cell.0 refl
      (ap (λ (h : HalfState). slice_get h.screen (index z p)) known.1.is_hull ∙ cell.1) cell.2

-- ---- what the two plays show
certain_shows : (z : Size) (class : Start) (tokens : List TokenKind) (rest : List ℕ) (c : Cause) → IsCertain c →
    TwoStartsShow z class tokens rest c
certain_shows z class tokens rest PrintUnknownPlace h = absurd h
certain_shows z class tokens rest EraseUnknownPlace h = absurd h
certain_shows z class tokens rest MayScroll h = absurd h
certain_shows z class tokens rest (UnknownCell row column) h = absurd h
certain_shows z class tokens rest _ h = tt

module _ (z : Size) (class : Start) (tokens : List TokenKind) (w : 0 < z.width) (h : HalfState)
    (st : IsKnownAfter z class tokens h) where
  low_well : IsWellFormed z (low_final z class tokens)
  low_well = st.well_formed (low_start z class) (low_is_start z class w)

  high_well : IsWellFormed z (high_final z class tokens)
  high_well = st.well_formed (high_start z class) (high_is_start z class w)

  -- where positions differ, those of the extreme plays do
  cursors_differ : PositionsDiffer z class tokens → CursorsDiffer z class tokens
  cursors_differ d e =
      d.4 (positions_agree z class tokens h st (one_position_if_same z class tokens h st e) d.0 d.1 d.2 d.3)

  -- where some play is in the spare row and some is not, exactly one extreme play is
  one_in_spare_row : FromSome z class (IsInSpareRow z tokens) → FromSome z class (λ s. ¬ IsInSpareRow z tokens s) →
      OneIsInSpareRow z class tokens
  one_in_spare_row some other =
      let top : h.cursor.high.row ≡ max (low_final z class tokens).cursor.row (high_final z class tokens).cursor.row =
      ap (λ (k : HalfState). k.cursor.high.row) st.is_hull in
      let bottom : h.cursor.low.row ≡ min (low_final z class tokens).cursor.row (high_final z class tokens).cursor.row =
      ap (λ (k : HalfState). k.cursor.low.row) st.is_hull in
      elim (cases_eq (low_final z class tokens).cursor.row z.lines) [
        | inl low ↦ elim (cases_eq (high_final z class tokens).cursor.row z.lines) [
          | inl high ↦ absurd (other.2 (all_in_spare_row z class tokens h w st (omega arith) other.0 other.1))
          | inr high ↦ inl (low, high)
        ]
        | inr low ↦ elim (cases_eq (high_final z class tokens).cursor.row z.lines) [
          | inl high ↦ inr (low, high)
          | inr high ↦ absurd (none_in_spare_row z class tokens h w st
              (omega (arith, low_well.fits.cursor.0, high_well.fits.cursor.0)) some.0 some.1 some.2)
        ]
      ]

  -- a fault that depends on the start is shown; that of a tab at one of its blanks
  shown_after : (t : TokenKind) (c : Cause) (rest : List ℕ) →
      (t ≡ Tab → HasTabFault z class tokens c → TwoStartsShow z class tokens rest c) →
      HasFaultAfter z class tokens t c → TwoStartsShow z class tokens rest c
  shown_after (Glyph byte) PrintUnknownPlace rest tab f = inl (cursors_differ f)
  shown_after (Glyph byte) PrintBelow rest tab f = tt
  shown_after Tab c rest tab f = tab refl f
  shown_after EraseLine EraseUnknownPlace rest tab f = cursors_differ f
  shown_after LineFeed Scrolls rest tab f = tt
  shown_after LineFeed MayScroll rest tab f = one_in_spare_row f.0 f.1
  shown_after _ _ rest tab f = absurd f

  -- each fault is shown
  shown_fault : (t : TokenKind) (c : Cause) (rest : List ℕ) →
      (t ≡ Tab → HasTabFault z class tokens c → TwoStartsShow z class tokens rest c) → HasFault z class tokens t c →
      TwoStartsShow z class tokens rest c
  shown_fault t c rest tab (inl f) = certain_shows z class tokens rest c (static_is_certain z t c f)
  shown_fault t c rest tab (inr f) = shown_after t c rest tab f

  cell_count_is : length h.screen ≡ (z.lines + 1) * z.width
  cell_count_is =
      AllZip-length DescribesCell h.screen (low_final z class tokens).screen
      (st.describes (low_start z class) (low_is_start z class w)).screen
      ∙ low_well.fits.cells

  -- a cell that differs is not known
  this_cell_differs : (p : Position) (c : HalfCell) (b : Bool) → slice_get h.screen (index z p) ≡ Some c →
      is_known c ≡ b → CellsDiffer z class tokens p
      → cell_at z (low_final z class tokens).screen p ≢ cell_at z (high_final z class tokens).screen p
  this_cell_differs p c true here known d e =
      d.4 (same_where_known z class tokens h w st p (index z p) c refl here known d.0 d.1 d.2 d.3)
  this_cell_differs p c false here unknown d e =
      unknown_at (low_final z class tokens).screen (high_final z class tokens).screen (index z p) c
      (sym (ap (λ (g : HalfState). slice_get g.screen (index z p)) st.is_hull) ∙ here) unknown e

  -- a cell that differs between two starts differs between these two
  cells_differ : (p : Position) → IsStated z p → CellsDiffer z class tokens p →
      cell_at z (low_final z class tokens).screen p ≢ cell_at z (high_final z class tokens).screen p
  cells_differ p stated d =
      let here = slice_get-get_or h.screen (index z p) no_cell
      (omega (arith, index-lt_stated z p stated, cell_count_is)) in
      this_cell_differs p (get_or h.screen (index z p) no_cell)
      (is_known (get_or h.screen (index z p) no_cell)) here refl d

  -- the first cell that differs is the first that differs between the extreme plays
  first_difference : (p : Position) → IsFirstUnknown z class tokens p →
      IsFirstDifference z class tokens (p.row + 1) (p.column + 1)
  first_difference p first = record {
    position = p;
    stated = first.stated;
    row_is = refl;
    column_is = refl;
    differs = cells_differ p first.stated first.differs;
    earlier = λ q stated before. first.earlier q stated before (low_start z class) (high_start z class)
        (low_is_start z class w) (high_is_start z class w);
  }

-- ---- a tab
module _ (z : Size) (class : Start) (w : 0 < z.width) (tokens : List TokenKind) (prints : All PrintsByte tokens)
    (clean : IsClean z class tokens) where
  -- before the blank that decides its fault the cursors of the extreme plays differ
  differ_in_tab : (text later : List ℕ) → SpellsToken Tab text → HasTabFault z class tokens PrintUnknownPlace →
      CursorsDifferInTab z class tokens (text ++ later)
  differ_in_tab text later spelled f =
      let n : ℕ = f.blanks_before in
      let known = known_after_clean z class w (then_blanks tokens n) (blanks_print tokens n prints)
      (clean_blanks z class n tokens clean f.earlier) in
      record {
        text = text;
        later = later;
        follows = refl;
        is_tab = spelled;
        fault = f;
        differ = cursors_differ z class (then_blanks tokens n) w known.0 known.1 f.fault;
      }

  -- what the two plays show of a tab's fault
  shown_tab : (c : Cause) (text later : List ℕ) → SpellsToken Tab text → HasTabFault z class tokens c →
      TwoStartsShow z class tokens (text ++ later) c
  shown_tab PrintUnknownPlace text later spelled f = inr (differ_in_tab text later spelled f)
  shown_tab PrintBelow text later spelled f = tt
  shown_tab _ text later spelled f = absurd f.fault

-- ---- of bytes
module _ (z : Size) (class : Start) (bytes : List ℕ) (fault : Fault) where
  -- a first fault is shown
  blame_shown : (h : IsFirstFault z class bytes fault) → IsToBlame z class h.tokens h.text fault.cause
      ⊎ IsRefused h.text fault.cause → TwoStartsShow z class h.tokens (h.text ++ h.rest) fault.cause
  blame_shown h (inl b) =
      let known = known_after_clean z class h.size.some_columns h.tokens
      (reads_bytes h.front h.tokens h.reads) h.clean in
      shown_fault z class h.tokens h.size.some_columns known.0 known.1 b.token fault.cause (h.text ++ h.rest)
      (λ is_tab f. shown_tab z class h.size.some_columns h.tokens (reads_bytes h.front h.tokens h.reads) h.clean
      fault.cause h.text h.rest (rw is_tab at b.spelled) f) b.fault
  blame_shown h (inr r) = certain_shows z class h.tokens (h.text ++ h.rest) fault.cause
      (refused_certain h.text fault.cause r)

  -- of the first fault the two plays show the cause
  pub first_shown : IsFirstFault z class bytes fault → IsShownByTwoStarts z class bytes fault
  first_shown h = record {
    tokens = h.tokens;
    rest = h.text ++ h.rest;
    read = read_before_first z class bytes fault h;
    shown = blame_shown h h.faulty;
  }

  -- and of the last
  pub last_shown : IsLastFault z class bytes fault → IsShownByTwoStarts z class bytes fault
  last_shown (inl h) = record {
    tokens = h.tokens;
    rest = h.text;
    read = read_before_sequence z class bytes fault h;
    shown = rw h.fault_is tt;
  }
  last_shown (inr h) =
      let known = known_after_clean z class h.size.some_columns h.tokens (reads_bytes bytes h.tokens h.reads) h.clean in
      record {
        tokens = h.tokens;
        rest = [];
        read = read_to_the_end z class bytes fault h;
        shown = rw h.fault_is
            (first_difference z class h.tokens h.size.some_columns known.0 known.1 h.position h.first);
      }
