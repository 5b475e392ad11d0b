-- Content whose moves are free plays on a taller screen as on the stated one.
use Rattle.std.proofs.Common.{◌≡◌, inl, inr, ℕ, zero, suc, ◌+◌, ◌*◌, ◌<◌, ◌≤◌, Bool, true, false, List, []}
use Rattle.std.proofs.Common.{◌∷◌, ◌++◌, length, take, replicate, fold, refl, ap, sym, subst, ◌∙◌, Some, arith}
use Rattle.std.proofs.lemmas.Bool.{cases_lt}
use Rattle.std.proofs.lemmas.List.{length-take-le, take-replicate, take_all}
use Rattle.std.proofs.lemmas.List.Elements.{All-take}
use Rattle.std.proofs.lemmas.List.Sums.{fold-append}
use Rattle.std.proofs.lemmas.Nat.{mul-le}
use Rattle.std.proofs.lemmas.Option.{slice_get_within, slice_get-get_or}
use Rattle.std.proofs.Math.Seq.{take-suc}
use Rattle.std.specs.Prelude.{IsTrue, get_or, if◌then◌else◌, min, slice_get}
use Rattle.ans_model.specs.declared.cell.Position.{Position}
use Rattle.ans_model.specs.declared.fault.Cause.{Cause}
use Rattle.ans_model.specs.declared.fault.Cause.TheVariants.{OutsideScreen}
use Rattle.ans_model.specs.declared.start.Start.{Start}
use Rattle.ans_model.specs.Sequence.TokenKind.{TokenKind, Glyph, Bell, LineFeed, Tab, Up, Down, Place, EraseLine}
use Rattle.ans_model.specs.Screen.State.{Size, State, FitsScreen, IsByteCell, IsOnScreen, IsSize, IsStated, at}
use Rattle.ans_model.specs.Screen.State.{cell_at, cell_count, index}
use Rattle.ans_model.specs.Bytes.{blank}
use Rattle.ans_model.specs.Screen.Step.{blank_cell, final, put, step}
use Rattle.ans_model.specs.Screen.StartClass.{Covers, IsStart, all_known}
use Rattle.ans_model.specs.Verdict.Good.{PlaysWell, PrintsWell}
use Rattle.ans_model.specs.Verdict.TokenFault.{FromSome, HasStaticFault, IsInSpareRow, SamePosition, TabGoesOn}
use Rattle.ans_model.specs.Verdict.TokenFault.{then_blanks}
use Rattle.ans_model.proofs.ClassLemmas.{covers_all_known, covers_itself}
use Rattle.ans_model.proofs.PositionLemmas.{index-lt_stated}
use Rattle.ans_model.proofs.Reading.{one_reading}
use Rattle.ans_model.proofs.Slices.{slice_get-take}
use Rattle.ans_model.proofs.TabLemmas.{final_then_blanks}
use Rattle.ans_model.proofs.WellFormed.{fits_after_tokens}
use Rattle.ans_pens.specs.Taller.{MovesFreely}
use Rattle.ans_play_laws.specs.TallerLaws.{TallerShowsTheSame}
use Rattle.ans_play_laws.proofs.TallerSteps.{tall, AreAlike, AreAlikeStates, IsRoomFor, alike_blanks, alike_step}
use Rattle.ans_play_laws.proofs.TallerSteps.{one_where_same_row}

-- ---- the starts that a start of a taller screen is compared with
module _ (z : Size) where
  -- the same column, and no row below the spare row
  abbrev pub clamped : Position → Position
  clamped p = at (min p.row z.lines) p.column

  -- where a position is not known, it stands in this row
  abbrev pub row_if : Bool → ℕ → Position → Position
  row_if known row p = if known then p else at row p.column

  -- the first cells of a start, and its cursors as far as the screen goes, in this row where they are not known
  abbrev pub in_row : Start → ℕ → State → State
  in_row known row t = record t {
    screen = take (cell_count z) t.screen;
    cursor = row_if known.cursor row (clamped t.cursor);
    saved = row_if known.saved row (clamped t.saved);
  }

module _ (z : Size) (size : IsSize z) (lines : ℕ) (taller : z.lines ≤ lines) (class : Start) where
  abbrev pub large : Size
  large = tall z lines taller size.some_columns size.some_lines

  cells_le : cell_count z ≤ cell_count large
  cells_le = mul-le (z.lines + 1) z.width (lines + 1) z.width (omega arith) (omega arith)

  home_clamped : (p : Position) → p ≡ at 0 0 → clamped z p ≡ at 0 0
  home_clamped p e = rw e (ap (λ (r : ℕ). at r 0) (omega arith))

  clamped_on : (p : Position) → IsOnScreen large p → IsOnScreen z (clamped z p)
  clamped_on p on = (omega arith, on.1)

  row_if_on : (known : Bool) (row : ℕ) (p : Position) → row ≤ z.lines → IsOnScreen z p
      → IsOnScreen z (row_if z known row p)
  row_if_on true row p le on = on
  row_if_on false row p le on = (le, on.1)

  row_if_known : (known : Bool) (row : ℕ) (p home : Position) → IsTrue known → p ≡ home → row_if z known row p ≡ home
  row_if_known true row p home k e = e
  row_if_known false row p home k e = absurd (cc)

  in_row_is_start : (known : Start) (row : ℕ) (t : State) → row ≤ z.lines → Covers class known → IsStart large class t
      → IsStart z class (in_row z known row t)
  in_row_is_start known row t le covers h = record {
    well_formed = record {
      fits = record {
        cells = length-take-le (cell_count z) t.screen (rw h.well_formed.fits.cells cells_le);
        cursor = row_if_on known.cursor row (clamped z t.cursor) le (clamped_on t.cursor h.well_formed.fits.cursor);
        saved = row_if_on known.saved row (clamped z t.saved) le (clamped_on t.saved h.well_formed.fits.saved);
      };
      bytes = All-take IsByteCell (cell_count z) t.screen h.well_formed.bytes;
      attribute = h.well_formed.attribute;
    };
    screen = λ k. rw (h.screen k) (take-replicate (cell_count z) (cell_count large) (blank_cell 0x07) cells_le);
    cursor = λ k. row_if_known known.cursor row (clamped z t.cursor) (at 0 0) (covers.cursor k)
        (home_clamped t.cursor (h.cursor k));
    saved = λ k. row_if_known known.saved row (clamped z t.saved) (at 0 0) (covers.saved k)
        (home_clamped t.saved (h.saved k));
    attribute = h.attribute;
    wrap = h.wrap;
  }

  -- the three starts: with the row that the taller screen's start has, the first row, and the spare row
  abbrev pub middle_of : State → State
  middle_of t = in_row z all_known 0 t

  abbrev pub low_of : State → State
  low_of t = in_row z class 0 t

  abbrev pub high_of : State → State
  high_of t = in_row z class z.lines t

  alike_at_first : (known : Bool) (p : Position) → (IsTrue known → p ≡ at 0 0)
      → AreAlike z lines taller size.some_columns size.some_lines p (clamped z p) (row_if z known 0 (clamped z p))
      (row_if z known z.lines (clamped z p))
  alike_at_first true p e =
      let there : p ≡ clamped z p = e refl ∙ sym (home_clamped p (e refl)) in
      inl (there, refl, refl, omega arith)
  alike_at_first false p e = inr (refl, refl, refl, refl, refl)

  -- after the same tokens from all four they are alike
  abbrev pub IsAlikeAfter : List TokenKind → State → Type 0
  IsAlikeAfter played t =
      AreAlikeStates z lines taller size.some_columns size.some_lines (final large t played)
      (final z (middle_of t) played) (final z (low_of t) played) (final z (high_of t) played)

  alike_starts : (t : State) → IsStart large class t → IsAlikeAfter [] t
  alike_starts t h = record {
    cursor = alike_at_first class.cursor t.cursor h.cursor;
    saved = alike_at_first class.saved t.saved h.saved;
    wrap = (refl, refl, refl);
    attribute = refl;
    screen = λ k lt. sym (slice_get-take (cell_count z) t.screen k (omega (arith, lt, lines_are_cells)));
  }
    where
      lines_are_cells : z.lines * z.width ≤ cell_count z
      lines_are_cells = mul-le z.lines z.width (z.lines + 1) z.width (omega arith) (omega arith)

  -- ---- the plays
  module _ (tokens : List TokenKind) (plays : PlaysWell z class tokens) (free : MovesFreely z class tokens) where
    middle_is_start : (t : State) → IsStart large class t → IsStart z class (middle_of t)
    middle_is_start t h = in_row_is_start all_known 0 t (omega arith) (covers_all_known class) h

    low_is_one : (t : State) → IsStart large class t → IsStart z class (low_of t)
    low_is_one t h = in_row_is_start class 0 t (omega arith) (covers_itself class) h

    high_is_one : (t : State) → IsStart large class t → IsStart z class (high_of t)
    high_is_one t h = in_row_is_start class z.lines t (omega arith) (covers_itself class) h

    fits_here : (s : State) (played : List TokenKind) → IsStart z class s → FitsScreen z (final z s played)
    fits_here s played h = fits_after_tokens z s played size.some_columns h.well_formed.fits

    fits_there : (t : State) (played : List TokenKind) → IsStart large class t → FitsScreen large (final large t played)
    fits_there t played h = fits_after_tokens large t played size.some_columns h.well_formed.fits

    -- where a byte is printed well, there is room for it from each of the three starts
    room_to_print : (t : State) (played : List TokenKind) → IsStart large class t → PrintsWell z class played
        → ((final z (middle_of t) played).cursor.row < z.lines)
        × ((final z (low_of t) played).cursor.row ≡ (final z (high_of t) played).cursor.row)
    room_to_print t played h well =
        let on = (fits_here (middle_of t) played (middle_is_start t h)).cursor.0 in
        let not_below = well.never_below (middle_of t) (middle_is_start t h) in (
          omega (arith, on, not_below),
          ap (λ (p : Position). p.row)
              (well.at_one_position (low_of t) (high_of t) (low_is_one t h) (high_is_one t h)),
        )

    room_in_tab : (t : State) (k i : ℕ) → IsStart large class t → slice_get tokens k ≡ Some Tab
        → FromSome z class (TabGoesOn z (take k tokens) i)
        → ((fold (put z) (final z (middle_of t) (take k tokens)) (replicate i blank)).cursor.row < z.lines)
        × ((fold (put z) (final z (low_of t) (take k tokens)) (replicate i blank)).cursor.row
        ≡ (fold (put z) (final z (high_of t) (take k tokens)) (replicate i blank)).cursor.row)
    room_in_tab t k i h e some =
        rw (
          final_then_blanks z (middle_of t) (take k tokens) i,
          final_then_blanks z (low_of t) (take k tokens) i,
          final_then_blanks z (high_of t) (take k tokens) i,
        )
        at (room_to_print t (then_blanks (take k tokens) i) h (plays.tabs_well k i e some))

    room_for : (t : State) (k : ℕ) (token : TokenKind) → IsStart large class t → slice_get tokens k ≡ Some token
        → IsRoomFor z lines taller size.some_columns size.some_lines token (final z (middle_of t) (take k tokens))
        (final z (low_of t) (take k tokens)) (final z (high_of t) (take k tokens))
    room_for t k LineFeed h e =
        let on = (fits_here (middle_of t) (take k tokens) (middle_is_start t h)).cursor.0 in
        let not_below = plays.never_scrolls k e (middle_of t) (middle_is_start t h) in (
          omega (arith, on, not_below),
          plays.never_scrolls k e (high_of t) (high_is_one t h),
        )
    room_for t k (Glyph byte) h e = room_to_print t (take k tokens) h (plays.prints_well k byte e)
    room_for t k Tab h e = λ i lt. room_in_tab t k i h e (middle_of t, middle_is_start t h, lt)
    room_for t k EraseLine h e = ap (λ (p : Position). p.row)
        (plays.erases_at_one_position k e (low_of t) (high_of t) (low_is_one t h) (high_is_one t h))
    room_for t k (Up n) h e = free.up k n e (low_of t) (high_of t) (low_is_one t h) (high_is_one t h)
    room_for t k (Down n) h e = (
      free.down k n e (middle_of t) (middle_is_start t h),
      free.down k n e (high_of t) (high_is_one t h),
    )
    room_for t k (Place row column) h e = elim (cases_lt (z.lines + 1) row) [
      | inl outside ↦ absurd (plays.no_static_fault k (Place row column) OutsideScreen e (inl outside))
      | inr inside ↦ inside
    ]
    room_for t k token h e = tt

    alike_after : (t : State) → IsStart large class t → (k : ℕ) → k ≤ length tokens → IsAlikeAfter (take k tokens) t
    alike_after t h zero le = alike_starts t h
    alike_after t h (suc k) le =
        let token : TokenKind = get_or tokens k Bell in
        let there : slice_get tokens k ≡ Some token = slice_get-get_or tokens k Bell (omega (arith, le)) in
        let more : take (suc k) tokens ≡ take k tokens ++ token ∷ [] = take-suc tokens k Bell (omega (arith, le)) in
        rw (
          more,
          fold-append (step large) t (take k tokens) (token ∷ []),
          fold-append (step z) (middle_of t) (take k tokens) (token ∷ []),
          fold-append (step z) (low_of t) (take k tokens) (token ∷ []),
          fold-append (step z) (high_of t) (take k tokens) (token ∷ []),
        )
        (alike_step z lines taller size.some_columns size.some_lines (final large t (take k tokens))
        (final z (middle_of t) (take k tokens)) (final z (low_of t) (take k tokens))
        (final z (high_of t) (take k tokens))
        token (room_for t k token h there) (fits_there t (take k tokens) h)
        (fits_here (middle_of t) (take k tokens) (middle_is_start t h)) (alike_after t h k (omega (arith, le))))

    -- ---- what is printed on the taller screen

    -- where low and high stand in one row, the taller screen's cursor is the middle one's
    cursor_there : (t : State) (played : List TokenKind) → IsAlikeAfter played t
        → (final z (low_of t) played).cursor.row ≡ (final z (high_of t) played).cursor.row
        → (final large t played).cursor ≡ (final z (middle_of t) played).cursor
    cursor_there t played alike same =
        (one_where_same_row z lines taller size.some_columns size.some_lines (final large t played).cursor
        (final z (middle_of t) played).cursor (final z (low_of t) played).cursor (final z (high_of t) played).cursor
        alike.cursor same).0

    one_position : (played : List TokenKind) → ((t : State) → IsStart large class t → IsAlikeAfter played t)
        → SamePosition z class played → SamePosition large class played
    one_position played alike same s t h g =
        cursor_there s played (alike s h) (rows s h) ∙ same (middle_of s) (middle_of t) (middle_is_start s h)
        (middle_is_start t g) ∙ sym (cursor_there t played (alike t g) (rows t g))
      where
        rows : (r : State) → IsStart large class r
            → (final z (low_of r) played).cursor.row ≡ (final z (high_of r) played).cursor.row
        rows r k = ap (λ (p : Position). p.row) (same (low_of r) (high_of r) (low_is_one r k) (high_is_one r k))

    prints_there : (played : List TokenKind) → ((t : State) → IsStart large class t → IsAlikeAfter played t)
        → PrintsWell z class played → PrintsWell large class played
    prints_there played alike well = record {
      at_one_position = one_position played alike well.at_one_position;
      never_below = λ t h below.
          let room = room_to_print t played h well in
          let there = cursor_there t played (alike t h) room.1 in
          let no : ⊥ = omega (arith, room.0, ap (λ (p : Position). p.row) there, below) in no;
    }

    never_scrolls_there : (k : ℕ) → slice_get tokens k ≡ Some LineFeed → (t : State) → IsStart large class t
        → ¬ IsInSpareRow large (take k tokens) t
    never_scrolls_there k e t h below =
        let room = room_for t k LineFeed h e in
        let after = alike_after t h k (omega (arith, slice_get_within tokens k LineFeed e)) in
        elim after.cursor [
          | inl one ↦
              let no : ⊥ = omega (arith, room.0, ap (λ (p : Position). p.row) one.0, below) in no
          | inr anywhere ↦ absurd (room.1 anywhere.4)
        ]

    alike_in_tab : (k i : ℕ) → slice_get tokens k ≡ Some Tab → FromSome z class (TabGoesOn z (take k tokens) i)
        → (t : State) → IsStart large class t → IsAlikeAfter (then_blanks (take k tokens) i) t
    alike_in_tab k i e some t h =
        rw (
          final_then_blanks large t (take k tokens) i,
          final_then_blanks z (middle_of t) (take k tokens) i,
          final_then_blanks z (low_of t) (take k tokens) i,
          final_then_blanks z (high_of t) (take k tokens) i,
        )
        (alike_blanks z lines taller size.some_columns size.some_lines (final large t (take k tokens))
        (final z (middle_of t) (take k tokens)) (final z (low_of t) (take k tokens))
        (final z (high_of t) (take k tokens))
        i (λ j lt. room_in_tab t k j h e (some.0, some.1, omega (arith, lt, some.2)))
        (fits_there t (take k tokens) h) (fits_here (middle_of t) (take k tokens) (middle_is_start t h))
        (alike_after t h k (omega (arith, slice_get_within tokens k Tab e))))

    column_there : (t : State) (played : List TokenKind) → IsAlikeAfter played t
        → (final large t played).cursor.column ≡ (final z (middle_of t) played).cursor.column
    column_there t played alike = elim alike.cursor [
      | inl one ↦ ap (λ (p : Position). p.column) one.0
      | inr anywhere ↦ anywhere.0
    ]

    goes_on_here : (k i : ℕ) → slice_get tokens k ≡ Some Tab → FromSome large class (TabGoesOn large (take k tokens) i)
        → FromSome z class (TabGoesOn z (take k tokens) i)
    goes_on_here k i e some =
        let t = some.0 in
        let after = alike_after t some.1 k (omega (arith, slice_get_within tokens k Tab e)) in
        (middle_of t, middle_is_start t some.1, rw (column_there t (take k tokens) after) at some.2)

    large_static : (t : TokenKind) (cause : Cause) → HasStaticFault large t cause → HasStaticFault z t cause
    large_static (Place row column) OutsideScreen (inl h) = inl (omega (arith, h))
    large_static (Place row column) OutsideScreen (inr h) = inr h
    large_static t cause h = h

    plays_there : PlaysWell large class tokens
    plays_there = record {
      no_static_fault = λ k t cause e h. plays.no_static_fault k t cause e (large_static t cause h);
      never_scrolls = never_scrolls_there;
      prints_well = λ k byte e. prints_there (take k tokens)
          (λ t h. alike_after t h k (omega (arith, slice_get_within tokens k (Glyph byte) e)))
          (plays.prints_well k byte e);
      tabs_well = λ k i e some.
          let here = goes_on_here k i e some in
          prints_there (then_blanks (take k tokens) i) (alike_in_tab k i e here) (plays.tabs_well k i e here);
      erases_at_one_position = λ k e. one_position (take k tokens)
          (λ t h. alike_after t h k (omega (arith, slice_get_within tokens k EraseLine e)))
          (plays.erases_at_one_position k e);
    }

    agrees_there : (t : State) (p : Position) → IsStart large class t → IsStated z p
        → cell_at large (final large t tokens).screen p ≡ cell_at z (final z (middle_of t) tokens).screen p
    agrees_there t p h stated =
        let all : take (length tokens) tokens ≡ tokens = take_all (length tokens) tokens (omega arith) in
        let after : IsAlikeAfter tokens t = subst (λ (v : List TokenKind). IsAlikeAfter v t) all
        (alike_after t h (length tokens) (omega arith)) in
        after.screen (index z p) (index-lt_stated z p stated)

pub taller_shows_the_same : TallerShowsTheSame
taller_shows_the_same z class content picture lines good free taller =
    let same : free.tokens ≡ good.tokens = one_reading content free.tokens good.tokens free.reads good.reads in
    let moves : MovesFreely z class good.tokens = subst (MovesFreely z class) same free.free in
    record {
      plays = plays_there z good.size lines taller class good.tokens good.plays moves;
      shown = λ s p h stated. agrees_there z good.size lines taller class good.tokens good.plays moves s p h stated
          ∙ good.shows.shown (middle_of z good.size lines taller class s) p
          (middle_is_start z good.size lines taller class good.tokens good.plays moves s h) stated;
    }
