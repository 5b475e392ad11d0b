-- The end of a play: the picture that it shows, or the first cell that stays unknown.
use Rattle.std.proofs.Common.{◌≡◌, ℕ, ◌+◌, ◌*◌, ◌/◌, ◌%◌, ◌<◌, ◌≤◌, true, false, refl, sym, ap, ◌∙◌, arith, List}
use Rattle.std.proofs.Common.{length, length-append, map, take, Some, None, subst, inl, inr}
use Rattle.std.specs.Prelude.{slice_get, Result, Ok, Err}
use Rattle.std.specs.List.{list_all}
use Rattle.std.proofs.lemmas.List.{length-take}
use Rattle.std.proofs.lemmas.List.Elements.{All-take}
use Rattle.std.proofs.lemmas.Nat.{mul-le}
use Rattle.std.proofs.Math.Nat.{div-lt_iff_lt-mul}
use Rattle.ans_model.specs.Sequence.TokenKind.{TokenKind}
use Rattle.ans_model.specs.Sequence.Reads.{Reads}
use Rattle.ans_model.specs.Screen.State.{Size, IsSize, State, at, index, cell_count, IsStated, IsByteCell, IsWellFormed}
use Rattle.ans_model.specs.declared.cell.Cell.{Cell}
use Rattle.ans_model.specs.declared.cell.Position.{Position}
use Rattle.ans_model.specs.Screen.Step.{final}
use Rattle.ans_model.specs.Screen.StartClass.{IsStart, low_start, high_start}
use Rattle.ans_model.specs.declared.start.Start.{Start}
use Rattle.ans_model.specs.Verdict.Good.{Picture, Shows, GoodWith}
use Rattle.ans_model.specs.File.Refusals.{fault_at}
use Rattle.ans_model.specs.Verdict.LastFault.{SameCell, CellsDiffer, IsBefore, IsFirstUnknown, LeavesUnknown}
use Rattle.ans_model.specs.Verdict.LastFault.{IsLastFault}
use Rattle.ans_model.specs.declared.fault.Fault.{Fault}
use Rattle.ans_model.specs.declared.fault.Cause.TheVariants.{UnknownCell}
use Rattle.ans_tokens.specs.ScannerView.{Ends}
use Rattle.ans_tokens.proofs.ReadSoFar.{all_read}
use Rattle.ans_model.specs.Verdict.TokenFault.{IsClean}
use Rattle.ans_model.proofs.StartLemmas.{low_is_start, high_is_start}
use Rattle.ans_model.proofs.OneAnswer.{good_or_first, good_or_last}
use Rattle.ans_model.proofs.PositionLemmas.{index-lt_stated}
use Rattle.ans_model.proofs.Slices.{slice_get-take}
use Rattle.ans_screen.specs.KnownBits.{known_bits}
use Rattle.ans_screen.specs.HalfCells.{half_cell, is_known}
use Rattle.ans_screen.specs.GridEdits.{first_unknown}
use Rattle.ans_screen.specs.declared.cell.HalfCell.{HalfCell}
use Rattle.ans_play.specs.HalfState.{HalfState, DescribesCell}
use Rattle.ans_play.specs.Shown.{known_cell, stated_cells, picture_of}
use Rattle.ans_play.specs.PlayView.{PlayView}
use Rattle.ans_play.specs.PlayerView.{PlayerView, play_of}
use Rattle.ans_play.specs.Stands.{IsKnownAfter, IsPlayed, Stands, EndsPlay, Finishes}
use Rattle.ans_play.proofs.Zips.{AllZip-take}
use Rattle.ans_play.proofs.KnownCells.{known_at, unknown_at, all_known, FirstUnknown, found_unknown, none_unknown}
use Rattle.ans_play.proofs.PlaysWell.{plays_well}

-- ---- positions in row order
-- an earlier position stands before
pub index_before : (z : Size) (p q : Position) → IsStated z q → IsBefore q p → index z q < index z p
index_before z p q h (inl above) =
    let below : (q.row + 1) * z.width ≤ p.row * z.width =
    mul-le (q.row + 1) z.width p.row z.width (omega (arith, above)) (omega arith) in
    omega (arith, h.1)
index_before z p q h (inr (row, column)) =
    let same : q.row * z.width ≡ p.row * z.width = ap (λ (n : ℕ). n * z.width) row in
    omega (arith, column)

-- where cell i stands
unfoldable pub position_of : Size → ℕ → Position
position_of z i = at (i / z.width) (i % z.width)

-- and back
pub position_index : (z : Size) (i : ℕ) → 0 < z.width → index z (position_of z i) ≡ i
unfolding position_of
position_index z i w = omega arith

-- it is one of the stated lines
pub position_stated : (z : Size) (i : ℕ) → 0 < z.width → i < z.lines * z.width → IsStated z (position_of z i)
unfolding position_of
position_stated z i w l = ((div-lt_iff_lt-mul w).1 l, omega arith)

module _ (z : Size) (class : Start) (tokens : List TokenKind) (h : HalfState) (w : 0 < z.width)
    (st : IsKnownAfter z class tokens h) where
  -- ---- one cell
  pub same_where_known : (p : Position) (i : ℕ) (c : HalfCell) → index z p ≡ i → slice_get h.screen i ≡ Some c →
      is_known c ≡ true → SameCell z class tokens p
  same_where_known p i c at_i e k s t start_s start_t =
      rw at_i
      (known_at h.screen (final z s tokens).screen i c (st.describes s start_s).screen
      (st.well_formed s start_s).bytes e k
      ∙ sym (known_at h.screen (final z t tokens).screen i c (st.describes t start_t).screen
      (st.well_formed t start_t).bytes e k))

  -- an unknown cell differs between the low and the high start
  pub differ_where_unknown : (p : Position) (i : ℕ) (c : HalfCell) → index z p ≡ i → slice_get h.screen i ≡ Some c →
      is_known c ≡ false → CellsDiffer z class tokens p
  differ_where_unknown p i c at_i e k = (
    low_start z class,
    high_start z class,
    low_is_start z class w,
    high_is_start z class w,
    rw at_i
        (unknown_at (final z (low_start z class) tokens).screen (final z (high_start z class) tokens).screen i c
        (sym (ap (λ (g : HalfState). slice_get g.screen i) st.is_hull) ∙ e) k),
  )

  -- the first cell that is not known is the first that differs
  first_unknown_is : (i : ℕ) → FirstUnknown h.screen (z.lines * z.width) i →
      IsFirstUnknown z class tokens (position_of z i)
  first_unknown_is i u = record {
    stated = position_stated z i w u.within;
    differs = differ_where_unknown (position_of z i) i u.cell (position_index z i w) u.here u.unknown;
    earlier = λ q stated before.
        let l : index z q < i = subst (λ (n : ℕ). index z q < n) (position_index z i w)
        (index_before z (position_of z i) q stated before) in
        let c : (c : HalfCell) × (slice_get h.screen (index z q) ≡ Some c) × (is_known c ≡ true) =
        u.earlier (index z q) l in
        same_where_known q (index z q) c.0 refl c.1 c.2;
  }

  -- ---- the whole picture
  shown_from : list_all is_known (stated_cells z h.screen) ≡ true → (s : State) → IsStart z class s →
      take (z.lines * z.width) (final z s tokens).screen ≡ map known_cell (stated_cells z h.screen)
  shown_from k s start =
      all_known (stated_cells z h.screen) (take (z.lines * z.width) (final z s tokens).screen)
      (AllZip-take DescribesCell (z.lines * z.width) h.screen (final z s tokens).screen (st.describes s start).screen)
      (All-take IsByteCell (z.lines * z.width) (final z s tokens).screen (st.well_formed s start).bytes) k

  -- known cells are the picture that every play shows
  known_picture_shows : list_all is_known (stated_cells z h.screen) ≡ true →
      Shows z class tokens (picture_of z h.screen)
  known_picture_shows k =
      let low : State = low_start z class in
      let start : IsStart z class low = low_is_start z class w in
      let well : IsWellFormed z (final z low tokens) = st.well_formed low start in
      let fits : z.lines * z.width ≤ cell_count z =
      mul-le z.lines z.width (z.lines + 1) z.width (omega arith) (omega arith) in
      record {
        is_picture = record {
          size = refl;
          count = rw (← shown_from k low start) (simp length-take (omega (arith, well.fits.cells)));
          bytes = rw (← shown_from k low start)
              (All-take IsByteCell (z.lines * z.width) (final z low tokens).screen well.bytes);
        };
        shown = λ s p start_s stated.
            sym (slice_get-take (z.lines * z.width) (final z s tokens).screen (index z p) (index-lt_stated z p stated))
            ∙ ap (λ (xs : List Cell). slice_get xs (index z p)) (shown_from k s start_s);
      }

-- ---- of bytes
module _ (z : Size) (class : Start) (bytes : List ℕ) (tokens : List TokenKind) (h : HalfState) (size : IsSize z)
    (reads : Reads bytes tokens) (clean : IsClean z class tokens) (known : IsKnownAfter z class tokens h) where
  -- bytes whose cells are known are good
  pub good_where_known : list_all is_known (stated_cells z h.screen) ≡ true →
      GoodWith z class bytes (picture_of z h.screen)
  good_where_known e = record {
    size = size;
    tokens = tokens;
    reads = reads;
    plays = plays_well z class tokens clean;
    shows = known_picture_shows z class tokens h size.some_columns known e;
  }

  -- a first cell that is not known is the last fault
  pub last_where_unknown : (i : ℕ) → FirstUnknown h.screen (z.lines * z.width) i →
      LeavesUnknown z class bytes (fault_at (length bytes) (UnknownCell (i / z.width + 1) (i % z.width + 1)))
  unfolding position_of
  last_where_unknown i u = record {
    size = size;
    tokens = tokens;
    reads = reads;
    clean = clean;
    position = position_of z i;
    first = first_unknown_is z class tokens h size.some_columns known i u;
    fault_is = refl;
  }

-- ---- of a play
pub no_cell : HalfCell
no_cell = half_cell None (known_bits 0 0)

-- where no cell is found, the picture is known
pub known_if : (cells : List HalfCell) (n : ℕ) → first_unknown cells n ≡ None → list_all is_known (take n cells) ≡ true
known_if cells n e = none_unknown (take n cells) no_cell e

module _ (v : PlayView) (class : Start) (s : List ℕ) (p : IsPlayed v.size class s v.scanner v.state)
    (closed : v.scanner.fault ≡ None → Ends v.scanner (Ok tt)) where
  all_is_read : Reads s p.so_far.tokens
  all_is_read = all_read s v.scanner p.so_far (closed p.so_far.unrefused p.so_far.open_part p.so_far.holds)

  pub ends_good : (picture : Picture) → first_unknown v.state.screen (v.size.lines * v.size.width) ≡ None →
      picture ≡ picture_of v.size v.state.screen →
      GoodWith v.size class s picture
  ends_good picture e is =
      rw is (good_where_known v.size class s p.so_far.tokens v.state p.size all_is_read p.clean p.known
      (known_if v.state.screen (v.size.lines * v.size.width) e))

  pub ends_unknown : (i offset width : ℕ) → first_unknown v.state.screen (v.size.lines * v.size.width) ≡ Some i →
      v.scanner.offset ≡ offset → v.size.width ≡ width →
      IsLastFault v.size class s (fault_at offset (UnknownCell (i / width + 1) (i % width + 1)))
  ends_unknown i offset width e f w =
      rw (← f, ← w, p.so_far.offset)
      (inr (last_where_unknown v.size class s p.so_far.tokens v.state p.size all_is_read p.clean p.known i
      (found_unknown v.state.screen (v.size.lines * v.size.width) i no_cell e)))

-- ---- of a player
-- a play that ends so finishes the player
pub finishes_played : (p : PlayerView) (s : List ℕ) (result : Result Picture Fault) → Stands p s → p.fault ≡ None →
    EndsPlay (play_of p) result → Finishes p s result
finishes_played p s (Ok picture) st none ends =
    record { good = ends p.start s (st.played none); last = λ n. tt; exact = λ good. refl }
finishes_played p s (Err fault) st none ends =
    let last : IsLastFault p.size p.start s fault = ends p.start s (st.played none) in
    record {
      good = tt;
      last = λ n. last;
      exact =
          λ good. absurd (good_or_last p.size p.start s fault good last);
    }

-- a player with a fault has no good bytes
pub finishes_faulted : (p : PlayerView) (s : List ℕ) (fault : Fault) → Stands p s → p.fault ≡ Some fault →
    Finishes p s (Err fault)
finishes_faulted p s fault st is = record {
  good = tt;
  last = λ none. absurd (let no : Some fault ≡ None = sym is ∙ none in cc);
  exact = λ good. absurd (good_or_first p.size p.start s fault good (st.faulted fault is));
}

-- a last fault stands within the bytes
pub last_within : (z : Size) (class : Start) (bytes : List ℕ) (fault : Fault) → IsLastFault z class bytes fault →
    fault.offset ≤ length bytes
last_within z class bytes fault (inl h) =
    omega (arith, ap (λ (f : Fault). f.offset) h.fault_is, ap length h.whole, length-append h.front h.text)
last_within z class bytes fault (inr h) = omega (arith, ap (λ (f : Fault). f.offset) h.fault_is)
