-- From the cleared start a content plays as well with one line more.
use Rattle.std.proofs.Common.{◌≡◌, ℕ, zero, suc, ◌+◌, ◌-◌, ◌*◌, ◌<◌, ◌≤◌, Bool, true, false, List, [], ◌∷◌, ◌++◌}
use Rattle.std.proofs.Common.{take, replicate, fold, refl, ap, sym, subst, ◌∙◌, arith, All, append_assoc}
use Rattle.std.proofs.lemmas.List.{append-nil, length-take-le}
use Rattle.std.proofs.lemmas.List.Elements.{All-head, All-tail, All-take}
use Rattle.std.proofs.lemmas.List.Sums.{fold-append}
use Rattle.std.specs.Prelude.{if◌then◌else◌, nat_lt, min}
use Rattle.ans_model.specs.Bytes.{blank}
use Rattle.ans_model.specs.declared.cell.Position.{Position}
use Rattle.ans_model.specs.Sequence.Reads.{Reads}
use Rattle.ans_model.specs.Sequence.TokenKind.{TokenKind, Glyph, BackSpace, LineFeed, CarriageReturn, Tab}
use Rattle.ans_model.specs.Sequence.TokenKind.{Up, Down, Forward, Backward, Place, Clear, EraseLine, Save, Restore}
use Rattle.ans_model.specs.Sequence.TokenKind.{Colours, Wrap, PrintsByte}
use Rattle.ans_model.specs.Screen.State.{Size, State, IsByteCell, IsWellFormed, at, cell_at, index, sized}
use Rattle.ans_model.specs.Screen.Step.{destination, final, line_feed, put, step, tab_blanks}
use Rattle.ans_model.specs.Screen.StartClass.{IsStart, cleared, all_known}
use Rattle.ans_model.specs.Verdict.Good.{Picture, Shows}
use Rattle.ans_model.specs.Verdict.TokenFault.{IsClean}
use Rattle.ans_model.proofs.OneAnswer.{well_is_clean}
use Rattle.ans_model.proofs.OneCause.{cleared_is_one}
use Rattle.ans_model.proofs.StartLemmas.{low_is_start}
use Rattle.ans_model.proofs.StepLemmas.{line_feed_is}
use Rattle.ans_model.proofs.WellFormed.{well_formed_after_step}
use Rattle.ans_model.proofs.Reading.{reads_bytes}
use Rattle.ans_model.proofs.PositionLemmas.{index-lt_stated}
use Rattle.ans_model.proofs.Slices.{slice_get-take}
use Rattle.ans_play.proofs.PlaysWell.{plays_well}
use Rattle.ans_pens.specs.Lines.{IsGoodOn, OneLineMoreIsGood}
use Rattle.ans_pens.specs.Walkers.{IsFaultless}
use Rattle.ans_pens.proofs.CleanSteps.{clean_front}
use Rattle.ans_pens.proofs.ClearedSteps.{blanks_have_room, clean_with, clean_had_room}
use Rattle.ans_pens.proofs.Printed.{next, put_is}

-- a position of the screen with a line more stands beside the other, or one row below it
abbrev pub IsNear : Position → Position → Type 0
IsNear p q = (q.column ≡ p.column) × (p.row ≤ q.row) × (q.row ≤ p.row + 1)

-- so do both cursors, and wrap is the same
pub record AreNear (s t : State) : Type 0 where
  pub cursor : IsNear s.cursor t.cursor
  pub saved : IsNear s.saved t.saved
  pub wrap : t.wrap ≡ s.wrap

module _ (width lines : ℕ) (some_columns : 0 < width) where
  abbrev pub small : Size
  small = sized width lines

  abbrev pub large : Size
  large = sized width (lines + 1)

  near_destination : (t : TokenKind) (p q : Position) → IsNear p q
      → IsNear (destination small t p) (destination large t q)
  near_destination (Up n) p q (c, a, b) = (c, omega arith, omega arith)
  near_destination (Down n) p q (c, a, b) = (c, omega arith, omega arith)
  near_destination (Forward n) p q (c, a, b) = (ap (λ (v : ℕ). min (v + n) (width - 1)) c, a, b)
  near_destination (Backward n) p q (c, a, b) = (ap (λ (v : ℕ). v - n) c, a, b)
  near_destination (Place row column) p q h = (refl, omega arith, omega arith)
  near_destination BackSpace p q (c, a, b) = (ap (λ (v : ℕ). v - 1) c, a, b)
  near_destination CarriageReturn p q (c, a, b) = (refl, a, b)
  near_destination t p q h = h

  -- where the cursor goes on to
  near_next : (p q : Position) (w v : Bool) → v ≡ w → IsNear p q → IsNear (next small p w) (next large q v)
  near_next p q w v same (c, a, b) = rw (same, c) (go (nat_lt (p.column + 1) width) w)
    where
      go : (more wrap : Bool)
          → IsNear (if more then at p.row (p.column + 1) else if wrap then at (p.row + 1) 0 else p)
          (if more then at q.row (p.column + 1) else if wrap then at (q.row + 1) 0 else at q.row p.column)
      go true wrap = (refl, a, b)
      go false true = (refl, omega (arith, a), omega (arith, b))
      go false false = (refl, a, b)

  near_put : (s t : State) (byte : ℕ) → s.cursor.row < lines → AreNear s t
      → AreNear (put small s byte) (put large t byte)
  near_put s t byte above h =
      let above_too : t.cursor.row < lines + 1 = omega (arith, h.cursor.2) in
      rw (put_is small s byte above, put_is large t byte above_too) (record {
        cursor = near_next s.cursor t.cursor s.wrap t.wrap h.wrap h.cursor;
        saved = h.saved;
        wrap = h.wrap;
      })

  near_blanks : (s t : State) (n : ℕ) → AreNear s t
      → ((i : ℕ) → i < n → (fold (put small) s (replicate i blank)).cursor.row < lines)
      → AreNear (fold (put small) s (replicate n blank)) (fold (put large) t (replicate n blank))
  near_blanks s t zero h above = h
  near_blanks s t (suc n) h above =
      near_blanks (put small s blank) (put large t blank) n
      (near_put s t blank (above 0 (omega arith)) h) (λ i lt. above (suc i) (omega arith))

  near_line_feed : (s t : State) → s.cursor.row < lines → AreNear s t
      → AreNear (line_feed small s) (line_feed large t)
  near_line_feed s t above h =
      let above_too : t.cursor.row < lines + 1 = omega (arith, h.cursor.2) in
      rw (line_feed_is small s above, line_feed_is large t above_too)
      (record {
        cursor = (h.cursor.0, omega (arith, h.cursor.1), omega (arith, h.cursor.2));
        saved = h.saved;
        wrap = h.wrap;
      })

  near_step : (s t : State) (token : TokenKind) → IsFaultless small s token → AreNear s t
      → AreNear (step small s token) (step large t token)
  near_step s t LineFeed room h = near_line_feed s t room h
  near_step s t (Glyph byte) room h = near_put s t byte room h
  near_step s t Tab room h =
      subst (λ (c : ℕ). AreNear (fold (put small) s (replicate (tab_blanks s.cursor.column) blank))
      (fold (put large) t (replicate (tab_blanks c) blank))) (sym h.cursor.0)
      (near_blanks s t (tab_blanks s.cursor.column) h (λ i lt. blanks_have_room small s i room lt))
  near_step s t Clear room h = record { cursor = (refl, omega arith, omega arith); saved = h.saved; wrap = h.wrap }
  near_step s t EraseLine room h = record { cursor = h.cursor; saved = h.saved; wrap = h.wrap }
  near_step s t Save room h = record { cursor = h.cursor; saved = h.cursor; wrap = h.wrap }
  near_step s t Restore room h = record { cursor = h.saved; saved = h.saved; wrap = h.wrap }
  near_step s t (Colours numbers) room h = record { cursor = h.cursor; saved = h.saved; wrap = h.wrap }
  near_step s t (Wrap on) room h = record { cursor = h.cursor; saved = h.saved; wrap = refl }
  near_step s t token room h =
      record { cursor = near_destination token s.cursor t.cursor h.cursor; saved = h.saved; wrap = h.wrap }

  -- what has room on the smaller screen has it on the larger
  larger_room : (s t : State) (token : TokenKind) → IsFaultless small s token → AreNear s t → IsFaultless large t token
  larger_room s t LineFeed room h = omega (arith, room, h.cursor.2)
  larger_room s t (Glyph byte) room h = omega (arith, room, h.cursor.2)
  larger_room s t Tab room h =
      let n : ℕ = tab_blanks s.cursor.column - 1 in
      let near = near_blanks s t n h (λ i lt. blanks_have_room small s i room (omega (arith, lt))) in
      subst (λ (c : ℕ). (fold (put large) t (replicate (tab_blanks c - 1) blank)).cursor.row < lines + 1)
      (sym h.cursor.0) (omega (arith, room, near.cursor.2))
  larger_room s t (Place row column) room h = (omega (arith, room.0), room.1)
  larger_room s t token room h = room

  -- after clean tokens, those that are clean on the smaller screen are clean on the larger
  clean_later : (later played : List TokenKind) → IsClean small all_known (played ++ later)
      → IsClean large all_known played
      → AreNear (final small (cleared small) played) (final large (cleared large) played)
      → IsClean large all_known (played ++ later)
  clean_later [] played clean so_far near = rw (append-nil played) so_far
  clean_later (t ∷ later) played clean so_far near =
      let more : (played ++ t ∷ []) ++ later ≡ played ++ t ∷ later = append_assoc played (t ∷ []) later in
      let whole : IsClean small all_known ((played ++ t ∷ []) ++ later) = rw more clean in
      let room = clean_had_room small some_columns played t
      (clean_front small all_known (played ++ t ∷ []) later whole) in
      subst (IsClean large all_known) more (clean_later later (played ++ t ∷ []) whole
      (clean_with large some_columns played t so_far (larger_room _ _ t room near))
      (rw (
        fold-append (step small) (cleared small) played (t ∷ []),
        fold-append (step large) (cleared large) played (t ∷ []),
      ) (near_step _ _ t room near)))

  clean_larger : (tokens : List TokenKind) → IsClean small all_known tokens → IsClean large all_known tokens
  clean_larger tokens clean =
      clean_later tokens [] clean (λ k cause blamed. absurd (cc (blamed.1))) (record {
        cursor = (refl, omega arith, omega arith);
        saved = (refl, omega arith, omega arith);
        wrap = refl;
      })

-- ---- its picture
pub well_formed_after : (z : Size) (s : State) (tokens : List TokenKind) → 0 < z.width → All PrintsByte tokens
    → IsWellFormed z s → IsWellFormed z (final z s tokens)
well_formed_after z s [] w prints h = h
well_formed_after z s (t ∷ tokens) w prints h =
    well_formed_after z (step z s t) tokens w (All-tail PrintsByte t tokens prints)
    (well_formed_after_step z s t (All-head PrintsByte t tokens prints) w h)

-- what a play from the cleared state shows in the stated lines
abbrev pub shown_picture : Size → List TokenKind → Picture
shown_picture z tokens =
    record { size = z; cells = take (z.lines * z.width) (final z (cleared z) tokens).screen }

pub shows_it : (z : Size) (tokens : List TokenKind) → 0 < z.width → All PrintsByte tokens
    → Shows z all_known tokens (shown_picture z tokens)
shows_it z tokens w prints =
    let start : IsStart z all_known (cleared z) = low_is_start z all_known w in
    let end : IsWellFormed z (final z (cleared z) tokens) =
    well_formed_after z (cleared z) tokens w prints start.well_formed in
    record {
      is_picture = record {
        size = refl;
        count = length-take-le (z.lines * z.width) (final z (cleared z) tokens).screen
            (rw end.fits.cells (omega (arith, lines_are_cells z)));
        bytes = All-take IsByteCell (z.lines * z.width) (final z (cleared z) tokens).screen end.bytes;
      };
      shown = λ s p from stated.
          ap (λ (v : State). cell_at z (final z v tokens).screen p) (cleared_is_one z s (cleared z) from start)
          ∙ sym (slice_get-take (z.lines * z.width) (final z (cleared z) tokens).screen (index z p)
          (index-lt_stated z p stated));
    }
  where
    lines_are_cells : (z : Size) → (z.lines + 1) * z.width ≡ z.lines * z.width + z.width
    lines_are_cells z = omega arith

-- ---- good and clean
pub clean_is_good : (width n : ℕ) (content : List ℕ) (tokens : List TokenKind) → 0 < width → 0 < n
    → Reads content tokens → IsClean (sized width n) all_known tokens → IsGoodOn width content n
clean_is_good width n content tokens columns lines reads clean = (
  shown_picture (sized width n) tokens,
  record {
    size = record { some_columns = columns; some_lines = lines };
    tokens = tokens;
    reads = reads;
    plays = plays_well (sized width n) all_known tokens clean;
    shows = shows_it (sized width n) tokens columns (reads_bytes content tokens reads);
  },
)

pub good_is_clean : (width n : ℕ) (content : List ℕ) (good : IsGoodOn width content n)
    → IsClean (sized width n) all_known good.1.tokens
good_is_clean width n content good =
    well_is_clean (sized width n) all_known good.1.tokens good.1.size.some_columns good.1.plays

-- ---- with more lines
pub one_line_more : OneLineMoreIsGood
one_line_more width lines content good =
    let columns = good.1.size.some_columns in
    clean_is_good width (lines + 1) content good.1.tokens columns (omega arith) good.1.reads
    (clean_larger width lines columns good.1.tokens (good_is_clean width lines content good))

good_with_more : (width lines more : ℕ) (content : List ℕ) → IsGoodOn width content lines
    → IsGoodOn width content (lines + more)
good_with_more width lines zero content good =
    let same : lines ≡ lines + 0 = omega arith in subst (IsGoodOn width content) same good
good_with_more width lines (suc more) content good =
    let same : lines + more + 1 ≡ lines + suc more = omega arith in
    subst (IsGoodOn width content) same
    (one_line_more width (lines + more) content (good_with_more width lines more content good))

pub good_from_on : (width n m : ℕ) (content : List ℕ) → n ≤ m → IsGoodOn width content n → IsGoodOn width content m
good_from_on width n m content le good =
    let up : n + (m - n) ≡ m = omega (arith, le) in
    subst (IsGoodOn width content) up (good_with_more width n (m - n) content good)
