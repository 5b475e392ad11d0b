-- The hints of a run of plain bytes.
use Rattle.std.proofs.Common.{◌≡◌, ℕ, zero, suc, ◌+◌, ◌-◌, ◌<◌, Bool, true, false, not, List, [], ◌∷◌, length}
use Rattle.std.proofs.Common.{refl, sym, ap, ap₂, ◌∙◌, subst, arith, Option, get_or}
use Rattle.std.specs.Prelude.{◌&&◌, ◌==◌, if◌then◌else◌, min, nat_le}
use Rattle.std.proofs.lemmas.Bool.{ne_eqb}
use Rattle.ans_model.specs.Bytes.{IsByte}
use Rattle.ans_model.specs.Sequence.TokenKind.{Glyph}
use Rattle.ans_model.specs.Screen.State.{State}
use Rattle.ans_tokens.specs.Walk.{Front, IsRunNext, front_past}
use Rattle.ans_tokens.proofs.Runs.{IsByteNext, KeptByBytes, kept_past}
use Rattle.ans_hints.specs.Conditions.{is_seen}
use Rattle.ans_pens.specs.Counted.{counted, counted_along, counted_times}
use Rattle.ans_pens.specs.Pens.{further, pen_of}
use Rattle.ans_hints.specs.RowEnds.{is_stuck, printed_in, row_with, with_glyph, wraps}
use Rattle.ans_hints.specs.Walks.{HasWalked, StaysInRow, dark_at, hints_with, seen_at, walk_past}
use Rattle.ans_hints.specs.declared.hints.Hints.{Hints}
use Rattle.ans_pens.specs.declared.pen.Pen.{Pen}
use Rattle.ans_hints.specs.declared.row.Row.{Row}
use Rattle.ans_hints.specs.declared.row.Seam.TheVariants.{Other}
use Rattle.ans_hints.specs.declared.row_ends.RowEnds.{RowEnds}
use Rattle.ans_pens.specs.declared.times.Times.{Times}
use Rattle.ans_hints.specs.declared.walk.Walk.{Walk}
use Rattle.ans_pens.proofs.CountedRuns.{times_suc, times_zero}
use Rattle.ans_hints.proofs.HintsFound.{walked_token}
use Rattle.ans_pens.proofs.PenSteps.{byte_further, further_zero}
use Rattle.ans_hints.proofs.PlainConditions.{no_board_code, no_latin_letter, no_two_byte_letter, no_wide_character}

-- a glyph that neither wraps nor is printed over another
inside_row : (ends : RowEnds) (row offset : ℕ) (wraps stuck : Bool) → wraps ≡ false → stuck ≡ false
    → with_glyph ends row offset wraps stuck ≡ printed_in row ends
inside_row ends row offset wraps stuck no_wrap no_stuck =
    let same : ends.full + 0 ≡ ends.full = omega arith in
    ap₂ (λ (b d : Bool). with_glyph ends row offset b d) no_wrap no_stuck
    ∙ ap (λ (n : ℕ). record (printed_in row ends) { full = n }) same

either : (test : Bool) (times : Option Times) → (if test then times else times) ≡ times
either true times = refl
either false times = refl

-- what is printed next in the same row changes nothing
printed_twice : (row : ℕ) (ends : RowEnds) → printed_in row (printed_in row ends) ≡ printed_in row ends
printed_twice row ends =
    ap (λ (times : Option Times). record ends { full_before = ends.full; ended = times; ended_before = times })
    (either (nat_le ends.led_to row) (if nat_le ends.led_to row then ends.ended else ends.ended_before))

min_twice : (a b : ℕ) → min (min a b) b ≡ min a b
min_twice a b = omega arith

-- hints that differ in these alone
abbrev changed : Hints → RowEnds → Option Times → Option Times → Option Times → Option Times → Option Times
    → Option Times → Option Times → ℕ → Hints
changed hints ends wide two latin codes blinking seen dark empty = record hints {
  row_ends = ends;
  wide_characters = wide;
  two_byte_letters = two;
  latin_letters = latin;
  board_codes = codes;
  blinking_glyphs = blinking;
  seen_glyphs = seen;
  dark_glyphs = dark;
  empty_rows = empty;
}

changed_so : (hints : Hints) (ends ends' : RowEnds)
    (wide wide' two two' latin latin' codes codes' blinking blinking' seen seen' dark dark' : Option Times)
    (empty empty' : ℕ) → ends ≡ ends' → wide ≡ wide' → two ≡ two' → latin ≡ latin' → codes ≡ codes'
    → blinking ≡ blinking' → seen ≡ seen' → dark ≡ dark' → empty ≡ empty'
    → changed hints ends wide two latin codes blinking seen dark empty
    ≡ changed hints ends' wide' two' latin' codes' blinking' seen' dark' empty'
changed_so hints ends ends' wide wide' two two' latin latin' codes codes' blinking blinking' seen seen' dark dark' empty
    empty' e w t l c b s d m = rw (e, w, t, l, c, b, s, d, m) refl

module _ (first old : Walk) (front : Front) (run behind : List ℕ) (offset : ℕ) (h : HasWalked first front true old)
    (bytes : (k : ℕ) → k < length run → IsByte (get_or run k 0)) (next : IsRunNext front offset run behind)
    (stays : StaysInRow old (length run)) where
  abbrev blinks : Bool
  blinks = not old.non_blink && nat_le 0x80 old.pen.attribute

  abbrev below : ℕ
  below = old.size.lines - (old.pen.cursor.row + 1)

  -- ---- the walk after each byte
  abbrev row_at : ℕ → Row
  row_at zero = old.row
  row_at (suc k) = record old.row { seam = Other }

  abbrev ends_at : ℕ → RowEnds
  ends_at zero = old.hints.row_ends
  ends_at (suc k) = printed_in old.pen.cursor.row old.hints.row_ends

  abbrev empty_at : ℕ → ℕ
  empty_at zero = old.hints.empty_rows
  empty_at (suc k) = min old.hints.empty_rows below

  abbrev hints_at : ℕ → Hints
  hints_at k = record old.hints {
    row_ends = ends_at k;
    blinking_glyphs = counted_times old.hints.blinking_glyphs blinks k offset;
    seen_glyphs = counted_along old.hints.seen_glyphs (seen_at run) offset k;
    dark_glyphs = counted_along old.hints.dark_glyphs (dark_at run old.pen.attribute) offset k;
    empty_rows = empty_at k;
  }

  -- the loose line feeds that something was printed after
  abbrev loose_at : ℕ → Option Times
  loose_at zero = old.loose_before
  loose_at (suc k) = old.hints.loose_line_feeds

  abbrev walk_at : ℕ → Walk
  walk_at k =
      record old { pen = further old.pen k; row = row_at k; loose_before = loose_at k; hints = hints_at k }

  -- ---- one byte
  module _ (k byte : ℕ) (so_far : Front) (rest : List ℕ) (n : IsByteNext run behind so_far offset k byte rest)
      (s : State) (here : further old.pen k ≡ pen_of s) where
    inside : (s.cursor.column + 1 == old.size.width) ≡ false
    inside = ne_eqb (s.cursor.column + 1) old.size.width
        (λ e. absurd (omega (arith, e, n.within, stays.stays, ap (λ (p : Pen). p.cursor.column) here)))

    no_wrap : wraps old.size s ≡ false
    no_wrap = rw inside refl

    same_wraps : old.row.wraps ≡ old.row.wraps + 0
    same_wraps = omega arith

    row_is : row_at (suc k) ≡ row_with old.size s (offset + k) (row_at k) (Glyph byte)
    row_is = go k
      where
        go : (k : ℕ) → row_at (suc k) ≡ row_with old.size s (offset + k) (row_at k) (Glyph byte)
        go zero = rw inside (ap (λ (n : ℕ). record old.row { wraps = n; seam = Other }) same_wraps)
        go (suc k) = rw inside (ap (λ (n : ℕ). record old.row { wraps = n; seam = Other }) same_wraps)

    ends_is : ends_at (suc k)
        ≡ with_glyph (ends_at k) s.cursor.row (offset + k) (wraps old.size s) (is_stuck (row_at k).seam)
    ends_is =
        go k ∙ ap (λ (p : Pen). with_glyph (ends_at k) p.cursor.row (offset + k) (wraps old.size s)
        (is_stuck (row_at k).seam)) here
      where
        go : (k : ℕ) → ends_at (suc k)
            ≡ with_glyph (ends_at k) old.pen.cursor.row (offset + k) (wraps old.size s) (is_stuck (row_at k).seam)
        go zero = sym (inside_row old.hints.row_ends old.pen.cursor.row (offset + 0) _ _ no_wrap stays.loose)
        go (suc k) =
            sym (inside_row (printed_in old.pen.cursor.row old.hints.row_ends) old.pen.cursor.row (offset + suc k) _ _
            no_wrap refl ∙ printed_twice old.pen.cursor.row old.hints.row_ends)

    empty_is : empty_at (suc k) ≡ min (empty_at k) (old.size.lines - (s.cursor.row + 1))
    empty_is = go k ∙ ap (λ (p : Pen). min (empty_at k) (old.size.lines - (p.cursor.row + 1))) here
      where
        go : (k : ℕ) → empty_at (suc k) ≡ min (empty_at k) below
        go zero = refl
        go (suc k) = sym (min_twice old.hints.empty_rows below)

    not_so : (times : Option Times) (holds : Bool) (place : ℕ) → holds ≡ false → times ≡ counted times holds place
    not_so times holds place never = sym (ap (λ (b : Bool). counted times b place) never)

    hints_is : hints_at (suc k) ≡ hints_with (walk_at k) s (offset + k) (Glyph byte) rest
    hints_is =
        changed_so old.hints _ _ _ _ _ _ _ _ _ _ _ _ _ _ _ _ _ _ ends_is
        (not_so old.hints.wide_characters _ (offset + k) (no_wide_character byte n.plain old.size s rest))
        (not_so old.hints.two_byte_letters _ (offset + k + 1) (no_two_byte_letter byte old.size s rest n.ends))
        (not_so old.hints.latin_letters _ (offset + k + 1) (no_latin_letter byte old.size s rest n.ends))
        (not_so old.hints.board_codes _ (offset + k) (no_board_code byte old.size s rest n.no_code))
        (times_suc old.hints.blinking_glyphs blinks k offset
        ∙ ap (λ (p : Pen). counted (counted_times old.hints.blinking_glyphs blinks k offset)
        (not old.non_blink && nat_le 0x80 p.attribute) (offset + k)) here)
        (ap (λ (b : ℕ). counted (counted_along old.hints.seen_glyphs (seen_at run) offset k) (is_seen b) (offset + k))
        n.byte_is)
        (ap₂ (λ (b : ℕ) (p : Pen).
        counted (counted_along old.hints.dark_glyphs (dark_at run old.pen.attribute) offset k)
        (is_seen b && p.attribute == 0x08) (offset + k)) n.byte_is here)
        empty_is

  step_by_byte : KeptByBytes (λ k front. HasWalked first front true (walk_at k)) offset run behind
  step_by_byte k byte front rest n h =
      walked_token first (walk_at k) front (Glyph byte) (byte ∷ []) rest h n.whole (walk_at (suc k)) (offset + k)
      n.starts
      (record {
        size = refl;
        non_blink = refl;
        pen = λ s e. byte_further old.size old.pen k byte (omega (arith, n.within, stays.stays)) s e;
        row = λ s e. row_is k byte front rest n s e;
        loose_before = refl;
        hints = λ s e. hints_is k byte front rest n s e;
      })

  begins : HasWalked first front true (walk_at 0)
  begins =
      subst (λ (w : Walk). HasWalked first front true w) (sym (ap₂ (λ (p : Pen) (t : Option Times).
      record old { pen = p; hints = record old.hints { blinking_glyphs = t } }) (further_zero old.pen)
      (times_zero old.hints.blinking_glyphs blinks offset))) h

  -- after the whole run, which has a byte
  is_past : (k : ℕ) → length run ≡ suc k → walk_at (length run) ≡ walk_past old run offset
  is_past k long = ap₂ (λ (row : Row) (m : RowEnds × ℕ × Option Times). record old {
    pen = further old.pen (length run);
    row = row;
    loose_before = m.2;
    hints = record old.hints {
      row_ends = m.0;
      blinking_glyphs = counted_times old.hints.blinking_glyphs blinks (length run) offset;
      seen_glyphs = counted_along old.hints.seen_glyphs (seen_at run) offset (length run);
      dark_glyphs = counted_along old.hints.dark_glyphs (dark_at run old.pen.attribute) offset (length run);
      empty_rows = m.1;
    };
  }) (ap row_at long) (ap (λ (n : ℕ). (ends_at n, empty_at n, loose_at n)) long)

  one_before : (n : ℕ) → 0 < n → (k : ℕ) × (n ≡ suc k)
  one_before zero some = absurd (omega (arith, some))
  one_before (suc k) some = (k, refl)

  pub walked_run : 0 < length run → (new : Walk) → new ≡ walk_past old run offset
      → HasWalked first (front_past front run behind) true new
  walked_run some new is =
      let (k, long) = one_before (length run) some in
      subst (λ (w : Walk). HasWalked first (front_past front run behind) true w) (is_past k long ∙ sym is)
      (kept_past (λ k front. HasWalked first front true (walk_at k)) offset run behind front bytes step_by_byte next
      begins)
