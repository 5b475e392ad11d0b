-- More of a row is held.
use Rattle.std.proofs.Common.{◌≡◌, ◌≢◌, ℕ, ◌+◌, ◌*◌, ◌/◌, ◌≤◌, ◌<◌, Bool, List, min, max, length, get_or, ap, sym}
use Rattle.std.proofs.Common.{◌∙◌, ◌⊎◌, inl, inr, arith, refl}
use Rattle.std.proofs.lemmas.Bool.{cases_lt}
use Rattle.std.proofs.lemmas.Bool.Decides.{eqb_tells}
use Rattle.std.proofs.lemmas.List.{get_or-set_same, get_or-set_other}
use Rattle.ans_screen.specs.RowCells.{Planes, Stale, state_of, state_in, states_of, byte_cell, cell_in_grid}
use Rattle.ans_screen.specs.RowCells.{never_written, held_row, holds_none, HasRow, SameBytes, SameRows, ShowsSame}
use Rattle.ans_screen.specs.RowCells.{HasBlanks, IsMarked, IsHeldRow}
use Rattle.ans_screen.specs.declared.row_planes.RowState.{RowState}
use Rattle.ans_screen.proofs.Places.{row_of, places_of}
use Rattle.ans_screen.proofs.RowCells.{same_byte_cell, cell_in_state, state_here, in_held, off_held, same_cells}

-- the same after two steps
pub same_both : {g mid new : Planes} → SameRows g mid → SameRows mid new → SameRows g new
same_both a b = record {
  held = b.held ∙ a.held;
  round = b.round ∙ a.round;
  blank = b.blank ∙ a.blank;
  width = b.width ∙ a.width;
  rows = b.rows ∙ a.rows;
}

two_steps : (g mid new : Planes) (i : ℕ) → SameBytes g mid i → SameBytes mid new i → SameBytes g new i
two_steps g mid new i a b = record {
  glyph = b.glyph ∙ a.glyph;
  glyph_known = b.glyph_known ∙ a.glyph_known;
  bits_known = b.bits_known ∙ a.bits_known;
  value = b.value ∙ a.value;
}

-- What is held of a row is marked, the blank is written before and behind it, and the row is said to hold all of that.
pub record IsWidened (g a b c n : Planes) (row from to : ℕ) (held wide : RowState) : Type 0 where
  pub row_there : row < length g.held
  pub holds : IsHeldRow g row held
  pub start : row * g.width ≤ from
  pub stop : to ≤ row * g.width + g.width
  pub marks : IsMarked held wide.known g a
  pub front : HasBlanks (state_of wide.known) a b from held.first
  pub back : HasBlanks (state_of wide.known) b c held.end to
  pub marked : SameRows g a
  pub fronted : SameRows a b
  pub backed : SameRows b c
  pub has : HasRow c n row wide
  pub round : wide.round ≡ c.round
  pub first : wide.first ≡ min held.first from
  pub end : wide.end ≡ max held.end to

module _ {g a b c n : Planes} {row from to : ℕ} {held wide : RowState}
    (h : IsWidened g a b c n row from to held wide) where
  -- bytes alone are written before the row is
  frame : SameRows g c
  frame = same_both (same_both h.marked h.fronted) h.backed

  width : n.width ≡ g.width
  width = h.has.width ∙ frame.width

  blank : n.blank ≡ g.blank
  blank = h.has.blank ∙ frame.blank

  bytes_written : (i : ℕ) → SameBytes c n i
  bytes_written i = record {
    glyph = ap (λ (xs : List ℕ). get_or xs i 0) h.has.shown.glyphs;
    glyph_known = ap (λ (xs : List ℕ). get_or xs i 0) h.has.known.glyphs_known;
    bits_known = ap (λ (xs : List ℕ). get_or xs i 0) h.has.known.bits_known;
    value = ap (λ (xs : List ℕ). get_or xs i 0) h.has.shown.values;
  }

  -- a cell of the row that was not held
  was_blank : (i : ℕ) → i / g.width ≡ row → (i < held.first) ⊎ (held.end ≤ i) → cell_in_grid g i ≡ g.blank
  was_blank i at (inl before) =
      cell_in_state g Stale i (h.holds.before i (places_of g.width row i g.some_width at).0 before)
  was_blank i at (inr past) =
      cell_in_state g Stale i (h.holds.after i past (places_of g.width row i g.some_width at).1)

  -- the bytes within stand for the cells that were there
  stands : (i : ℕ) → wide.first ≤ i → i < wide.end → i / g.width ≡ row
      → byte_cell (state_of wide.known) c i ≡ cell_in_grid g i
  stands i le lt at = elim (cases_lt i held.first) [
    | inl before ↦
        same_byte_cell (state_of wide.known) b c i h.backed.blank
        (h.back.outside i (inl (omega (arith, h.holds.ordered))))
        ∙ (h.front.inside i (omega arith) before
        ∙ (h.fronted.blank ∙ h.marked.blank
        ∙ sym (was_blank i at (inl before))))
    | inr after ↦ elim (cases_lt i held.end) [
      | inl within ↦
          same_byte_cell (state_of wide.known) b c i h.backed.blank (h.back.outside i (inl within))
          ∙ (same_byte_cell (state_of wide.known) a b i h.fronted.blank (h.front.outside i (inr after))
          ∙ (h.marks.inside i after within
          ∙ sym (cell_in_state g (state_of held.known) i (h.holds.inside i after within))))
      | inr past ↦
          h.back.inside i past (omega arith)
          ∙ (frame.blank ∙ sym (was_blank i at (inr past)))
    ]
  ]

  -- and the others are as they were
  stays : (i : ℕ) → (i < wide.first) ⊎ (wide.end ≤ i) → SameBytes g n i
  stays i (inl before) =
      two_steps g a n i (h.marks.outside i (inl (omega arith)))
      (two_steps a b n i (h.front.outside i (inl (omega arith)))
      (two_steps b c n i (h.back.outside i (inl (omega (arith, h.holds.ordered)))) (bytes_written i)))
  stays i (inr past) =
      two_steps g a n i (h.marks.outside i (inr (omega arith)))
      (two_steps a b n i (h.front.outside i (inr (omega (arith, h.holds.ordered))))
      (two_steps b c n i (h.back.outside i (inr (omega arith))) (bytes_written i)))

  in_row : (i : ℕ) → wide.first ≤ i → i < wide.end → i / g.width ≡ row
  in_row i le lt =
      row_of g.width row i (omega (arith, h.holds.start))
      (omega (arith, h.holds.stop))

  -- the state of a cell of the row then
  state_then : (i : ℕ) → i / g.width ≡ row → states_of n i ≡ state_in n.round wide i
  state_then i at =
      state_here n row i wide (ap (λ (w : ℕ). i / w) width ∙ at)
      (sym (rw (h.has.held, frame.held) (get_or-set_same g.held row wide never_written h.row_there)))

  held_then : (i : ℕ) → wide.first ≤ i → i < wide.end → states_of n i ≡ state_of wide.known
  held_then i le lt = state_then i (in_row i le lt) ∙ in_held n.round wide i (h.round ∙ sym h.has.round) le lt

  -- a cell that is the blank before and then
  stale_then : (i : ℕ) → i / g.width ≡ row → (i < wide.first) ⊎ (wide.end ≤ i) → (i < held.first) ⊎ (held.end ≤ i)
      → cell_in_grid n i ≡ cell_in_grid g i
  stale_then i at out off =
      cell_in_state n Stale i (state_then i at ∙ off_held n.round wide i out)
      ∙ (blank ∙ sym (was_blank i at off))

  -- a cell of another row
  same_elsewhere : (i : ℕ) → i / g.width ≢ row → (i < wide.first) ⊎ (wide.end ≤ i)
      → cell_in_grid n i ≡ cell_in_grid g i
  same_elsewhere i other out =
      let state : states_of n i ≡ states_of g i =
      rw (h.has.width, h.has.round, h.has.held, frame.width, frame.round, frame.held)
      (ap (λ (r : RowState). state_in g.round r i)
      (get_or-set_other g.held row (i / g.width) wide never_written other)) in
      cell_in_state n (states_of g i) i state ∙ same_byte_cell (states_of g i) g n i blank (stays i out)

  -- each cell is as it was
  same_then : (i : ℕ) → cell_in_grid n i ≡ cell_in_grid g i
  same_then i = elim (cases_lt i wide.first) [
    | inl before ↦ elim (eqb_tells (i / g.width) row) [
      | inl at ↦ stale_then i at.1 (inl before) (inl (omega arith))
      | inr other ↦ same_elsewhere i other.1 (inl before)
    ]
    | inr after ↦ elim (cases_lt i wide.end) [
      | inl within ↦
          cell_in_state n (state_of wide.known) i (held_then i after within)
          ∙ (same_byte_cell (state_of wide.known) c n i h.has.blank (bytes_written i)
          ∙ stands i after within (in_row i after within))
      | inr past ↦ elim (eqb_tells (i / g.width) row) [
        | inl at ↦ stale_then i at.1 (inr past) (inr (omega arith))
        | inr other ↦ same_elsewhere i other.1 (inr past)
      ]
    ]
  ]

  -- the cells are as they were, and those from `from` up to and without `to` are held
  pub widened : ShowsSame g n
  widened = record {
    cells = same_cells g n width (h.has.rows ∙ frame.rows) same_then;
    width = width;
    rows = h.has.rows ∙ frame.rows;
  }

  pub widened_inside : (i : ℕ) → from ≤ i → i < to → states_of n i ≡ state_of wide.known
  widened_inside i le lt = held_then i (omega arith) (omega arith)

-- a row that holds no cell does so wherever that is said to begin
pub none_held : (g : Planes) (row place : ℕ) (held : RowState) → IsHeldRow g row held → held.first ≡ held.end
    → row * g.width ≤ place → place ≤ row * g.width + g.width → IsHeldRow g row (holds_none g.round place)
none_held g row place held h none start stop =
    let stale : (i : ℕ) → row * g.width ≤ i → i < row * g.width + g.width → states_of g i ≡ Stale =
    λ i le lt. elim (cases_lt i held.first) [
      | inl before ↦ h.before i le before
      | inr past ↦ h.after i (omega arith) lt
    ] in
    record {
      round = refl;
      start = start;
      ordered = omega arith;
      stop = stop;
      inside = λ i le lt. absurd (omega arith);
      before = λ i le lt. stale i le (omega arith);
      after = λ i le lt. stale i (omega arith) lt;
    }

same_bytes : (g : Planes) (i : ℕ) → SameBytes g g i
same_bytes g i = record { glyph = refl; glyph_known = refl; bits_known = refl; value = refl }

same_all : (g : Planes) → SameRows g g
same_all g = record { held = refl; round = refl; blank = refl; width = refl; rows = refl }

-- the blank is written to the first cells that a row holds
pub begun : (g c n : Planes) (row from to : ℕ) (known : Bool) → row < length g.held
    → IsHeldRow g row (holds_none g.round from) → from ≤ to → to ≤ row * g.width + g.width
    → HasBlanks (state_of known) g c from to → SameRows g c → HasRow c n row (held_row c.round known from to)
    → IsWidened g g g c n row from to (holds_none g.round from) (held_row c.round known from to)
begun g c n row from to known there holds le stop blanks same has = record {
  row_there = there;
  holds = holds;
  start = holds.start;
  stop = stop;
  marks = record { inside = λ i le lt. absurd (omega arith); outside = λ i out. same_bytes g i };
  front = record { inside = λ i le lt. absurd (omega arith); outside = λ i out. same_bytes g i };
  back = blanks;
  marked = same_all g;
  fronted = same_all g;
  backed = same;
  has = has;
  round = refl;
  first = omega arith;
  end = omega arith;
}
