-- Which classes of starts cover which.
use Rattle.std.proofs.Common.{◌≡◌, ◌↔◌, ℕ, ◌<◌, Bool, true, false, Some, refl, sym, ◌∙◌, ap, arith, replicate}
use Rattle.std.proofs.Common.{unwrap_or}
use Rattle.std.specs.Prelude.{IsTrue, ◌-◌, slice_get, if◌then◌else◌}
use Rattle.ans_model.specs.declared.cell.Cell.{Cell}
use Rattle.ans_model.specs.declared.cell.Position.{Position}
use Rattle.ans_model.specs.Screen.State.{Size, IsSize, at, cell, cell_count}
use Rattle.ans_model.specs.Screen.Step.{blank_cell}
use Rattle.ans_model.specs.Screen.StartClass.{Covers, cleared, IsStart, low_start, high_start}
use Rattle.ans_model.specs.declared.start.Start.{Start}
use Rattle.ans_model.proofs.ClassLemmas.{covers_starts}
use Rattle.ans_model.proofs.PositionLemmas.{index-lt}
use Rattle.ans_model.proofs.Slices.{slice_get-replicate}
use Rattle.ans_model.proofs.StartLemmas.{low_is_start, high_is_start}
use Rattle.ans_check_laws.specs.Starts.{HasStartsOf}

-- a part that has its cleared value, and would else have another, is known
known_by_value : {A : Type 0} (known : Bool) (x y : A) → (y ≡ x → ⊥) → (if known then x else y) ≡ x → IsTrue known
known_by_value true x y other e = refl
known_by_value false x y other e = absurd (other e)

-- a screen has a cell
some_cells : (z : Size) → IsSize z → 0 < cell_count z
some_cells z size = omega (arith, index-lt z (at 0 0) (omega arith, size.some_columns))

-- the byte of a cell
byte_of : Cell → ℕ
byte_of c = c.byte

-- a screen of zero bytes is not one of blanks
zeros_not_blanks : (n : ℕ) → 0 < n → replicate n (cell 0x00 0x00) ≡ replicate n (blank_cell 0x07) → ⊥
unfolding byte_of
zeros_not_blanks n some e =
    let cells : Some (cell 0x00 0x00) ≡ Some (blank_cell 0x07) =
    sym (slice_get-replicate n (cell 0x00 0x00) 0 some) ∙ ap (λ xs. slice_get xs 0) e
    ∙ slice_get-replicate n (blank_cell 0x07) 0 some in
    let bytes : 0x00 ≡ 0x20 = ap (λ o. byte_of (unwrap_or o (cell 0x00 0x00))) cells in
    omega (arith, bytes)

-- the last position is not the first
last_not_home : (z : Size) (column : ℕ) → IsSize z → at z.lines column ≡ at 0 0 → ⊥
last_not_home z column size e =
    let rows : z.lines ≡ 0 = ap (λ (p : Position). p.row) e in
    omega (arith, rows, size.some_lines)

-- from the starts of a class, what it knows
covered : (z : Size) (a b : Start) → IsSize z → HasStartsOf z a b → Covers a b
covered z a b size has =
    let low : IsStart z a (low_start z b) = has (low_start z b) (low_is_start z b size.some_columns) in
    let high : IsStart z a (high_start z b) = has (high_start z b) (high_is_start z b size.some_columns) in
    record {
      screen = λ k. known_by_value b.screen (cleared z).screen (replicate (cell_count z) (cell 0x00 0x00))
          (zeros_not_blanks (cell_count z) (some_cells z size)) (low.screen k);
      cursor = λ k. known_by_value b.cursor (at 0 0) (at z.lines (z.width - 1))
          (last_not_home z (z.width - 1) size) (high.cursor k);
      saved = λ k. known_by_value b.saved (at 0 0) (at z.lines (z.width - 1))
          (last_not_home z (z.width - 1) size) (high.saved k);
      colours = λ k. known_by_value b.colours 0x07 0x00 (λ e. omega (arith, e)) (low.attribute k);
      wrap = λ k. known_by_value b.wrap true false (λ e. cc) (low.wrap k);
    }

pub covers_starts_exactly : (z : Size) (a b : Start) → IsSize z → Covers a b ↔ HasStartsOf z a b
covers_starts_exactly z a b size = (λ covers s start. covers_starts z a b s covers start, covered z a b size)
