-- What is known of the starts of a class is the hull of its low and its high start, and describes each start.
use Rattle.std.proofs.Common.{◌≡◌, ℕ, zero, suc, ◌-◌, Bool, true, false, refl, sym, arith, List, [], ◌∷◌, length, map}
use Rattle.std.proofs.Common.{replicate}
use Rattle.std.specs.Prelude.{if◌then◌else◌, IsTrue}
use Rattle.std.specs.List.{AllZip}
use Rattle.std.specs.Int.Bits.{and_zero_r}
use Rattle.ans_model.specs.Screen.State.{Size, State, at, cell, cell_count, IsOnScreen}
use Rattle.ans_model.specs.declared.cell.Cell.{Cell}
use Rattle.ans_model.specs.declared.cell.Position.{Position}
use Rattle.ans_model.specs.Screen.Step.{blank_cell}
use Rattle.ans_model.specs.Screen.StartClass.{IsStart, low_start, high_start}
use Rattle.ans_model.specs.declared.start.Start.{Start}
use Rattle.ans_screen.specs.KnownBits.{known_bits, Agrees}
use Rattle.ans_screen.specs.declared.cell.HalfCell.{HalfCell}
use Rattle.ans_screen.proofs.Places.{map-replicate}
use Rattle.ans_play.specs.HalfStart.{start_cell, start_span, start_attribute, start_wrap, half_start}
use Rattle.ans_play.specs.HalfState.{span, DescribesCell, DescribesPosition, DescribesWrap, Describes}
use Rattle.ans_play.specs.HalfStep.{wrap_of}
use Rattle.ans_play.specs.Hull.{whole_cell, hull}
use Rattle.ans_play.specs.Meet.{meet_bits, meet_cell, meet_screen, meet_span, meet_wrap}
use Rattle.ans_play.proofs.MeetSteps.{same_half}
use Rattle.ans_play.proofs.PairedScreens.{paired-replicate}
use Rattle.ans_play.proofs.SpanLemmas.{same_span, position_within}
use Rattle.ans_play.proofs.Zips.{AllZip-replicate}

-- ---- the hull, part by part
cells_hull : (n : ℕ) (a b : Cell) →
    meet_screen (map whole_cell (replicate n a)) (map whole_cell (replicate n b))
    ≡ replicate n (meet_cell (whole_cell a) (whole_cell b))
cells_hull n a b =
    rw (map-replicate whole_cell n a, map-replicate whole_cell n b)
    (paired-replicate meet_cell n (whole_cell a) (whole_cell b))

screen_hull : (n : ℕ) (known : Bool) →
    meet_screen (map whole_cell (if known then replicate n (blank_cell 7) else replicate n (cell 0 0)))
    (map whole_cell (if known then replicate n (blank_cell 7) else replicate n (cell 255 255)))
    ≡ replicate n (start_cell known)
screen_hull n true = cells_hull n (blank_cell 7) (blank_cell 7)
screen_hull n false = cells_hull n (cell 0 0) (cell 255 255)

span_hull : (z : Size) (known : Bool) →
    (let low : Position = if known then at 0 0 else at 0 0 in
    let high : Position = if known then at 0 0 else at z.lines (z.width - 1) in
    meet_span (span low low) (span high high)) ≡ start_span z known
span_hull z true = refl
span_hull z false = same_span (omega arith) (omega arith) (omega arith) (omega arith)

attribute_hull : (known : Bool) →
    meet_bits (known_bits 0xFF (if known then 7 else 0)) (known_bits 0xFF (if known then 7 else 255))
    ≡ start_attribute known
attribute_hull true = refl
attribute_hull false = refl

wrap_hull : (known : Bool) →
    meet_wrap (wrap_of (if known then true else false)) (wrap_of (if known then true else true)) ≡ start_wrap known
wrap_hull true = refl
wrap_hull false = refl

pub half_start_is_hull : (z : Size) (class : Start) → half_start z class ≡ hull (low_start z class) (high_start z class)
half_start_is_hull z class =
    same_half
    (sym (screen_hull (cell_count z) class.screen))
    (sym (span_hull z class.cursor))
    (sym (span_hull z class.saved))
    (sym (attribute_hull class.colours))
    (sym (wrap_hull class.wrap))

-- ---- each start
-- what is not known describes each cell of a screen
uniform_describes : (h : HalfCell) (xs : List Cell) (n : ℕ) → length xs ≡ n → ((c : Cell) → DescribesCell h c) →
    AllZip DescribesCell (replicate n h) xs
uniform_describes h [] zero e d = tt
uniform_describes h [] (suc n) e d = absurd (omega arith)
uniform_describes h (x ∷ xs) zero e d = absurd (omega arith)
uniform_describes h (x ∷ xs) (suc n) e d = (d x, uniform_describes h xs n (omega arith) d)

screen_describes : (n : ℕ) (b : Bool) (xs : List Cell) → length xs ≡ n →
    (IsTrue b → xs ≡ replicate n (blank_cell 7)) → AllZip DescribesCell (replicate n (start_cell b)) xs
screen_describes n true xs e h = rw (h refl) (AllZip-replicate DescribesCell n _ (blank_cell 7) (refl, refl))
screen_describes n false xs e h = uniform_describes _ xs n e (λ c. (tt, and_zero_r c.attribute))

place_describes : (z : Size) (b : Bool) (p : Position) → IsOnScreen z p → (IsTrue b → p ≡ at 0 0) →
    DescribesPosition (start_span z b) p
place_describes z true p on h =
    rw (h refl) (position_within (omega arith) (omega arith) (omega arith) (omega arith))
place_describes z false p on h = position_within (omega arith) on.0 (omega arith) (omega (arith, on.1))

attribute_describes : (b : Bool) (a : ℕ) → (IsTrue b → a ≡ 7) → Agrees (start_attribute b) a
attribute_describes true a h = rw (h refl) refl
attribute_describes false a h = and_zero_r a

wrap_describes : (b w : Bool) → (IsTrue b → w ≡ true) → DescribesWrap (start_wrap b) w
wrap_describes true w h = h refl
wrap_describes false w h = tt

pub start_describes : (z : Size) (class : Start) (s : State) → IsStart z class s → Describes (half_start z class) s
start_describes z class s h = record {
  screen = screen_describes (cell_count z) class.screen s.screen h.well_formed.fits.cells h.screen;
  cursor = place_describes z class.cursor s.cursor h.well_formed.fits.cursor h.cursor;
  saved = place_describes z class.saved s.saved h.well_formed.fits.saved h.saved;
  attribute = attribute_describes class.colours s.attribute h.attribute;
  wrap = wrap_describes class.wrap s.wrap h.wrap;
}
