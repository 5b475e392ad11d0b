-- What the mending leaves, and the place that it takes.
use Rattle.std.proofs.Common.{◌≡◌, inl, inr, ℕ, ◌+◌, ◌-◌, ◌<◌, ◌≤◌, [], ◌∷◌, ap, ap₂, arith, min, replicate}
use Rattle.std.specs.Prelude.{bit_or}
use Rattle.std.specs.Int.Bits.{and_zero_r}
use Rattle.ans_model.specs.declared.cell.Position.{Position}
use Rattle.ans_model.specs.declared.fault.Cause.{Cause}
use Rattle.ans_model.specs.declared.fault.Cause.TheVariants.{OutsideScreen}
use Rattle.ans_model.specs.Sequence.TokenKind.{Place}
use Rattle.ans_model.specs.Screen.Attribute.{attribute_after_all}
use Rattle.ans_model.specs.Screen.Beginning.{LeavesClearedScreen}
use Rattle.ans_model.specs.Screen.StartClass.{cleared}
use Rattle.ans_model.specs.Screen.State.{Size, State, at, cell_count}
use Rattle.ans_model.specs.Screen.Step.{blank_cell}
use Rattle.ans_model.specs.Verdict.TokenFault.{HasStaticFault}

-- the reset of colours leaves nothing of an attribute
pub reset : (a : ℕ) → attribute_after_all a (0 ∷ 37 ∷ 40 ∷ []) ≡ 0x07
reset a = ap (λ (v : ℕ). attribute_after_all (bit_or v 0x07) (37 ∷ 40 ∷ [])) (and_zero_r a)

-- the place of row 1 and column 1 is home on each screen
pub home_is : (z : Size) → at (min (1 - 1) z.lines) (min (1 - 1) (z.width - 1)) ≡ at 0 0
home_is z = ap₂ at (omega arith) (omega arith)

abbrev cleared_with : Size → ℕ → Position → State
cleared_with z a p = record (cleared z) {
  screen = replicate (cell_count z) (blank_cell a);
  cursor = p;
  saved = p;
  attribute = a;
}

pub leaves_cleared : LeavesClearedScreen
leaves_cleared z s = ap₂ (cleared_with z) (reset s.attribute) (home_is z)

-- a place in the first column of a row, or of the spare row, is on the screen
pub place_is_within : (z : Size) (n : ℕ) (cause : Cause) → n ≤ z.lines + 1 → 0 < z.width
    → ¬ HasStaticFault z (Place n 1) cause
place_is_within z n OutsideScreen le w (inl below) = absurd (none below)
  where
    none : z.lines + 1 < n → ⊥
    none h = omega arith
place_is_within z n OutsideScreen le w (inr beside) = absurd (none w beside)
  where
    none : 0 < z.width → z.width < 1 → ⊥
    none h g = omega arith
place_is_within z n _ le w h = h
