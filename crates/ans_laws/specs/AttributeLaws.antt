-- What each line of the table of colours does to an attribute's fields: foreground in bits 0 to 2, bright in bit 3,
-- background in bits 4 to 6, blink in bit 7.
use Rattle.std.specs.Prelude.{◌≡◌, ℕ, ◌+◌, ◌/◌, ◌%◌, ◌<◌, Bool, ◌||◌, ◌&&◌, ◌==◌, nat_le, IsFalse, List, [], ◌∷◌, ◌++◌}
use Rattle.std.specs.Prelude.{slice_index}
use Rattle.std.specs.List.{list_any}
use Rattle.ans_model.specs.Bytes.{IsByte}
use Rattle.ans_model.specs.Screen.Attribute.{attribute_after, attribute_after_all}

-- bits 0 to 2
abbrev pub foreground : ℕ → ℕ
foreground a = a % 8

-- bit 3
abbrev pub bright : ℕ → ℕ
bright a = a / 8 % 2

-- bits 4 to 6
abbrev pub background : ℕ → ℕ
background a = a / 16 % 8

-- bit 7
abbrev pub blink : ℕ → ℕ
blink a = a / 128

-- black, red, green, yellow, blue, magenta, cyan and white; blue is bit 0, green bit 1, red bit 2
abbrev pub colour : ℕ → ℕ
colour i = slice_index (0 ∷ 4 ∷ 2 ∷ 6 ∷ 1 ∷ 5 ∷ 3 ∷ 7 ∷ []) i

-- the new attribute has these fields
pub record HasFields (new f b g l : ℕ) : Type 0 where
  pub foreground_is : foreground new ≡ f
  pub bright_is : bright new ≡ b
  pub background_is : background new ≡ g
  pub blink_is : blink new ≡ l

-- 0, 1, 4, 5, 7, 8, 30 to 37 and 40 to 47
abbrev pub is_colour_parameter : ℕ → Bool
is_colour_parameter p = list_any (λ q. p == q) (0 ∷ 1 ∷ 4 ∷ 5 ∷ 7 ∷ 8 ∷ [])
    || ((nat_le 30 p && nat_le p 37) || (nat_le 40 p && nat_le p 47))

-- What each parameter does. One that sets a field keeps the others.
pub record ParametersSetFields : Type 0 where
  -- white on black, neither bright nor blinking
  pub reset : (a : ℕ) → IsByte a → HasFields (attribute_after a 0) 7 0 0 0
  pub sets_bright : (a : ℕ) → IsByte a → HasFields (attribute_after a 1) (foreground a) 1 (background a) (blink a)
  -- 4 stands for a blue foreground (profile)
  pub sets_blue : (a : ℕ) → IsByte a → HasFields (attribute_after a 4) 1 (bright a) (background a) (blink a)
  pub sets_blink : (a : ℕ) → IsByte a → HasFields (attribute_after a 5) (foreground a) (bright a) (background a) 1
  -- 7 and 8 set both colours (profile)
  pub black_on_white : (a : ℕ) → IsByte a → HasFields (attribute_after a 7) 0 (bright a) 7 (blink a)
  pub black_on_black : (a : ℕ) → IsByte a → HasFields (attribute_after a 8) 0 (bright a) 0 (blink a)
  pub sets_foreground : (a i : ℕ) → IsByte a → i < 8
      → HasFields (attribute_after a (30 + i)) (colour i) (bright a) (background a) (blink a)
  pub sets_background : (a i : ℕ) → IsByte a → i < 8
      → HasFields (attribute_after a (40 + i)) (foreground a) (bright a) (colour i) (blink a)
  -- any other number changes nothing (profile)
  pub others : (a p : ℕ) → IsFalse (is_colour_parameter p) → attribute_after a p ≡ a

-- no parameters change nothing
abbrev pub NoneChangeNothing : Type 0
NoneChangeNothing = (a : ℕ) → attribute_after_all a [] ≡ a

-- a parameter after others does to the attribute that they give what it does by itself
abbrev pub EachAfterTheOthers : Type 0
EachAfterTheOthers = (a p : ℕ) (others : List ℕ)
    → attribute_after_all a (others ++ p ∷ []) ≡ attribute_after (attribute_after_all a others) p
