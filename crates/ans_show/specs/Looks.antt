-- How an attribute looks: two of the sixteen colours, and whether its character blinks.
use Rattle.std.specs.Prelude.{ℕ, ◌/◌, ◌%◌, Bool, not, ◌&&◌, nat_le, if◌then◌else◌}

-- The colours by number: bits 0 to 2 are blue, green and red, bit 3 is bright.
pub record Look : Type 0 where
  pub foreground : ℕ
  pub background : ℕ
  pub blinks : Bool

-- An attribute's bit 7 is blink, or with the record's non-blink flag a bright background.
abbrev pub look_of : Bool → ℕ → Look
look_of non_blink attribute = record {
  foreground = attribute % 16;
  background = if non_blink then attribute / 16 else attribute / 16 % 8;
  blinks = not non_blink && nat_le 128 attribute;
}
