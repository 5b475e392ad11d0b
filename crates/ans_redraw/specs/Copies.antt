-- What an array has taken.
use Rattle.std.specs.Prelude.{◌≡◌, ℕ, ◌+◌, ◌≤◌, List, ◌++◌, length, take}
use Rattle.ans_redraw.specs.declared.sink.Copy.{Copy}

-- these bytes are taken, if there is room for them after those taken before, and the array is as long as it was
pub record Copies (old new : Copy) (bytes : List ℕ) : Type 0 where
  pub same_array : new.array.ghost_name ≡ old.array.ghost_name
  pub used : old.used + length bytes ≤ length old.array.now → new.used ≡ old.used + length bytes
  pub taken : old.used + length bytes ≤ length old.array.now
      → take new.used new.array.now ≡ take old.used old.array.now ++ bytes
  pub same_length : length new.array.now ≡ length old.array.now
