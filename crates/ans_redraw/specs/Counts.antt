-- Bytes that are counted.
use Rattle.std.specs.Prelude.{◌≡◌, ℕ, ◌+◌, ◌-◌, ◌^◌, ◌<◌, min, List, length}
use Rattle.ans_redraw.specs.declared.sink.Count.{Count}

-- The count has grown by this many bytes, or up to the largest number there is.
abbrev pub Counts : Count → Count → List ℕ → Type 0
Counts old new bytes = old.bytes < 2 ^ 64 → new.bytes ≡ min (old.bytes + length bytes) (2 ^ 64 - 1)
