-- Bytes with some of them changed.
use Rattle.std.specs.Prelude.{ℕ, ◌+◌, List, ◌++◌, length, take, drop, fold, nat_le, if◌then◌else◌}
use Rattle.std.specs.Borrow.{Bor}

-- the bytes from an offset on are these, where they fit
abbrev pub overwritten : List ℕ → ℕ → List ℕ → List ℕ
overwritten xs at bytes =
    if nat_le (at + length bytes) (length xs) then take at xs ++ (bytes ++ drop (at + length bytes) xs) else xs

-- one edit after the other, each an offset and its bytes
abbrev pub edited : List ℕ → List (ℕ × Bor (List ℕ)) → List ℕ
edited xs edits = fold (λ ys edit. overwritten ys edit.0 edit.1.now) xs edits
