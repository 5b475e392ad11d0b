-- The elements of a list copied row by row.
use Rattle.std.proofs.Common.{◌≡◌, ℕ, ◌+◌, ◌*◌, ◌≤◌, List, ◌++◌, take, drop, length, map, ap, ap₂, sym, ◌∙◌, arith}
use Rattle.std.proofs.lemmas.List.{map-append}
use Rattle.std.proofs.lemmas.Slice.{take-put_mid}
use Rattle.std.proofs.Math.Seq.{take-add}
use borrow.Rule.Slice.PartMut.{put_mid}

-- one more row is copied
pub row_copied : {X : Type 0} (f : X → ℕ) (cells : List X) (bytes part : List ℕ) (row w k : ℕ)
    → row * w ≤ length bytes → length part ≡ w
    → take (row * w) bytes ≡ map f (take (row * w) cells)
    → part ≡ map f (take w (drop (row * w) cells))
    → take ((row + 1) * w) (put_mid (row * w) k bytes part) ≡ map f (take ((row + 1) * w) cells)
row_copied f cells bytes part row w k within long before here =
    let next : (row + 1) * w ≡ row * w + w = omega arith in
    take-put_mid (row * w) k bytes part ((row + 1) * w) (omega (arith, next, long)) within
    ∙ (ap₂ (λ (xs ys : List ℕ). xs ++ ys) before here
    ∙ (sym (map-append f (take (row * w) cells) (take w (drop (row * w) cells)))
    ∙ ap (λ xs. map f xs) (sym (take-add (row * w) w cells) ∙ ap (λ (n : ℕ). take n cells) (sym next))))
