-- The line of a size, piece by piece.
use Rattle.std.proofs.Common.{◌≡◌, ℕ, List, [], ◌∷◌, ◌++◌, append_assoc, ap, sym, codes}

pub pieces : (width lines : List ℕ)
    → codes "size: " ++ (width ++ (codes " x " ++ (lines ++ 0x0A ∷ [])))
    ≡ (codes "size: " ++ (width ++ (codes " x " ++ lines))) ++ 0x0A ∷ []
pieces width lines =
    ap (λ rest. codes "size: " ++ rest) (sym (append_assoc width (codes " x " ++ lines) (0x0A ∷ [])))
