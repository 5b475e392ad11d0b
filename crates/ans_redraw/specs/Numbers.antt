-- Numbers as they are written, one after the other.
use Rattle.std.specs.Prelude.{ℕ, List, [], ◌∷◌, ◌++◌, decimal}
use Rattle.std.specs.List.{flat_map}
use Rattle.ans_model.specs.Bytes.{semicolon}

-- numbers, each followed by a semicolon
abbrev pub listed : List ℕ → List ℕ
listed numbers = flat_map (λ n. decimal n ++ semicolon ∷ []) numbers
