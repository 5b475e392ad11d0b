-- Tables of texts.
use Rattle.std.proofs.Common.{◌≡◌, ℕ, zero, suc, ◌+◌, ◌<◌, Bool, true, ◌&&◌, List, [], ◌∷◌, length, get_or, Bor}
use Rattle.std.proofs.Common.{ap, sym, ◌∙◌, arith}
use Rattle.std.specs.Str.{bytes_eq}
use Rattle.std.proofs.lemmas.Bool.{and_parts}
use Rattle.std.proofs.lemmas.Slice.Eq.{bytes_eq-Decides}

-- whether the texts are those of the numbers from n on
abbrev pub are_texts : (ℕ → List ℕ) → ℕ → List (Bor (List ℕ)) → Bool
are_texts text n [] = true
are_texts text n (x ∷ xs) = bytes_eq x.now (text n) && are_texts text (n + 1) xs

text_from : (text : ℕ → List ℕ) (n k : ℕ) (xs : List (Bor (List ℕ))) (d : Bor (List ℕ)) → are_texts text n xs ≡ true
    → k < length xs → (get_or xs k d).now ≡ text (n + k)
text_from text n k [] d h lt = absurd (omega arith)
text_from text n zero (x ∷ xs) d h lt =
    let same : n + 0 ≡ n = omega arith in
    (bytes_eq-Decides x.now (text n)).0 (and_parts (bytes_eq x.now (text n)) (are_texts text (n + 1) xs) h).0
    ∙ sym (ap text same)
text_from text n (suc k) (x ∷ xs) d h lt =
    let same : (n + 1) + k ≡ n + suc k = omega arith in
    text_from text (n + 1) k xs d (and_parts (bytes_eq x.now (text n)) (are_texts text (n + 1) xs) h).1 (omega arith)
    ∙ ap text same

-- a text of a table is that of its place
pub text_at : (text : ℕ → List ℕ) (xs : List (Bor (List ℕ))) (k : ℕ) (d : Bor (List ℕ))
    → are_texts text 0 xs ≡ true → k < length xs → (get_or xs k d).now ≡ text k
text_at text xs k d h lt =
    let same : 0 + k ≡ k = omega arith in
    text_from text 0 k xs d h lt ∙ ap text same
