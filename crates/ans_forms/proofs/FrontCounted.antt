-- How many bytes stand before the first of another kind.
use Rattle.std.proofs.Common.{◌≡◌, ℕ, ◌≤◌, Bool, true, false, not, nat_lt, cond, List, length, Option, Some, None}
use Rattle.std.proofs.Common.{refl, ap, ◌∙◌, arith, unwrap_or}
use Rattle.std.specs.List.{position, position_or_len}
use Rattle.std.proofs.lemmas.Bool.Decides.{nat_tests}
use Rattle.std.proofs.lemmas.List.Sums.{prefix_len-le-length}
use Rattle.ans_forms.specs.Pieces.{count_front}

unwrapped_or : (b : Bool) (n m : ℕ) → nat_lt n m ≡ b → n ≤ m → unwrap_or (cond b (Some n) None) m ≡ n
unwrapped_or true n m e h = refl
unwrapped_or false n m e h = grind (arith, nat_tests)

pub front_counted : (passes : ℕ → Bool) (bytes : List ℕ) (place : Option ℕ) (n : ℕ)
    → place ≡ position (λ b. not (passes b)) bytes → n ≡ unwrap_or place (length bytes)
    → n ≡ count_front passes bytes
front_counted passes bytes place n at is =
    let count : ℕ = position_or_len (λ b. not (passes b)) bytes in
    is ∙ ap (λ (o : Option ℕ). unwrap_or o (length bytes)) at
    ∙ unwrapped_or (nat_lt count (length bytes)) count (length bytes) refl
    (prefix_len-le-length (λ (b : ℕ). not (not (passes b))) bytes)
