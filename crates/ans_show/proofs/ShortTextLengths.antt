-- How long the parts of what begins a run are.
use Rattle.std.proofs.Common.{◌≡◌, ℕ, ◌<◌, ◌≤◌, Bool, true, false, List, [], ◌∷◌, ◌++◌, length, codes, decimal, refl}
use Rattle.std.proofs.Common.{arith}
use Rattle.std.specs.Prelude.{if◌then◌else◌, nat_le}
use Rattle.std.specs.Fmt.{digits}
use Rattle.std.proofs.lemmas.Bool.Decides.{nat_tests}
use Rattle.ans_model.specs.Bytes.{escape}
use Rattle.ans_show.specs.TerminalText.{parameter, foreground_text, background_text}
use Rattle.ans_show.proofs.EachByte.{all_below, holds_at}

by_test : (n m : ℕ) → nat_le n m ≡ true → n ≤ m
by_test n m h = grind (arith, nat_tests)

-- the texts of sixteen colours, tried one by one
by_trial : (text : ℕ → List ℕ) (most : ℕ) → all_below 16 (λ n. nat_le (length (text n)) most) ≡ true → (c : ℕ)
    → c < 16 → length (text c) ≤ most
by_trial text most all c lt =
    by_test (length (text c)) most (holds_at 16 (λ n. nat_le (length (text n)) most) all c lt)

pub length_start : (blinks : Bool) → length ((escape ∷ codes "[0") ++ (if blinks then parameter 5 else [])) ≤ 5
unfolding digits
length_start true = by_test (length ((escape ∷ codes "[0") ++ parameter 5)) 5 refl
length_start false = by_test (length ((escape ∷ codes "[0") ++ [])) 5 refl

pub length_front : (vga : Bool) (c : ℕ) → c < 16 → length (foreground_text vga c) ≤ 17
unfolding digits
length_front true = by_trial (foreground_text true) 17 refl
length_front false = by_trial (foreground_text false) 17 refl

pub length_back : (vga : Bool) (c : ℕ) → c < 16 → length (background_text vga c) ≤ 17
unfolding digits
length_back true = by_trial (background_text true) 17 refl
length_back false = by_trial (background_text false) 17 refl

pub length_span : (c : ℕ) → c < 16 → length (codes "<span class=\"f" ++ decimal c) ≤ 16
unfolding digits
length_span = by_trial (λ c. codes "<span class=\"f" ++ decimal c) 16 refl

pub length_ground : (c : ℕ) → c < 16 → length (codes " b" ++ decimal c) ≤ 4
unfolding digits
length_ground = by_trial (λ c. codes " b" ++ decimal c) 4 refl

pub length_span_end : (blinks : Bool) → length ((if blinks then codes " k" else []) ++ codes "\">") ≤ 4
length_span_end true = by_test (length (codes " k" ++ codes "\">")) 4 refl
length_span_end false = by_test (length (codes "\">")) 4 refl
