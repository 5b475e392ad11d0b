-- Whether a name shows itself, by its first byte and the rest.
use Rattle.std.proofs.Common.{◌≡◌, ℕ, zero, suc, ◌-◌, ◌<◌, ◌≤◌, Bool, true, false, List, [], ◌∷◌, length, drop, arith}
use Rattle.std.proofs.Common.{get_or, refl, sym, Result, Ok, Err}
use Rattle.std.specs.Prelude.{◌&&◌, MatchResult, if◌then◌else◌, is_ok, nat_lt, not}
use Rattle.std.specs.Str.{IsUtf8, is_utf8}
use Rattle.std.proofs.lemmas.Str.{IsUtf8-from_is_utf8, is_utf8-from_IsUtf8}
use Rattle.std.proofs.lemmas.Bool.{lt-ltb, le-ltb}
use Rattle.ans_table.specs.NameText.{wide_size}
use Rattle.ans_table.specs.ShellWord.{is_control, shows_itself}

-- a byte that was passed with its character
pub passed_first : (n : ℕ) (rest : List ℕ) → 0 < n → 0 < length rest
    → shows_itself n rest ≡ shows_itself (n - 1) (drop 1 rest)
passed_first n [] some more = absurd (omega arith)
passed_first zero (b ∷ rest) some more = absurd (omega arith)
passed_first (suc n) (b ∷ rest) some more = let less : suc n - 1 ≡ n = omega arith in rw less refl

-- of three cases the last two
last_case : (low sized : Bool) (a b : Bool) → low ≡ false → sized ≡ true → (if low then a else (sized && b)) ≡ b
last_case low sized a b e f = rw (e, f) refl

no_case : (low sized : Bool) (a b : Bool) → low ≡ false → sized ≡ false → (if low then a else (sized && b)) ≡ false
no_case low sized a b e f = rw (e, f) refl

-- the first byte of a character that is shown as itself
pub wide_shown : (rest : List ℕ) → 0 < length rest → 0x80 ≤ get_or rest 0 0 → 0 < wide_size rest
    → shows_itself 0 rest ≡ shows_itself (wide_size rest - 1) (drop 1 rest)
wide_shown [] more le some = absurd (omega arith)
wide_shown (b ∷ rest) more le some =
    last_case (nat_lt b 0x80) (nat_lt 0 (wide_size (b ∷ rest))) (not (is_control b) && shows_itself 0 rest)
    (shows_itself (wide_size (b ∷ rest) - 1) rest) (le-ltb b 0x80 le) (lt-ltb 0 (wide_size (b ∷ rest)) some)

-- another byte
pub other_hidden : (rest : List ℕ) → 0 < length rest → 0x80 ≤ get_or rest 0 0 → wide_size rest ≤ 0
    → shows_itself 0 rest ≡ false
other_hidden [] more le none = absurd (omega arith)
other_hidden (b ∷ rest) more le none =
    no_case (nat_lt b 0x80) (nat_lt 0 (wide_size (b ∷ rest))) (not (is_control b) && shows_itself 0 rest)
    (shows_itself (wide_size (b ∷ rest) - 1) rest) (le-ltb b 0x80 le) (le-ltb 0 (wide_size (b ∷ rest)) none)

-- ---- UTF-8

not_so : (b : Bool) → (b ≡ true → ⊥) → false ≡ b
not_so true h = absurd (h refl)
not_so false h = refl

-- a text is made of the bytes exactly if they are UTF-8
pub told_by_text : {A E : Type 0} (bytes : List ℕ) (P : A → Type 0) (Q : E → Type 0) (r : Result A E)
    → MatchResult r (λ s. P s × IsUtf8 bytes) (λ e. ¬ (IsUtf8 bytes) × Q e) → is_ok r ≡ is_utf8 bytes
told_by_text bytes P Q (Ok s) h = sym (is_utf8-from_IsUtf8 bytes h.1)
told_by_text bytes P Q (Err e) h = not_so (is_utf8 bytes) (λ yes. h.0 (IsUtf8-from_is_utf8 bytes yes))
