-- Forms of bytes that are counted one after the other, and bytes that are searched for.
use Rattle.std.proofs.Common.{◌≡◌, ℕ, ◌+◌, ◌-◌, ◌<◌, ◌≤◌, Bool, true, false, List, [], ◌∷◌}
use Rattle.std.proofs.Common.{length, take, drop, get_or, slice_index, Option, None, Some, arith, sym, subst, refl}
use Rattle.std.proofs.Common.{suc, true≢false}
use Rattle.std.specs.Prelude.{nat_le, if◌then◌else◌}
use Rattle.std.proofs.lemmas.List.{take_all}
use Rattle.std.specs.List.{list_any}
use Rattle.std.specs.Option.{is_some}
use Rattle.std.proofs.lemmas.Bool.Decides.{nat_tests}
use Rattle.std.proofs.lemmas.List.Folds.{list_any_at}
use Rattle.memchr.specs.Find.{IsFirstByte, is_byte, is_byte2}
use Rattle.ans_pens.specs.Counted.{count_of, counted}
use Rattle.ans_pens.specs.declared.times.Times.{Times}
use Rattle.ans_why.specs.TextDamage.{Form, at_least, comes_in, converted, counted_on, is_pair, other_high}
use Rattle.ans_why.specs.TextDamage.{pair_of_pairs, times_of, wide_character, wide_characters}

-- those of the rest are still to be counted
pub record Counts-on (form : Form) (bytes rest : List ℕ) (before : ℕ) (times : Option Times) : Type 0 where
  pub counts : counted_on form times before (length bytes - length rest) rest ≡ times_of form bytes
  pub within : count_of times ≤ length bytes - length rest
  pub rest_within : length rest ≤ length bytes

pub next : (form : Form) (bytes rest : List ℕ) (before : ℕ) (old new : Option Times) → 1 ≤ length rest
    → Counts-on form bytes rest before old
    → new ≡ counted old (form before rest) (length bytes - length rest)
    → count_of new ≤ length bytes - length rest + 1
    → Counts-on form bytes (take (length rest - 1) (drop 1 rest)) (get_or rest 0 0) new
next form bytes [] before old new some on added within = absurd (omega (arith, some))
next form bytes (first ∷ more) before old new some on added within =
    let offset : ℕ = length bytes - length (first ∷ more) in
    let here : length bytes - length more ≡ offset + 1 = omega (arith, on.rest_within) in
    let all : take (length (first ∷ more) - 1) more ≡ more =
    take_all (length (first ∷ more) - 1) more (omega arith) in
    subst (λ (v : List ℕ). Counts-on form bytes v first new) (sym all) (record {
      counts = rw here (rw added on.counts);
      within = rw here within;
      rest_within = omega (arith, on.rest_within);
    })

-- ---- bytes that are searched for
none_passes : (b : Bool) → (b ≡ true → ⊥) → b ≡ false
none_passes true h = absurd (h refl)
none_passes false h = refl

none_any : (p : ℕ → Bool) (xs : List ℕ) → ((k : ℕ) → k < length xs → ¬ (p (slice_index xs k) ≡ true))
    → list_any p xs ≡ false
none_any p [] h = refl
none_any p (x ∷ xs) h =
    rw (none_passes (p x) (h 0 (omega arith))) (none_any p xs (λ k lt. h (suc k) (omega (arith, lt))))

-- a search finds a byte if and only if there is one
pub any_found : (p : ℕ → Bool) (xs : List ℕ) (r : Option ℕ) → IsFirstByte p xs r → is_some r ≡ list_any p xs
any_found p xs (Some k) h = sym (list_any_at p xs k 0 h.0.high h.1)
any_found p xs None h = sym (none_any p xs (λ k lt. h k (omega arith) lt))

-- a form that never begins is not counted
pub none_counted : (form : Form) (p : ℕ → Bool)
    → ((before b : ℕ) (more : List ℕ) → p b ≡ false → form before (b ∷ more) ≡ false)
    → (bytes : List ℕ) (before offset : ℕ) → ((k : ℕ) → k < length bytes → ¬ (p (slice_index bytes k) ≡ true))
    → counted_on form None before offset bytes ≡ None
none_counted form p never [] before offset h = refl
none_counted form p never (b ∷ bytes) before offset h =
    rw (never before b bytes (none_passes (p b) (h 0 (omega arith))))
    (none_counted form p never bytes b (offset + 1) (λ k lt. h (suc k) (omega (arith, lt))))

no_pair : (b second : ℕ) → is_byte2 0xC2 0xC3 b ≡ false → is_pair b second ≡ false
no_pair b second h = grind (arith, nat_tests)

-- without the first byte of a pair there are none
pub no_pairs : (before b : ℕ) (more : List ℕ) → is_byte2 0xC2 0xC3 b ≡ false → pair_of_pairs before (b ∷ more) ≡ false
no_pairs before b more h = rw (no_pair b (slice_index more 0) h) refl

pub no_wide : (before b : ℕ) (more : List ℕ) → is_byte 0xE2 b ≡ false → wide_character before (b ∷ more) ≡ false
no_wide before b more h = rw h refl

nat_le-false : (n : ℕ) → 1 ≤ n → nat_le n 0 ≡ false
nat_le-false n h = grind (arith, nat_tests)

none_of_them : (b : Bool) (least : ℕ) (times : Option Times) → 1 ≤ least → times ≡ None
    → None ≡ (if b then None else at_least least times)
none_of_them true least times some none = refl
none_of_them false least times some none = rw none (few least some)
  where
    few : (n : ℕ) → 1 ≤ n → None ≡ at_least n None
    few n some = rw (nat_le-false n some) refl

pub no_pairs_there : (bytes : List ℕ) (r : Option ℕ) → IsFirstByte (is_byte2 0xC2 0xC3) bytes r → is_some r ≡ false
    → None ≡ converted bytes
no_pairs_there bytes (Some k) h e = absurd (true≢false e)
no_pairs_there bytes None h e =
    none_of_them (comes_in other_high 0x00 bytes) 8 (times_of pair_of_pairs bytes) (omega arith)
    (none_counted pair_of_pairs (is_byte2 0xC2 0xC3) no_pairs bytes 0 0 (λ k lt. h k (omega arith) lt))

pub no_wide_there : (bytes : List ℕ) (r : Option ℕ) → IsFirstByte (is_byte 0xE2) bytes r → is_some r ≡ false
    → None ≡ wide_characters bytes
no_wide_there bytes (Some k) h e = absurd (true≢false e)
no_wide_there bytes None h e =
    sym (none_counted wide_character (is_byte 0xE2) no_wide bytes 0 0 (λ k lt. h k (omega arith) lt))
