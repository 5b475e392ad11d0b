-- Whether a number of a sequence is omitted, member by member.
use Rattle.std.proofs.Common.{◌≡◌, ℕ, zero, suc, ◌+◌, ◌-◌, ◌<◌, ◌≤◌, ◌&&◌, ◌||◌, ◌==◌, Bool, true, false, List, [], ◌∷◌}
use Rattle.std.proofs.Common.{length, take, drop, get_or, refl, sym, ap, ◌∙◌, arith, IsTrue, inl, inr}
use Rattle.std.specs.Char.{is_ascii_alphabetic, is_ascii_digit}
use Rattle.std.specs.List.{list_all}
use Rattle.std.proofs.lemmas.Bool.{and_left, and_parts, and_right, ne_eqb}
use Rattle.std.proofs.lemmas.Bool.Decides.{nat_tests}
use Rattle.std.proofs.lemmas.List.{get_or-drop, get_or-take, length-drop, length-take-le}
use Rattle.ans_model.specs.Bytes.{bracket, escape, semicolon}
use Rattle.ans_model.specs.Sequence.Omitted.{ends_colour, omits, opens_member}
use Rattle.ans_model.specs.declared.mark.Mark.TheVariants.{Unmarked}
use Rattle.ans_tokens.specs.WholeToken.{IsNumberFront, IsSequenceFront, OpensMember}
use Rattle.ans_tokens.proofs.WholeSequences.{begun_unmarked, letter_at, number_from}

or_none : (x : Bool) → (x || false) ≡ x
or_none true = refl
or_none false = refl

or_from_right : (x y : Bool) → y ≡ false → (x || y) ≡ x
or_from_right x y is = rw is (or_none x)

-- behind the bytes before an index a member begins, and this says whether one of those before it is omitted
pub record OmitsSoFar (bytes : List ℕ) (at : ℕ) (omitted : Bool) : Type 0 where
  pub some : 0 < at
  pub opens : opens_member (get_or bytes (at - 1) 0) ≡ true
  pub omits_is : omitted ≡ omits (take at bytes)

-- one byte more
omits_next : (bytes : List ℕ) (k : ℕ) → suc k < length bytes
    → omits (take (suc (suc k)) bytes)
    ≡ (omits (take (suc k) bytes) || (opens_member (get_or bytes k 0) && ends_colour (get_or bytes (suc k) 0)))
omits_next [] k l = absurd (omega (arith, l))
omits_next (a ∷ []) k l = absurd (omega (arith, l))
omits_next (a ∷ b ∷ bytes) zero l = only (opens_member a && ends_colour b)
  where
    only : (x : Bool) → (x || false) ≡ (false || x)
    only true = refl
    only false = refl
omits_next (a ∷ b ∷ bytes) (suc k) l =
    ap (λ (x : Bool). (opens_member a && ends_colour b) || x) (omits_next (b ∷ bytes) k (omega (arith, l)))
    ∙ grouped (opens_member a && ends_colour b) _ _
  where
    grouped : (x y z : Bool) → (x || (y || z)) ≡ ((x || y) || z)
    grouped true y z = refl
    grouped false y z = refl

-- ---- digits
digit_ends_none : (c : ℕ) → is_ascii_digit c ≡ true → ends_colour c ≡ false
digit_ends_none c h = grind (arith, nat_tests)

letter_no_digit : (c : ℕ) → is_ascii_alphabetic c ≡ true → is_ascii_digit c ≡ false
letter_no_digit c h = grind (arith, nat_tests)

digit_opens_none : (c : ℕ) → is_ascii_digit c ≡ true → opens_member c ≡ false
digit_opens_none c h = grind (arith, nat_tests)

all_at : (p : ℕ → Bool) (bytes : List ℕ) (k : ℕ) → IsTrue (list_all p bytes) → k < length bytes
    → p (get_or bytes k 0) ≡ true
all_at p [] k h l = absurd (omega (arith, l))
all_at p (b ∷ bytes) zero h l = (and_parts (p b) (list_all p bytes) h).0
all_at p (b ∷ bytes) (suc k) h l = all_at p bytes k (and_parts (p b) (list_all p bytes) h).1 (omega (arith, l))

digit_of : (bytes : List ℕ) (at value digits k : ℕ) → IsNumberFront (drop at bytes) value digits → k < digits
    → is_ascii_digit (get_or bytes (at + k) 0) ≡ true
digit_of bytes at value digits k h l =
    let there : get_or (take digits (drop at bytes)) k 0 ≡ get_or bytes (at + k) 0 =
    get_or-take digits (drop at bytes) k 0 l ∙ get_or-drop at bytes k 0 in
    ap is_ascii_digit (sym there)
    ∙ all_at is_ascii_digit (take digits (drop at bytes)) k h.digits
    (omega (arith, l, length-take-le digits (drop at bytes) (omega (arith, h.followed))))

-- digits omit nothing
past_digits : (bytes : List ℕ) (a n : ℕ) → suc a + n ≤ length bytes
    → ((k : ℕ) → k < n → is_ascii_digit (get_or bytes (suc a + k) 0) ≡ true)
    → omits (take (suc a + n) bytes) ≡ omits (take (suc a) bytes)
past_digits bytes a zero l each =
    let same : suc a + 0 ≡ suc a = omega arith in
    ap (λ (k : ℕ). omits (take k bytes)) same
past_digits bytes a (suc n) l each =
    let more : suc a + suc n ≡ suc (suc (a + n)) = omega arith in
    let here : suc (a + n) ≡ suc a + n = omega arith in
    let none : (opens_member (get_or bytes (a + n) 0) && ends_colour (get_or bytes (suc (a + n)) 0)) ≡ false =
    and_right _ _ (ap (λ (k : ℕ). ends_colour (get_or bytes k 0)) here
    ∙ digit_ends_none (get_or bytes (suc a + n) 0) (each n (omega arith))) in
    ap (λ (k : ℕ). omits (take k bytes)) more
    ∙ omits_next bytes (a + n) (omega (arith, l))
    ∙ or_from_right (omits (take (suc (a + n)) bytes)) _ none
    ∙ ap (λ (k : ℕ). omits (take k bytes)) here
    ∙ past_digits bytes a n (omega (arith, l)) (λ k before. each k (omega (arith, before)))

-- ---- a member and the byte behind it
module _ (bytes : List ℕ) (at value digits : ℕ) (omitted : Bool) (h : OmitsSoFar bytes at omitted)
    (read : IsNumberFront (drop at bytes) value digits) (ends : ends_colour (get_or bytes (at + digits) 0) ≡ true)
    (within : at + digits < length bytes) where
  from_before : (a : ℕ) → at ≡ suc a → (n : ℕ) → digits ≡ n
      → omits (take (at + digits + 1) bytes) ≡ (omitted || (n == 0))
  from_before a is zero none =
      let more : at + digits + 1 ≡ suc (suc a) = omega (arith, is, none) in
      let last : at - 1 ≡ a = omega (arith, is) in
      let next : at + digits ≡ suc a = omega (arith, is, none) in
      let opens : opens_member (get_or bytes a 0) ≡ true =
      ap (λ (k : ℕ). opens_member (get_or bytes k 0)) (sym last) ∙ h.opens in
      let there : ends_colour (get_or bytes (suc a) 0) ≡ true =
      ap (λ (k : ℕ). ends_colour (get_or bytes k 0)) (sym next) ∙ ends in
      ap (λ (k : ℕ). omits (take k bytes)) more
      ∙ omits_next bytes a (omega (arith, within, next))
      ∙ rw (opens, there) (ap (λ (x : Bool). x || true) (ap (λ (k : ℕ). omits (take k bytes)) (sym is) ∙ sym h.omits_is))
  from_before a is (suc n) some =
      let more : at + digits + 1 ≡ suc (suc (a + n + 1)) = omega (arith, is, some) in
      let last : a + n + 1 ≡ at + n = omega (arith, is) in
      let all : suc (a + n + 1) ≡ suc a + digits = omega (arith, some) in
      let none : (opens_member (get_or bytes (a + n + 1) 0) && ends_colour (get_or bytes (suc (a + n + 1)) 0)) ≡ false =
      and_left _ _ (ap (λ (k : ℕ). opens_member (get_or bytes k 0)) last
      ∙ digit_opens_none (get_or bytes (at + n) 0) (digit_of bytes at value digits n read (omega (arith, some)))) in
      ap (λ (k : ℕ). omits (take k bytes)) more
      ∙ omits_next bytes (a + n + 1) (omega (arith, within, is, some))
      ∙ or_from_right (omits (take (suc (a + n + 1)) bytes)) _ none
      ∙ ap (λ (k : ℕ). omits (take k bytes)) all
      ∙ past_digits bytes a digits (omega (arith, within, is))
      (λ k before. ap (λ (n : ℕ). is_ascii_digit (get_or bytes (n + k) 0)) (sym is)
      ∙ digit_of bytes at value digits k read before)
      ∙ ap (λ (k : ℕ). omits (take k bytes)) (sym is) ∙ sym h.omits_is
      ∙ sym (or_from_right omitted (suc n == 0) (ne_eqb (suc n) 0 (λ e. absurd (omega (arith, e)))))

  one_less : (n : ℕ) → 0 < n → (a : ℕ) × (n ≡ suc a)
  one_less zero l = absurd (omega (arith, l))
  one_less (suc a) l = (a, refl)

  pub omits_more : omits (take (at + digits + 1) bytes) ≡ (omitted || (digits == 0))
  omits_more = let (a, is) = one_less at h.some in from_before a is digits refl

  -- behind a semicolon the next member begins
  pub omits_on : (new : Bool) → get_or bytes (at + digits) 0 ≡ semicolon → new ≡ (omitted || (digits == 0))
      → OmitsSoFar bytes (at + digits + 1) new
  omits_on new is made =
      let last : at + digits + 1 - 1 ≡ at + digits = omega arith in
      record {
        some = omega arith;
        opens = rw (last, is) refl;
        omits_is = made ∙ sym omits_more;
      }

-- at the first member
pub omits_begun : (bytes : List ℕ) (from : ℕ) → OpensMember bytes from → OmitsSoFar bytes from false
omits_begun bytes from h = record { some = h.some; opens = h.opens; omits_is = sym h.none_omitted }

-- behind `[`
pub opens_first : (bytes : List ℕ) → 3 ≤ length bytes → get_or bytes 0 0 ≡ escape → get_or bytes 1 0 ≡ bracket
    → OpensMember bytes 2
opens_first [] l e b = absurd (omega arith)
opens_first (x ∷ []) l e b = absurd (omega arith)
opens_first (x ∷ y ∷ bytes) l e b = rw (e, b) (record {
  some = omega arith;
  within = omega (arith, l);
  opens = refl;
  none_omitted = refl;
})

-- ---- a letter behind `[`
module _ (bytes : List ℕ) (long : 3 ≤ length bytes) (e : get_or bytes 0 0 ≡ escape) (b : get_or bytes 1 0 ≡ bracket)
    (letter : is_ascii_alphabetic (get_or bytes 2 0) ≡ true) where
  no_digits : IsNumberFront (drop 2 bytes) 0 0
  no_digits = record {
    followed = omega (arith, long, length-drop 2 bytes);
    digits = refl;
    ends = ap is_ascii_digit (get_or-drop 2 bytes 0 0) ∙ letter_no_digit (get_or bytes 2 0) letter;
    value_is = refl;
    in_limit = omega arith;
  }

  pub bare_front : IsSequenceFront bytes Unmarked [] (get_or bytes 2 0) 3
  bare_front =
      let ended = number_from Unmarked [] bytes 0 0 2 (omega (arith, long)) (begun_unmarked bytes long e b) no_digits in
      letter_at Unmarked [] [] bytes 0 0 2 ended.0 (λ z n. refl)
      (λ some. absurd (elim some [ inl l ↦ omega (arith, l) | inr n ↦ n refl ])) (omega (arith, long)) letter

  pub bare_omits : get_or bytes 2 0 ≡ 0x6D → omits (take 3 bytes) ≡ true
  bare_omits is =
      omits_more bytes 2 0 0 false (omits_begun bytes 2 (opens_first bytes long e b)) no_digits (rw is refl)
      (omega (arith, long))
