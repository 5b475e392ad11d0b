-- How the numbers of colours are spelled.
use Rattle.std.proofs.Common.{◌≡◌, inr, ℕ, ◌<◌, ◌≤◌, Bool, true, false, ◌&&◌, ◌||◌, ◌==◌, refl, ap, ◌∙◌}
use Rattle.std.proofs.Common.{List, [], ◌∷◌, ◌++◌, length, map, arith, append_assoc, Ok}
use Rattle.std.specs.Prelude.{decimal, nat_lt, IsTrue}
use Rattle.std.specs.Fmt.{digits}
use Rattle.std.specs.Char.{is_ascii_digit, is_ascii_alphabetic}
use Rattle.std.specs.List.{AllZip, AllByRecursion, join_with_byte, list_all, list_any}
use Rattle.std.specs.Str.Parse.{digits_value}
use Rattle.std.proofs.lemmas.Bool.{ne_eqb, agree_below_at, eqb-true, ltb-true, and_parts, and_right}
use Rattle.std.proofs.lemmas.Bool.Decides.{nat_tests}
use Rattle.std.proofs.lemmas.List.{length-map}
use Rattle.std.proofs.lemmas.List.Folds.{list_any-append}
use Rattle.ans_model.specs.Bytes.{escape, bracket, semicolon}
use Rattle.ans_model.specs.File.Layout.{is_end_mark}
use Rattle.ans_model.specs.declared.mark.Mark.TheVariants.{Unmarked}
use Rattle.ans_model.specs.Sequence.TokenKind.{TokenKind, Colours, Forward, Down, Place}
use Rattle.ans_model.specs.Sequence.Omitted.{omits}
use Rattle.ans_model.specs.Sequence.Spelling.{Number, Raw, SpellsMember, IsInLimit}
use Rattle.ans_model.specs.Sequence.Meaning as means
use Rattle.ans_model.specs.Sequence.Meaning.{meaning}
use Rattle.ans_model.specs.Sequence.Reads.{SpellsToken}
use Rattle.ans_redraw.specs.Colours.{colour_sequence}

-- ---- a number
-- its digits, as a test
abbrev spells_itself : ℕ → Bool
spells_itself n =
    nat_lt 0 (length (decimal n)) && (list_all is_ascii_digit (decimal n) && digits_value 10 (decimal n) == n)

pub record IsSpelled (n : ℕ) : Type 0 where
  pub some_digit : 0 < length (decimal n)
  pub digits_only : list_all is_ascii_digit (decimal n) ≡ true
  pub value : digits_value 10 (decimal n) ≡ n

pub number_spelled : (n : ℕ) → n < 256 → IsSpelled n
unfolding digits
number_spelled n lt =
    let all : spells_itself n ≡ true = agree_below_at spells_itself (λ n. true) 256 n refl lt in
    let one = and_parts (nat_lt 0 (length (decimal n))) _ all in
    let two = and_parts (list_all is_ascii_digit (decimal n)) _ one.1 in
    record {
      some_digit = ltb-true 0 (length (decimal n)) one.0;
      digits_only = two.0;
      value = eqb-true _ n two.1;
    }

-- ---- numbers
-- each is a byte
abbrev pub AreBytes : List ℕ → Type 0
AreBytes ns = AllByRecursion (λ n. n < 256) ns

members_spelled : (ns : List ℕ) → AreBytes ns → AllZip SpellsMember (map Number ns) (map decimal ns)
members_spelled [] h = tt
members_spelled (n ∷ ns) h =
    let one : IsSpelled n = number_spelled n h.0 in
    ((one.some_digit, one.digits_only, one.value), members_spelled ns h.1)

members_in_limit : (ns : List ℕ) → AreBytes ns → AllByRecursion IsInLimit (map Number ns)
members_in_limit [] h = tt
members_in_limit (n ∷ ns) h = (omega (arith, h.0), members_in_limit ns h.1)

numbers_back : (ns : List ℕ) → map means.colour_number (map Number ns) ≡ ns
numbers_back [] = refl
numbers_back (n ∷ ns) = ap (λ (x : List ℕ). n ∷ x) (numbers_back ns)

none_quoted : (ns : List ℕ) → list_any means.is_quoted (map Number ns) ≡ false
none_quoted [] = refl
none_quoted (n ∷ ns) = none_quoted ns

-- the sequence of these numbers
abbrev raw_of : List ℕ → Raw
raw_of ns = record { mark = Unmarked; members = map Number ns; letter = 0x6D }

-- it means these colours
numbers_mean : (n : ℕ) (ns : List ℕ) → meaning (raw_of (n ∷ ns)) ≡ Ok (Colours (n ∷ ns))
numbers_mean n ns = rw (none_quoted ns, numbers_back ns) refl

pub numbers_spelled : (n : ℕ) (ns : List ℕ) → AreBytes (n ∷ ns) → length (n ∷ ns) ≤ 16
    → SpellsToken (Colours (n ∷ ns)) (colour_sequence (n ∷ ns))
numbers_spelled n ns bytes few = inr (record {
  raw = raw_of (n ∷ ns);
  spelled = record {
    loose = record {
      texts = map decimal (n ∷ ns);
      members = members_spelled (n ∷ ns) bytes;
      not_one_omitted = λ e. cc;
      letter = refl;
      whole = refl;
    };
    numbers = members_in_limit (n ∷ ns) bytes;
    count = rw (length-map (n ∷ ns) Number) few;
  };
  means = numbers_mean n ns;
})

-- one number and a letter
module _ (n letter : ℕ) (t : TokenKind) (few : n ≤ 255) where
  one_number : IsTrue (is_ascii_alphabetic letter)
      → meaning (record { mark = Unmarked; members = Number n ∷ []; letter = letter }) ≡ Ok t
      → SpellsToken t (escape ∷ bracket ∷ (decimal n ++ letter ∷ []))
  one_number is_letter means =
      let one : IsSpelled n = number_spelled n (omega arith) in
      inr (record {
        raw = record { mark = Unmarked; members = Number n ∷ []; letter = letter };
        spelled = record {
          loose = record {
            texts = decimal n ∷ [];
            members = ((one.some_digit, one.digits_only, one.value), tt);
            not_one_omitted = λ e. cc;
            letter = is_letter;
            whole = refl;
          };
          numbers = (omega arith, tt);
          count = omega arith;
        };
        means = means;
      })

-- a move to the right by a number
pub number_right : (n : ℕ) → 0 < n → n ≤ 255
    → SpellsToken (Forward n) (escape ∷ bracket ∷ (decimal n ++ 0x43 ∷ []))
number_right n some few = one_number n 0x43 (Forward n) few refl (rw (ne_eqb n 0 (λ e. omega arith)) refl)

-- a move down by a number
pub number_down : (n : ℕ) → 0 < n → n ≤ 255 → SpellsToken (Down n) (escape ∷ bracket ∷ (decimal n ++ 0x42 ∷ []))
number_down n some few = one_number n 0x42 (Down n) few refl (rw (ne_eqb n 0 (λ e. omega arith)) refl)

-- the place of a row
pub number_place : (n : ℕ) → 0 < n → n ≤ 255 → SpellsToken (Place n 1) (escape ∷ bracket ∷ (decimal n ++ 0x48 ∷ []))
number_place n some few = one_number n 0x48 (Place n 1) few refl (rw (ne_eqb n 0 (λ e. omega arith)) refl)

-- ---- no byte is an end mark
digits_unmarked : (ds : List ℕ) → list_all is_ascii_digit ds ≡ true → list_any is_end_mark ds ≡ false
digits_unmarked [] h = refl
digits_unmarked (d ∷ ds) h =
    let both = and_parts (is_ascii_digit d) (list_all is_ascii_digit ds) h in
    let digit : is_ascii_digit d ≡ true = both.0 in
    let no : is_end_mark d ≡ false = grind (arith, nat_tests) in
    rw (no, digits_unmarked ds both.1) refl

pub unmarked_both : (xs ys : List ℕ) → list_any is_end_mark xs ≡ false → list_any is_end_mark ys ≡ false
    → list_any is_end_mark (xs ++ ys) ≡ false
unmarked_both xs ys h g = list_any-append is_end_mark xs ys ∙ rw (h, g) refl

pub number_unmarked : (n : ℕ) → n < 256 → list_any is_end_mark (decimal n) ≡ false
number_unmarked n lt = digits_unmarked (decimal n) (number_spelled n lt).digits_only

numbers_unmarked : (ns : List ℕ) → AreBytes ns
    → list_any is_end_mark (join_with_byte semicolon (map decimal ns)) ≡ false
numbers_unmarked [] h = refl
numbers_unmarked (n ∷ []) h = number_unmarked n h.0
numbers_unmarked (n ∷ m ∷ ns) h =
    unmarked_both (decimal n) (semicolon ∷ join_with_byte semicolon (map decimal (m ∷ ns))) (number_unmarked n h.0)
    (numbers_unmarked (m ∷ ns) h.1)

pub text_unmarked : (ns : List ℕ) → AreBytes ns → list_any is_end_mark (colour_sequence ns) ≡ false
text_unmarked ns h =
    unmarked_both (join_with_byte semicolon (map decimal ns)) (0x6D ∷ []) (numbers_unmarked ns h) refl

-- ---- no number is omitted
-- a digit does not end a number
digit_omits_none : (d c : ℕ) (rest : List ℕ) → is_ascii_digit d ≡ true → omits (d ∷ c ∷ rest) ≡ omits (c ∷ rest)
digit_omits_none d c rest h =
    let no : (d == bracket || d == semicolon) ≡ false = grind (arith, nat_tests) in
    rw no refl

-- nor does one stand where a number may end
digit_is_there : (a d : ℕ) (rest : List ℕ) → is_ascii_digit d ≡ true → omits (a ∷ d ∷ rest) ≡ omits (d ∷ rest)
digit_is_there a d rest h =
    let no : (d == semicolon || d == 0x6D) ≡ false = grind (arith, nat_tests) in
    rw (no, and_right (a == bracket || a == semicolon) false refl) refl

digits_omit_none : (d : ℕ) (ds : List ℕ) (c : ℕ) (rest : List ℕ) → list_all is_ascii_digit (d ∷ ds) ≡ true
    → omits (d ∷ (ds ++ c ∷ rest)) ≡ omits (c ∷ rest)
digits_omit_none d [] c rest h = digit_omits_none d c rest (and_parts (is_ascii_digit d) true h).0
digits_omit_none d (e ∷ ds) c rest h =
    let both = and_parts (is_ascii_digit d) (list_all is_ascii_digit (e ∷ ds)) h in
    digit_omits_none d e (ds ++ c ∷ rest) both.0 ∙ digits_omit_none e ds c rest both.1

-- behind `[` or `;`, a number
number_omits_none : (a : ℕ) (text : List ℕ) (c : ℕ) (rest : List ℕ) → 0 < length text
    → list_all is_ascii_digit text ≡ true → omits (a ∷ (text ++ c ∷ rest)) ≡ omits (c ∷ rest)
number_omits_none a [] c rest some h = absurd (let no : ⊥ = omega arith in no)
number_omits_none a (d ∷ ds) c rest some h =
    digit_is_there a d (ds ++ c ∷ rest) (and_parts (is_ascii_digit d) (list_all is_ascii_digit ds) h).0
    ∙ digits_omit_none d ds c rest h

-- and so numbers
numbers_omit_none : (a n : ℕ) (ns : List ℕ) → AreBytes (n ∷ ns)
    → omits (a ∷ (join_with_byte semicolon (map decimal (n ∷ ns)) ++ 0x6D ∷ [])) ≡ false
numbers_omit_none a n [] h =
    let one = number_spelled n h.0 in
    number_omits_none a (decimal n) 0x6D [] one.some_digit one.digits_only
numbers_omit_none a n (m ∷ ns) h =
    let one = number_spelled n h.0 in
    let more : List ℕ = join_with_byte semicolon (map decimal (m ∷ ns)) in
    ap (λ (x : List ℕ). omits (a ∷ x)) (append_assoc (decimal n) (semicolon ∷ more) (0x6D ∷ []))
    ∙ number_omits_none a (decimal n) semicolon (more ++ 0x6D ∷ []) one.some_digit one.digits_only
    ∙ numbers_omit_none semicolon m ns h.1

pub text_omits_none : (n : ℕ) (ns : List ℕ) → AreBytes (n ∷ ns) → omits (colour_sequence (n ∷ ns)) ≡ false
text_omits_none n ns h = numbers_omit_none bracket n ns h
