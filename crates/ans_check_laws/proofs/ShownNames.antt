-- A name by its first byte and the rest: what is so of what shows each byte or character is so of what shows the name.
use Rattle.std.proofs.Common.{◌≡◌, ◌∙◌, ℕ, zero, suc, ◌-◌, ◌<◌, ◌≤◌, Bool, true, false, List, [], ◌∷◌, ◌++◌, length}
use Rattle.std.proofs.Common.{drop, All, Option, Some, None, ap, arith, get_or, refl, subst, sym}
use Rattle.std.specs.Prelude.{if◌then◌else◌, nat_lt}
use Rattle.std.specs.Char.{IsScalar, encode_utf8}
use Rattle.std.specs.Option.{option_map_or}
use Rattle.std.proofs.lemmas.Bool.{lt-ltb, le-ltb}
use Rattle.std.proofs.lemmas.Bool.Decides.{nat_tests}
use Rattle.std.proofs.lemmas.List.{length-drop}
use Rattle.std.proofs.lemmas.List.Elements.{All-drop, All-get_or}
use Rattle.bstr.specs.Utf8.{decoded}
use Rattle.bstr.proofs.lemmas.SoundLemmas.{SpellsChar-decoded}
use Rattle.ans_model.specs.Bytes.{IsByte}
use Rattle.ans_table.specs.NameText.{ascii_shown, byte_escape, is_shown, name_after, name_text, wide_size}

-- a byte that is copied
copied_first : (n : ℕ) (rest : List ℕ) → 0 < n → 0 < length rest
    → name_after n rest ≡ (get_or rest 0 0 ∷ []) ++ name_after (n - 1) (drop 1 rest)
copied_first n [] some more = absurd (omega arith)
copied_first zero (b ∷ rest) some more = absurd (omega arith)
copied_first (suc n) (b ∷ rest) some more =
    let less : suc n - 1 ≡ n = omega arith in
    ap (λ (k : ℕ). b ∷ name_after k rest) (sym less)

-- the second and the third of three cases
second_case : (first second : Bool) (a b c : List ℕ) → first ≡ false → second ≡ true
    → (if first then a else if second then b else c) ≡ b
second_case first second a b c e f = rw (e, f) refl

third_case : (first second : Bool) (a b c : List ℕ) → first ≡ false → second ≡ false
    → (if first then a else if second then b else c) ≡ c
third_case first second a b c e f = rw (e, f) refl

-- a byte below 80h
ascii_first : (rest : List ℕ) → 0 < length rest → get_or rest 0 0 < 0x80
    → name_after 0 rest ≡ ascii_shown (get_or rest 0 0) ++ name_after 0 (drop 1 rest)
ascii_first [] more lt = absurd (omega arith)
ascii_first (b ∷ rest) more lt = rw (lt-ltb b 0x80 lt) refl

-- the first byte of a character that is shown as itself
wide_first : (rest : List ℕ) → 0 < length rest → 0x80 ≤ get_or rest 0 0 → 0 < wide_size rest
    → name_after 0 rest ≡ (get_or rest 0 0 ∷ []) ++ name_after (wide_size rest - 1) (drop 1 rest)
wide_first [] more le some = absurd (omega arith)
wide_first (b ∷ rest) more le some =
    second_case (nat_lt b 0x80) (nat_lt 0 (wide_size (b ∷ rest))) (ascii_shown b ++ name_after 0 rest)
    (b ∷ name_after (wide_size (b ∷ rest) - 1) rest) (byte_escape b ++ name_after 0 rest) (le-ltb b 0x80 le)
    (lt-ltb 0 (wide_size (b ∷ rest)) some)

-- another byte
escaped_first : (rest : List ℕ) → 0 < length rest → 0x80 ≤ get_or rest 0 0 → wide_size rest ≤ 0
    → name_after 0 rest ≡ byte_escape (get_or rest 0 0) ++ name_after 0 (drop 1 rest)
escaped_first [] more le none = absurd (omega arith)
escaped_first (b ∷ rest) more le none =
    third_case (nat_lt b 0x80) (nat_lt 0 (wide_size (b ∷ rest))) (ascii_shown b ++ name_after 0 rest)
    (b ∷ name_after (wide_size (b ∷ rest) - 1) rest) (byte_escape b ++ name_after 0 rest) (le-ltb b 0x80 le)
    (le-ltb 0 (wide_size (b ∷ rest)) none)

-- bytes that are copied, and then the rest
copied_front : (n : ℕ) (front rest : List ℕ) → length front ≡ n
    → name_after n (front ++ rest) ≡ front ++ name_after 0 rest
copied_front zero [] rest e = refl
copied_front zero (b ∷ front) rest e = absurd (omega (arith, e))
copied_front (suc n) [] rest e = absurd (omega (arith, e))
copied_front (suc n) (b ∷ front) rest e =
    ap (λ (v : List ℕ). b ∷ v) (copied_front n front rest (omega (arith, e)))

-- the character that is shown as itself
wide_char : (o : Option ℕ) (size : ℕ) → 0 < (if option_map_or is_shown o false then size else 0)
    → (c : ℕ) × (o ≡ Some c) × (is_shown c ≡ true) × ((if option_map_or is_shown o false then size else 0) ≡ size)
wide_char None size some = absurd (omega (arith, some))
wide_char (Some c) size some = let (shown, is) = go (is_shown c) some in (c, refl, shown, is)
  where
    go : (b : Bool) → 0 < (if b then size else 0) → (b ≡ true) × ((if b then size else 0) ≡ size)
    go true some = (refl, refl)
    go false some = absurd (omega (arith, some))

-- a character that is shown as itself, and then the rest
wide_front : (name : List ℕ) → 0 < length name → 0x80 ≤ get_or name 0 0 → 0 < wide_size name
    → (c : ℕ) × IsScalar c × (is_shown c ≡ true)
    × (name_after 0 name ≡ encode_utf8 c ++ name_after 0 (drop (wide_size name) name))
wide_front name more le some =
    let (c, char, shown, size) = wide_char (decoded name).char (decoded name).size some in
    let spelled = SpellsChar-decoded name c char in
    let whole : name ≡ encode_utf8 c ++ drop (wide_size name) name =
    spelled.bytes ∙ ap (λ (k : ℕ). encode_utf8 c ++ drop k name) (sym size) in (
      c,
      spelled.scalar,
      shown,
      wide_first name more le some ∙ sym (copied_first (wide_size name) name some more)
          ∙ ap (λ (v : List ℕ). name_after (wide_size name) v) whole
          ∙ copied_front (wide_size name) (encode_utf8 c) (drop (wide_size name) name) (spelled.width ∙ sym size),
    )

-- What is so of no text, of two texts if it is so of each, and of what shows a byte or a character: it is so of what
-- shows a name of bytes.
module _ (Q : List ℕ → Type 0) (none : Q []) (both : (a b : List ℕ) → Q a → Q b → Q (a ++ b))
    (ascii : (b : ℕ) → b < 0x80 → Q (ascii_shown b)) (escaped : (b : ℕ) → b < 0x100 → Q (byte_escape b))
    (wide : (c : ℕ) → IsScalar c → is_shown c ≡ true → Q (encode_utf8 c)) where
  shown_first : (b : ℕ) (rest : List ℕ) → IsByte b → Q (name_after 0 rest)
      → ((size : ℕ) → 0 < size → Q (name_after 0 (drop size (b ∷ rest)))) → Q (name_after 0 (b ∷ rest))
  shown_first b rest byte after further = go (nat_lt b 0x80) (nat_lt 0 (wide_size (b ∷ rest))) refl refl
    where
      go : (low far : Bool) → nat_lt b 0x80 ≡ low → nat_lt 0 (wide_size (b ∷ rest)) ≡ far
          → Q (name_after 0 (b ∷ rest))
      go true far e f =
          let lt : b < 0x80 = grind (arith, nat_tests) in
          subst Q {x = ascii_shown b ++ name_after 0 rest} (sym (ascii_first (b ∷ rest) (omega arith) lt))
          (both _ _ (ascii b lt) after)
      go false true e f =
          let size = wide_size (b ∷ rest) in
          let some : 0 < size = grind (arith, nat_tests) in
          let (c, is, shown, same) = wide_front (b ∷ rest) (omega arith) (grind (arith, nat_tests)) some in
          subst Q {x = encode_utf8 c ++ name_after 0 (drop size (b ∷ rest))} (sym same)
          (both _ _ (wide c is shown) (further size some))
      go false false e f =
          subst Q {x = byte_escape b ++ name_after 0 rest}
          (sym (escaped_first (b ∷ rest) (omega arith) (grind (arith, nat_tests)) (grind (arith, nat_tests))))
          (both _ _ (escaped b byte) after)

  shown_within : (most : ℕ) (name : List ℕ) → length name ≤ most → All IsByte name → Q (name_after 0 name)
  shown_within most [] within bytes = none
  shown_within zero (b ∷ rest) within bytes = absurd (omega (arith, within))
  shown_within (suc most) (b ∷ rest) within bytes =
      shown_first b rest (All-get_or IsByte (b ∷ rest) 0 0 (omega arith) bytes)
      (shown_within most rest (omega (arith, within)) (All-drop IsByte 1 (b ∷ rest) bytes))
      (λ size some. shown_within most (drop size (b ∷ rest)) (omega (arith, within, some, length-drop size (b ∷ rest)))
      (All-drop IsByte size (b ∷ rest) bytes))

  pub shown_of : (name : List ℕ) → All IsByte name → Q (name_text name)
  shown_of name bytes = shown_within (length name) name (omega arith) bytes
