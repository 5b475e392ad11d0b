-- Pieces of clean texts.
use Rattle.std.proofs.Common.{◌≡◌, inl, inr, ℕ, zero, suc, ◌/◌, ◌%◌, ◌<◌, Bool, true, false, refl, ◌∙◌, ap, ap₂, subst}
use Rattle.std.proofs.Common.{arith, List, [], ◌∷◌, ◌++◌, length, map, take, drop, get_or, Option, Some, None}
use Rattle.std.proofs.Common.{append-nil, lit<, All}
use Rattle.std.specs.Prelude.{◌&&◌, ◌||◌, not, ◌==◌, nat_lt, nat_le, if◌then◌else◌, decimal, flat_map, encode_utf8}
use Rattle.std.specs.Fmt.{digits, digits_onto, digit_glyph}
use Rattle.std.specs.List.{list_all, join_with_byte}
use Rattle.std.specs.Str.{all_scalars}
use Rattle.std.proofs.Math.Nat.{mod-lt}
use Rattle.std.proofs.Math.Seq.{take-append_seam, drop-append_seam}
use Rattle.std.proofs.Math.Utf8.{scalar, low_scalar}
use Rattle.std.proofs.lemmas.Bool.{and_parts, cases_eq}
use Rattle.std.proofs.lemmas.Bool.Decides.{nat_tests}
use Rattle.std.proofs.lemmas.List.Elements.{All-head, All-tail, All-nil, All-cons, All-append, All-weaker, All-map}
use Rattle.std.proofs.lemmas.List.Elements.{All-take, All-drop}
use Rattle.std.proofs.lemmas.Str.{encode_ascii, encodes-append}
use Rattle.ans_model.specs.Bytes.{IsByte, semicolon}
use Rattle.ans_model.specs.Text.Characters.{glyph_text, shown_bytes}
use Rattle.ans_model.specs.Text.Hexadecimal.{hex_byte}
use Rattle.ans_model.specs.Text.ReportText.{rows}
use Rattle.ans_model.specs.Screen.State.{IsByteCell}
use Rattle.ans_model.specs.declared.cell.Cell.{Cell}
use Rattle.ans_check_laws.specs.CleanTexts.{IsControl, IsCleanCharacter, IsCleanText, HasNoControls}

-- two truths are true together
pub both_true : (a b : Bool) → a ≡ true → b ≡ true → (a && b) ≡ true
both_true a b p q = rw (p, q) refl

pub scalars_append : (xs ys : List ℕ) → all_scalars xs ≡ true → all_scalars ys ≡ true → all_scalars (xs ++ ys) ≡ true
scalars_append [] ys h g = g
scalars_append (x ∷ xs) ys h g =
    let parts = and_parts (scalar x) (all_scalars xs) h in
    both_true (scalar x) (all_scalars (xs ++ ys)) parts.0 (scalars_append xs ys parts.1 g)

-- ---- texts of texts

pub clean_nil : IsCleanText []
clean_nil = record { characters = []; are_characters = refl; spelled = refl; clean = All-nil IsCleanCharacter }

pub clean_append : (a b : List ℕ) → IsCleanText a → IsCleanText b → IsCleanText (a ++ b)
clean_append a b h g = record {
  characters = h.characters ++ g.characters;
  are_characters = scalars_append h.characters g.characters h.are_characters g.are_characters;
  spelled = encodes-append h.characters g.characters ∙ ap₂ (λ (x y : List ℕ). x ++ y) h.spelled g.spelled;
  clean = All-append IsCleanCharacter h.characters g.characters h.clean g.clean;
}

pub clean_if : (test : Bool) (a b : List ℕ) → IsCleanText a → IsCleanText b → IsCleanText (if test then a else b)
clean_if true a b h g = h
clean_if false a b h g = g

pub clean_flat_map : {A : Type 0} (f : A → List ℕ) (xs : List A) → ((x : A) → IsCleanText (f x))
    → IsCleanText (flat_map f xs)
clean_flat_map f [] h = clean_nil
clean_flat_map f (x ∷ xs) h = clean_append (f x) (flat_map f xs) (h x) (clean_flat_map f xs h)

-- a text of what there may be, and one of a test
pub clean_option : {A : Type 0} (f : Option A → List ℕ) → IsCleanText (f None) → ((x : A) → IsCleanText (f (Some x)))
    → (o : Option A) → IsCleanText (f o)
clean_option f h g None = h
clean_option f h g (Some x) = g x

pub clean_bool : (f : Bool → List ℕ) → IsCleanText (f true) → IsCleanText (f false) → (b : Bool) → IsCleanText (f b)
clean_bool f h g true = h
clean_bool f h g false = g

-- what is so of no text, and of two texts where it is so of each
module _ (Q : List ℕ → Type 0) (none : Q []) (both : (a b : List ℕ) → Q a → Q b → Q (a ++ b)) where
  pub of_each : {A : Type 0} (P : A → Type 0) (f : A → List ℕ) (xs : List A) → All P xs → ((x : A) → P x → Q (f x))
      → Q (flat_map f xs)
  of_each P f [] all each = none
  of_each P f (x ∷ xs) all each =
      both (f x) (flat_map f xs) (each x (All-head P x xs all)) (of_each P f xs (All-tail P x xs all) each)

  -- is so of the lines of rows, where it is so of the line of each row of byte cells
  pub of_rows : (line : List Cell → List ℕ) → ((row : List Cell) → All IsByteCell row → Q (line row))
      → (width lines : ℕ) (cells : List Cell) → All IsByteCell cells → Q (flat_map line (rows width lines cells))
  of_rows line each width zero cells h = none
  of_rows line each width (suc lines) cells h =
      both (line (take width cells)) (flat_map line (rows width lines (drop width cells)))
      (each (take width cells) (All-take IsByteCell width cells h))
      (of_rows line each width lines (drop width cells) (All-drop IsByteCell width cells h))

-- ---- one character

clean_character : (c : ℕ) → scalar c ≡ true → IsCleanCharacter c → IsCleanText (encode_utf8 c)
clean_character c is clean = record {
  characters = c ∷ [];
  are_characters = both_true (scalar c) true is refl;
  spelled = append-nil (encode_utf8 c);
  clean = All-cons IsCleanCharacter c [] clean (All-nil IsCleanCharacter);
}

-- a printed character of ASCII, or a line feed
abbrev pub is_plain : ℕ → Bool
is_plain b = (nat_le 0x20 b && nat_lt b 0x7F) || b == 0x0A

plain_below : (b : ℕ) → is_plain b ≡ true → b < 0x7F
plain_below b h = grind (arith, nat_tests)

plain_is_clean : (b : ℕ) → is_plain b ≡ true → IsCleanCharacter b
plain_is_clean b h control = grind (arith, nat_tests)

plain_byte : (b : ℕ) → is_plain b ≡ true → IsCleanText (b ∷ [])
plain_byte b h =
    subst IsCleanText (encode_ascii b (omega (arith, plain_below b h)))
    (clean_character b (low_scalar b (omega (arith, plain_below b h))) (plain_is_clean b h))

-- a text of plain bytes is clean
pub plain_text : (bytes : List ℕ) → list_all is_plain bytes ≡ true → IsCleanText bytes
plain_text [] h = clean_nil
plain_text (b ∷ bytes) h =
    let parts = and_parts (is_plain b) (list_all is_plain bytes) h in
    clean_append (b ∷ []) bytes (plain_byte b parts.0) (plain_text bytes parts.1)

-- ---- numbers

-- what is so of each digit is so of each byte of a number
module _ (p : ℕ → Bool) (digit : (d : ℕ) → d < 10 → p (digit_glyph false d) ≡ true) where
  digits_are : (k n : ℕ) (after : List ℕ) → list_all p after ≡ true
      → list_all p (digits_onto k 10 false n after) ≡ true
  digits_are zero n after h = h
  digits_are (suc k) n after h = by_test (n / 10 == 0) (digits_are k (n / 10) (last ∷ after) more)
    where
      last : ℕ
      last = digit_glyph false (n % 10)

      more : list_all p (last ∷ after) ≡ true
      more = both_true (p last) (list_all p after) (digit (n % 10) (mod-lt n (lit< tt))) h

      by_test : (ends : Bool) → list_all p (digits_onto k 10 false (n / 10) (last ∷ after)) ≡ true
          → list_all p (if ends then last ∷ after else digits_onto k 10 false (n / 10) (last ∷ after)) ≡ true
      by_test true rest = more
      by_test false rest = rest

  pub decimal_is : (n : ℕ) → list_all p (decimal n) ≡ true
  unfolding digits
  decimal_is n = digits_are 64 n [] refl

digit_plain : (d : ℕ) → d < 10 → is_plain (digit_glyph false d) ≡ true
digit_plain d below = grind (arith, nat_tests)

pub clean_decimal : (n : ℕ) → IsCleanText (decimal n)
clean_decimal n = plain_text (decimal n) (decimal_is is_plain digit_plain n)

-- the test of each number below n
abbrev pub all_below : (ℕ → Bool) → ℕ → Bool
all_below p zero = true
all_below p (suc n) = p n && all_below p n

pub below_at : (p : ℕ → Bool) (n b : ℕ) → all_below p n ≡ true → b < n → p b ≡ true
below_at p zero b h l = absurd (omega (arith, l))
below_at p (suc n) b h l = elim (cases_eq b n) [
  | inl e ↦ ap p e ∙ (and_parts (p n) (all_below p n) h).0
  | inr ne ↦ below_at p n b (and_parts (p n) (all_below p n) h).1 (omega arith)
]

all_hex_plain : all_below (λ b. list_all is_plain (hex_byte b)) 256 ≡ true
all_hex_plain = refl

pub clean_hex_byte : (b : ℕ) → IsByte b → IsCleanText (hex_byte b)
clean_hex_byte b byte =
    plain_text (hex_byte b) (below_at (λ n. list_all is_plain (hex_byte n)) 256 b all_hex_plain byte)

-- texts with a plain byte between each two
pub clean_joined : (byte : ℕ) → is_plain byte ≡ true → (texts : List (List ℕ)) → All IsCleanText texts
    → IsCleanText (join_with_byte byte texts)
clean_joined byte plain [] all = clean_nil
clean_joined byte plain (text ∷ []) all = All-head IsCleanText text [] all
clean_joined byte plain (text ∷ next ∷ more) all =
    clean_append text (byte ∷ join_with_byte byte (next ∷ more)) (All-head IsCleanText text (next ∷ more) all)
    (clean_append (byte ∷ []) (join_with_byte byte (next ∷ more)) (plain_byte byte plain)
    (clean_joined byte plain (next ∷ more) (All-tail IsCleanText text (next ∷ more) all)))

-- numbers with a `;` between each two
pub clean_numbers : (numbers : List ℕ) → IsCleanText (join_with_byte semicolon (map decimal numbers))
clean_numbers numbers =
    clean_joined semicolon refl (map decimal numbers)
    (All-map IsCleanText decimal numbers (λ k d within. clean_decimal (get_or numbers k d)))

-- ---- bytes as they are shown

-- whether a byte is shown by a character that is no control character
is_shown_clean : ℕ → Bool
is_shown_clean b =
    scalar (glyph_text b)
    && not (nat_lt (glyph_text b) 0x20 || (nat_le 0x7F (glyph_text b) && nat_lt (glyph_text b) 0xA0))

-- so it is for all bytes
all_shown_clean : all_below is_shown_clean 256 ≡ true
unfolding is_shown_clean
all_shown_clean = refl

no_control : (c : ℕ) → not (nat_lt c 0x20 || (nat_le 0x7F c && nat_lt c 0xA0)) ≡ true → IsControl c → ⊥
no_control c h control = grind (arith, nat_tests)

-- what a byte's character is
record ShownBy (c : ℕ) : Type 0 where
  is : scalar c ≡ true
  no_control : IsControl c → ⊥

shown_by : (b : ℕ) → IsByte b → ShownBy (glyph_text b)
unfolding is_shown_clean
shown_by b byte =
    let c = glyph_text b in
    let parts = and_parts (scalar c) (not (nat_lt c 0x20 || (nat_le 0x7F c && nat_lt c 0xA0)))
    (below_at is_shown_clean 256 b all_shown_clean byte) in
    record { is = parts.0; no_control = no_control c parts.1 }

pub glyph_no_control : (b : ℕ) → IsByte b → ¬ IsControl (glyph_text b)
glyph_no_control b byte = (shown_by b byte).no_control

glyphs_are_characters : (bytes : List ℕ) → All IsByte bytes → all_scalars (map glyph_text bytes) ≡ true
glyphs_are_characters [] h = refl
glyphs_are_characters (b ∷ bytes) h =
    both_true (scalar (glyph_text b)) (all_scalars (map glyph_text bytes)) (shown_by b (All-head IsByte b bytes h)).is
    (glyphs_are_characters bytes (All-tail IsByte b bytes h))

pub shown_has_no_controls : (bytes : List ℕ) → All IsByte bytes → HasNoControls (shown_bytes bytes)
shown_has_no_controls bytes h = record {
  characters = map glyph_text bytes;
  are_characters = glyphs_are_characters bytes h;
  spelled = refl;
  none = All-map (λ c. ¬ IsControl c) glyph_text bytes
      (All-weaker IsByte (λ b. ¬ IsControl (glyph_text b)) glyph_no_control bytes h);
}

-- a text without control characters is clean
pub without_controls_clean : (text : List ℕ) → HasNoControls text → IsCleanText text
without_controls_clean text h = record {
  characters = h.characters;
  are_characters = h.are_characters;
  spelled = h.spelled;
  clean = All-weaker (λ c. ¬ IsControl c) IsCleanCharacter (λ c none control. absurd (none control)) h.characters
      h.none;
}

-- of two lists of which all are so, all of each are
pub all_left : {X : Type 0} (P : X → Type 0) (xs ys : List X) → All P (xs ++ ys) → All P xs
all_left P xs ys h = subst (All P) (take-append_seam xs ys) (All-take P (length xs) (xs ++ ys) h)

pub all_right : {X : Type 0} (P : X → Type 0) (xs ys : List X) → All P (xs ++ ys) → All P ys
all_right P xs ys h = subst (All P) (drop-append_seam xs ys) (All-drop P (length xs) (xs ++ ys) h)

-- Each of the list is a byte. It is a record, so that a search takes it as one fact.
pub record AreBytes (bytes : List ℕ) : Type 0 where
  pub each : All IsByte bytes

pub bytes_one : (b : ℕ) → IsByte b → AreBytes (b ∷ [])
bytes_one b byte = record { each = All-cons IsByte b [] byte (All-nil IsByte) }

pub bytes_take : (n : ℕ) (bytes : List ℕ) → AreBytes bytes → AreBytes (take n bytes)
bytes_take n bytes h = record { each = All-take IsByte n bytes h.each }

pub bytes_drop : (n : ℕ) (bytes : List ℕ) → AreBytes bytes → AreBytes (drop n bytes)
bytes_drop n bytes h = record { each = All-drop IsByte n bytes h.each }

pub bytes_left : (xs ys : List ℕ) → AreBytes (xs ++ ys) → AreBytes xs
bytes_left xs ys h = record { each = all_left IsByte xs ys h.each }

pub bytes_right : (xs ys : List ℕ) → AreBytes (xs ++ ys) → AreBytes ys
bytes_right xs ys h = record { each = all_right IsByte xs ys h.each }

pub clean_shown : (bytes : List ℕ) → AreBytes bytes → IsCleanText (shown_bytes bytes)
clean_shown bytes h = without_controls_clean (shown_bytes bytes) (shown_has_no_controls bytes h.each)

-- ---- a text by its pieces

-- it is plain, or of two texts, or by a test, or of one text for each
pub ruleset clean_forms = (plain_text, clean_append, clean_if, clean_flat_map)

pub ruleset clean_values = (clean_decimal, clean_hex_byte, clean_numbers, clean_shown)

pub ruleset byte_lists = (bytes_take, bytes_drop, bytes_one)

pub ruleset clean_pieces = (clean_forms, clean_values, byte_lists)
