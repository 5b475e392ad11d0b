-- Plain bytes: no condition of hints that a walk asks of a printed byte is so of them.
use Rattle.std.proofs.Common.{◌≡◌, ℕ, ◌<◌, false, not, List, [], ◌∷◌, refl, arith, inl, inr}
use Rattle.std.specs.Prelude.{IsTrue, ◌&&◌, ◌||◌, ◌==◌, nat_le, slice_index}
use Rattle.std.specs.Int.{is_in_range}
use Rattle.std.proofs.lemmas.Bool.{and_cases, and_parts, leb-false, lt-leb, not-true, or_from}
use Rattle.std.proofs.lemmas.Bool.{or_parts, and_left, and_right}
use Rattle.ans_model.specs.Sequence.TokenKind.{Glyph}
use Rattle.ans_model.specs.Screen.State.{Size, State}
use Rattle.ans_tokens.specs.Walk.{begins_as_code, begins_plainly, is_foreign, is_plain}
use Rattle.ans_hints.specs.Conditions.{begins_with_two_byte_letter, begins_with_pipe_number, begins_with_wide}
use Rattle.ans_hints.specs.Conditions.{begins_with_x_number, is_latin_letter}
use Rattle.ans_hints.specs.Conditions.{board_code, latin_letter, two_byte_letter, wide_character}
use Rattle.ans_kinds.proofs.PlainBytes.{other_than, outside_above}

-- a byte is none of those between two, if it is below them
outside_below : (b first last : ℕ) → b < first → (nat_le first b && nat_le b last) ≡ false
outside_below b first last below = and_left (nat_le first b) (nat_le b last) (lt-leb first b below)

pub foreign_parts : (b : ℕ) → IsTrue (not (is_foreign b)) → ((b == 0xC3) ≡ false) × (b < 0xE0)
foreign_parts b h =
    let parts = or_parts (b == 0xC3) (nat_le 0xE0 b) (not-true (is_foreign b) h) in
    (parts.0, leb-false 0xE0 b parts.1)

module _ (b : ℕ) (plain : IsTrue (is_plain b)) where
  below : b < 0xE0
  below =
      let last = and_parts (nat_le 0x20 b && not (b == 0x7F)) (not (is_foreign b)) plain in
      (foreign_parts b last.1).1

  no_wide : (rest : List ℕ) → begins_with_wide (b ∷ rest) ≡ false
  no_wide rest = rw (lt-leb 0xE0 b below) refl

  pub no_wide_character : (z : Size) (s : State) (rest : List ℕ) → wide_character z s (Glyph b) rest ≡ false
  no_wide_character z s rest = no_wide rest

-- the bytes do not begin as a code
no_x_number : (b : ℕ) (rest : List ℕ) → (b == 0x40 && slice_index rest 0 == 0x58) ≡ false
    → (b == 0x40 && begins_with_x_number rest) ≡ false
no_x_number b rest none = elim (and_cases (b == 0x40) (slice_index rest 0 == 0x58) none) [
  | inl other ↦ and_left _ _ other
  | inr no_x ↦ and_right (b == 0x40) (begins_with_x_number rest) (and_left _ _ (and_left _ _ no_x))
]

no_pipe_digit : (c second : ℕ) → is_in_range 0x30 0x39 c ≡ false
    → (is_in_range 0x30 0x31 c || (c == 0x32 && is_in_range 0x30 0x33 second)) ≡ false
no_pipe_digit c second none = elim (and_cases (nat_le 0x30 c) (nat_le c 0x39) none) [
  | inl low ↦
      let below = leb-false 0x30 c low in
      or_from _ _ (outside_below c 0x30 0x31 below)
      (and_left _ _ (other_than c 0x32 (λ e. absurd (omega (arith, e, below)))))
  | inr high ↦
      let above = leb-false c 0x39 high in
      or_from _ _ (outside_above c 0x30 0x31 (omega (arith, above)))
      (and_left _ _ (other_than c 0x32 (λ e. absurd (omega (arith, e, above)))))
]

no_pipe_number : (b : ℕ) (rest : List ℕ) → (b == 0x7C && is_in_range 0x30 0x39 (slice_index rest 0)) ≡ false
    → (b == 0x7C && begins_with_pipe_number rest) ≡ false
no_pipe_number b rest none = elim (and_cases (b == 0x7C) (is_in_range 0x30 0x39 (slice_index rest 0)) none) [
  | inl other ↦ and_left _ _ other
  | inr no_digit ↦ and_right (b == 0x7C) (begins_with_pipe_number rest)
      (and_right _ _ (no_pipe_digit (slice_index rest 0) (slice_index rest 1) no_digit))
]

pub no_board_code : (b : ℕ) (z : Size) (s : State) (rest : List ℕ) → begins_as_code (b ∷ rest) ≡ false
    → board_code z s (Glyph b) rest ≡ false
no_board_code b z s rest none =
    let parts = or_parts (b == 0x40 && slice_index rest 0 == 0x58)
    (b == 0x7C && is_in_range 0x30 0x39 (slice_index rest 0)) none in
    or_from _ _ (no_pipe_number b rest parts.1) (no_x_number b rest parts.0)

no_two_bytes : (rest : List ℕ) → IsTrue (begins_plainly rest) → begins_with_two_byte_letter rest ≡ false
no_two_bytes [] h = refl
no_two_bytes (c ∷ rest) h = rw (foreign_parts c h).0 refl

no_latin : (rest : List ℕ) → IsTrue (begins_plainly rest) → is_latin_letter (slice_index rest 0) ≡ false
no_latin [] h = refl
no_latin (c ∷ rest) h =
    let below = (foreign_parts c h).1 in
    let first = other_than c 0xE4 (λ e. absurd (omega (arith, e, below))) in
    let second = outside_below c 0xE8 0xEA (omega (arith, below)) in
    let third = outside_below c 0xF1 0xF4 (omega (arith, below)) in
    let fourth = other_than c 0xF6 (λ e. absurd (omega (arith, e, below))) in
    or_from _ (c == 0xFC) (or_from _ _ (or_from _ _ (or_from _ _ first second) third) fourth)
    (other_than c 0xFC (λ e. absurd (omega (arith, e, below))))

pub no_two_byte_letter : (b : ℕ) (z : Size) (s : State) (rest : List ℕ) → IsTrue (begins_plainly rest)
    → two_byte_letter z s (Glyph b) rest ≡ false
no_two_byte_letter b z s rest h = and_right _ _ (no_two_bytes rest h)

pub no_latin_letter : (b : ℕ) (z : Size) (s : State) (rest : List ℕ) → IsTrue (begins_plainly rest)
    → latin_letter z s (Glyph b) rest ≡ false
no_latin_letter b z s rest h = and_left _ _ (and_right _ _ (no_latin rest h))
