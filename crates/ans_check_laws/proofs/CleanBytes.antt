-- The bytes of clean texts.
use Rattle.std.proofs.Common.{inl, inr, ℕ, ◌+◌, ◌/◌, ◌≤◌, Bool, true, false, refl, subst, arith, All, List, [], ◌∷◌}
use Rattle.std.proofs.Common.{◌++◌}
use Rattle.std.specs.Prelude.{cond, codes, encode_utf8, encode_utf8_all}
use Rattle.std.proofs.Math.Utf8.{encode, next}
use Rattle.std.proofs.Math.Dec.{ltb}
use Rattle.std.proofs.lemmas.List.Elements.{All-head, All-tail, All-nil, All-cons, All-append, All-weaker}
use Rattle.ans_model.specs.Bytes.{IsByte}
use Rattle.ans_model.specs.Text.Characters.{shown_bytes}
use Rattle.ans_model.specs.Text.RecordText.{named_line}
use Rattle.ans_check_laws.specs.CleanTexts.{IsCleanByte, IsCleanCharacter, IsCleanText, HasNoControls, IsControl}
use Rattle.ans_check_laws.specs.CleanTexts.{IsControlByte, IsOneLine}
use Rattle.ans_check_laws.proofs.CleanPieces.{shown_has_no_controls}

-- ---- what is so of each byte from 80h on, and of each character
module _ (P : ℕ → Type 0) (high : (b : ℕ) → 0x80 ≤ b → P b) where
  and_high : (b : ℕ) (bytes : List ℕ) → 0x80 ≤ b → All P bytes → All P (b ∷ bytes)
  and_high b bytes from h = All-cons P b bytes (high b from) h

  all_of_character : (c : ℕ) → P c → All P (encode c)
  unfolding encode
  all_of_character c is = by_tests (ltb c 128) (ltb c 2048) (ltb c 65536)
    where
      last : All P (next c ∷ [])
      last = and_high (next c) [] (omega arith) (All-nil P)

      two : All P (next (c / 64) ∷ next c ∷ [])
      two = and_high (next (c / 64)) (next c ∷ []) (omega arith) last

      three : All P (next (c / 4096) ∷ next (c / 64) ∷ next c ∷ [])
      three = and_high (next (c / 4096)) (next (c / 64) ∷ next c ∷ []) (omega arith) two

      by_tests : (p q r : Bool) → All P (cond p (c ∷ []) (cond q ((192 + c / 64) ∷ next c ∷ [])
          (cond r ((224 + c / 4096) ∷ next (c / 64) ∷ next c ∷ [])
          ((240 + c / 262144) ∷ next (c / 4096) ∷ next (c / 64) ∷ next c ∷ []))))
      by_tests true q r = All-cons P c [] is (All-nil P)
      by_tests false true r = and_high (192 + c / 64) (next c ∷ []) (omega arith) last
      by_tests false false true = and_high (224 + c / 4096) (next (c / 64) ∷ next c ∷ []) (omega arith) two
      by_tests false false false =
          and_high (240 + c / 262144) (next (c / 4096) ∷ next (c / 64) ∷ next c ∷ []) (omega arith) three

  -- is so of each byte of the characters
  all_of_characters : (cs : List ℕ) → All P cs → All P (encode_utf8_all cs)
  all_of_characters [] h = All-nil P
  all_of_characters (c ∷ cs) h =
      All-append P (encode_utf8 c) (encode_utf8_all cs) (all_of_character c (All-head P c cs h))
      (all_of_characters cs (All-tail P c cs h))

-- ---- control bytes
high_is_no_control : (b : ℕ) → 0x80 ≤ b → ¬ IsControlByte b
high_is_no_control b from control = grind arith

-- a byte of C0, and DEL, is a control character
control_byte : (b : ℕ) → IsControlByte b → IsControl b
control_byte b (inl low) = inl low
control_byte b (inr e) = inr (omega (arith, e), omega (arith, e))

pub bytes_clean : (text : List ℕ) → IsCleanText text → All IsCleanByte text
bytes_clean text h =
    subst (λ (v : List ℕ). All IsCleanByte v) h.spelled
    (all_of_characters IsCleanByte (λ b from control. absurd (high_is_no_control b from control)) h.characters
    (All-weaker IsCleanCharacter IsCleanByte (λ c clean control. clean (control_byte c control)) h.characters h.clean))

pub no_control_bytes : (text : List ℕ) → HasNoControls text → All (λ b. ¬ IsControlByte b) text
no_control_bytes text h =
    subst (λ (v : List ℕ). All (λ b. ¬ IsControlByte b) v) h.spelled
    (all_of_characters (λ b. ¬ IsControlByte b) high_is_no_control h.characters
    (All-weaker (λ c. ¬ IsControl c) (λ b. ¬ IsControlByte b) (λ c none control. none (control_byte c control))
    h.characters h.none))

-- a name and bytes as they are shown
pub named_line_is_one : (name bytes : List ℕ) → All (λ b. ¬ IsControlByte b) name → All IsByte bytes
    → IsOneLine (named_line name (shown_bytes bytes))
named_line_is_one name bytes named h = record {
  line = name ++ (codes ": " ++ shown_bytes bytes);
  whole = refl;
  none = All-append (λ b. ¬ IsControlByte b) name (codes ": " ++ shown_bytes bytes) named
      (All-append (λ b. ¬ IsControlByte b) (codes ": ") (shown_bytes bytes) colon
      (no_control_bytes (shown_bytes bytes) (shown_has_no_controls bytes h)));
}
  where
    colon : All (λ b. ¬ IsControlByte b) (codes ": ")
    colon = All-cons (λ b. ¬ IsControlByte b) 0x3A (0x20 ∷ []) (λ control. grind arith)
        (All-cons (λ b. ¬ IsControlByte b) 0x20 [] (λ control. grind arith) (All-nil (λ b. ¬ IsControlByte b)))
