-- What comes next in a content, and what a walker has been over once it was handed that.
use Rattle.std.proofs.Common.{◌≡◌, ◌≢◌, ℕ, ◌+◌, ◌-◌, ◌<◌, ◌≤◌, List, [], ◌∷◌, length, drop, get_or, map}
use Rattle.std.proofs.Common.{inl, refl, ap, ◌∙◌, arith, subst}
use Rattle.std.proofs.lemmas.Bool.Decides.{nat_tests}
use Rattle.std.proofs.lemmas.List.{get_or-drop, get_or-take, length-drop, length-take-le}
use Rattle.ans_model.specs.Bytes.{IsByte, escape}
use Rattle.ans_model.specs.Sequence.Meaning.{colours}
use Rattle.ans_model.specs.Sequence.Reads.{kind_of_byte}
use Rattle.ans_model.specs.Sequence.Spelling.{Number}
use Rattle.ans_model.specs.Sequence.TokenKind.{TokenKind, Colours, Glyph}
use Rattle.ans_model.specs.declared.mark.Mark.TheVariants.{Unmarked}
use Rattle.ans_tokens.specs.Handed.{IsPlace, bytes_left}
use Rattle.ans_tokens.specs.WholeToken.{IsSequenceFront, IsTokenFront}
use Rattle.ans_tokens.specs.declared.handing.Here.{Here}
use Rattle.ans_tokens.proofs.PlainSequences.{no_string}
use Rattle.ans_tokens.proofs.WholeSequences.{means_token}

-- ---- a byte
first_front : (bytes : List ℕ) (b : ℕ) → 1 ≤ length bytes → get_or bytes 0 0 ≡ b → IsByte b → b ≢ escape
    → IsTokenFront bytes (kind_of_byte b) 1
first_front [] b some is byte outside = absurd (omega (arith, some))
first_front (x ∷ bytes) b some is byte outside = record {
  nonempty = omega arith;
  within = omega arith;
  spelled = inl (record {
    byte = b;
    is_byte = byte;
    not_escape = outside;
    whole = ap (λ (v : ℕ). v ∷ []) is;
    means = refl;
  });
}

module _ (here : Here) (place : IsPlace here) where
  pub left_is_long : length (bytes_left here) ≡ here.end - here.at
  left_is_long =
      length-take-le (here.end - here.at) (drop here.at here.content.now)
      (omega (arith, place.end, place.within, length-drop here.at here.content.now))

  pub byte_front : here.at < here.end → (b : ℕ) → get_or here.content.now here.at 0 ≡ b → IsByte b → b ≢ escape
      → IsTokenFront (bytes_left here) (kind_of_byte b) 1
  byte_front some b is byte outside =
      let same : here.at + 0 ≡ here.at = omega arith in
      first_front (bytes_left here) b (omega (arith, left_is_long, some))
      (get_or-take (here.end - here.at) (drop here.at here.content.now) 0 0 (omega (arith, some))
      ∙ get_or-drop here.at here.content.now 0 0 ∙ ap (λ (k : ℕ). get_or here.content.now k 0) same ∙ is) byte outside

  pub glyph_front : here.at < here.end → (b : ℕ) → get_or here.content.now here.at 0 ≡ b → IsByte b → 0x20 ≤ b
      → IsTokenFront (bytes_left here) (Glyph b) 1
  glyph_front some b is byte above =
      let means : kind_of_byte b ≡ Glyph b = grind (arith, nat_tests, above) in
      subst (λ (t : TokenKind). IsTokenFront (bytes_left here) t 1) means
      (byte_front some b is byte (λ e. omega (arith, e, above)))

-- ---- colours
-- the sequence is the token of these colours
pub colours_front : (bytes numbers all : List ℕ) (count : ℕ) → IsSequenceFront bytes Unmarked numbers 0x6D count
    → colours (map Number numbers) ≡ Colours all → IsTokenFront bytes (Colours all) count
colours_front bytes numbers all count front are =
    means_token Unmarked numbers bytes 0x6D count (Colours all) front (rw (no_string numbers, are) refl)
