-- What is played by a brush: bytes, runs and sequences in front, and one after the other.
use Rattle.std.proofs.Common.{◌≡◌, ◌≢◌, ℕ, ◌+◌, ◌<◌, ◌≤◌, List, [], ◌∷◌, length, map, get_or, refl, ap, arith}
use Rattle.std.proofs.Common.{true, false, sym, ◌∙◌, Ok, None, ◌⊎◌, inl, inr, ◌++◌, length-append, drop}
use Rattle.std.specs.Char.{is_ascii_alphabetic}
use Rattle.std.specs.Prelude.{◌==◌, if◌then◌else◌}
use Rattle.std.proofs.lemmas.Bool.{cases_lt}
use Rattle.std.proofs.lemmas.Bool.Decides.{eqb_tells}
use Rattle.std.proofs.lemmas.List.Sums.{fold-append}
use Rattle.ans_model.specs.Bytes.{IsByte, escape, bracket, semicolon, most_parameters}
use Rattle.ans_model.specs.Sequence.Reads.{kind_of_byte}
use Rattle.ans_model.specs.Sequence.Spelling.{Number}
use Rattle.ans_model.specs.Sequence.Meaning.{colours, meaning}
use Rattle.ans_model.specs.Sequence.TokenKind.{Colours}
use Rattle.ans_model.specs.declared.mark.Mark.TheVariants.{Unmarked}
use Rattle.ans_screen.specs.KnownBits.{KnownBits, known_after}
use Rattle.ans_tokens.specs.PlainSequence.{plain_sequence}
use Rattle.ans_tokens.specs.WholeToken.{IsNumberFront}
use Rattle.ans_tokens.proofs.WholeSequences.{begun_unmarked, number_from, member_at, letter_at}
use Rattle.ans_tokens.proofs.PlainSequences.{no_string, colours_of_some}
use Rattle.ans_play.specs.declared.play.brush.Brush.{Brush}
use Rattle.ans_play.specs.declared.play.sequence.ReadSequence.{ReadSequence}
use Rattle.ans_play.specs.HalfStep.{known_after_all}
use Rattle.ans_play.specs.HalfFault.{half_fault}
use Rattle.ans_play.specs.PlayView.{PlayView}
use Rattle.ans_play.specs.Plays.{after_token, PlaysLetter}
use Rattle.ans_play.specs.Brushes.{with_brush, IsBrush, BrushPlays, colour_numbers, few_numbers, IsReadFront, IsReading}
use Rattle.ans_play.proofs.Letters.{first_goes_over, letter_goes_over}
use Rattle.ans_play.proofs.WholeTokens.{plays_no_tokens}

-- no bytes
pub brush_rests : (p : PlayView) (b : Brush) (bytes : List ℕ) → IsBrush p.size b → BrushPlays p b bytes 0 p b
brush_rests p b bytes on = record {
  on = on;
  within = omega arith;
  played = plays_no_tokens (with_brush p b);
  none = λ zero. refl;
}

-- the first byte
pub brush_plays_byte : (old new : PlayView) (b after : Brush) (bytes : List ℕ) → IsBrush new.size after
    → 1 ≤ length bytes → IsByte (get_or bytes 0 0) → get_or bytes 0 0 ≢ escape
    → half_fault old.size (with_brush old b).state (kind_of_byte (get_or bytes 0 0)) ≡ None
    → with_brush new after ≡ after_token (with_brush old b) (kind_of_byte (get_or bytes 0 0))
    → BrushPlays old b bytes 1 new after
brush_plays_byte old new b after bytes on some byte outside clean made = record {
  on = on;
  within = some;
  played = first_goes_over (with_brush old b) (with_brush new after) bytes some byte outside (clean, made);
  none = λ zero. absurd (omega (arith, zero));
}

-- colours mean the numbers that they have
pub colours_are : (numbers : List ℕ) → colours (map Number numbers) ≡ Colours (colour_numbers numbers)
colours_are [] = refl
colours_are (n ∷ numbers) = colours_of_some (n ∷ numbers) (λ e. cc)

pub colours_mean : (numbers : List ℕ)
    → meaning (plain_sequence Unmarked numbers false 0x6D) ≡ Ok (Colours (colour_numbers numbers))
colours_mean numbers = rw (no_string numbers, colours_are numbers) refl

-- ---- a sequence in front
-- behind `[`
pub reading_begun : (bytes : List ℕ) (a : KnownBits) → 66 ≤ length bytes → get_or bytes 0 0 ≡ escape
    → get_or bytes 1 0 ≡ bracket → IsReading bytes a 0 2 0 a
reading_begun bytes a long e b = record {
  numbers = [];
  kept = λ room. begun_unmarked bytes (omega (arith, long)) e b;
  count = refl;
  low = omega arith;
  high = omega arith;
  previous_is = λ e. absurd (omega (arith, e));
  coloured_is = refl;
}

no_numbers : (numbers : List ℕ) → length numbers ≡ 0 → numbers ≡ []
no_numbers [] e = refl
no_numbers (n ∷ numbers) e = absurd (omega (arith, e))

coloured_more : (a : KnownBits) (numbers : List ℕ) (value : ℕ) (coloured : KnownBits)
    → coloured ≡ known_after_all a numbers → known_after coloured value ≡ known_after_all a (numbers ++ value ∷ [])
coloured_more a numbers value coloured before =
    ap (λ (k : KnownBits). known_after k value) before ∙ sym (fold-append known_after a numbers (value ∷ []))

-- behind the semicolon after one more number
pub reading_on : (bytes : List ℕ) (a : KnownBits) (semicolons at previous value digits : ℕ) (coloured new : KnownBits)
    → at ≤ length bytes → semicolons < most_parameters → IsReading bytes a semicolons at previous coloured
    → IsNumberFront (drop at bytes) value digits → digits ≤ 3 → get_or bytes (at + digits) 0 ≡ semicolon
    → new ≡ known_after coloured value → IsReading bytes a (semicolons + 1) (at + digits + 1) value new
reading_on bytes a semicolons at previous value digits coloured new within room h read short is made =
    let ended = number_from Unmarked h.numbers bytes value digits at within (h.kept room) read in
    record {
      numbers = h.numbers ++ value ∷ [];
      kept = λ more. member_at Unmarked h.numbers bytes value digits (at + digits) ended.0 ended.1 is
          (omega (arith, h.count, more));
      count = omega (arith, length-append h.numbers (value ∷ []), h.count);
      low = omega (arith, h.low);
      high = omega (arith, h.high, short);
      previous_is = λ e. rw (no_numbers h.numbers (omega (arith, h.count, e))) refl;
      coloured_is = made ∙ coloured_more a h.numbers value coloured h.coloured_is;
    }

some_numbers : (numbers : List ℕ) (value : ℕ) → colour_numbers (numbers ++ value ∷ []) ≡ numbers ++ value ∷ []
some_numbers [] value = refl
some_numbers (n ∷ numbers) value = refl

-- what is kept of a sequence
abbrev pub read_of : ℕ → ℕ → ℕ → ℕ → ℕ → KnownBits → ReadSequence
read_of letter end semicolons previous last coloured = record {
  letter = letter;
  end = end;
  semicolons = semicolons;
  previous = previous;
  last = last;
  coloured = coloured;
}

module _ (bytes : List ℕ) (a : KnownBits) (semicolons at previous value digits : ℕ) (coloured : KnownBits)
    (within : at ≤ length bytes) (room : semicolons < most_parameters)
    (h : IsReading bytes a semicolons at previous coloured) (read : IsNumberFront (drop at bytes) value digits) where
  abbrev found : ReadSequence
  found = read_of (get_or bytes (at + digits) 0) (at + digits + 1) semicolons previous value coloured

  -- the letter stands behind `[`
  ends_at_once : digits ≡ 0 → h.numbers ≡ [] → IsReadFront bytes a found
  ends_at_once d n =
      let ended = number_from Unmarked h.numbers bytes value digits at within (h.kept room) read in
      let none : semicolons ≡ 0 = sym h.count ∙ ap length n in
      let end : at + digits + 1 ≡ 3 = omega (arith, h.low, h.high, none, d) in
      let zero : 0 ≡ value = rw d at read.value_is in
      let start : coloured ≡ a = h.coloured_is ∙ ap (known_after_all a) n in
      record {
        numbers = [];
        some = omega (arith, end);
        front = λ letter. letter_at Unmarked h.numbers [] bytes value digits (at + digits) ended.0 (λ z e. refl)
            (λ s. absurd (elim s [ inl l ↦ omega (arith, d, l) | inr ne ↦ ne n ])) ended.1 letter;
        few = λ e. rw end refl;
        coloured = rw (start, sym zero) refl;
      }

  -- the letter stands behind a member
  ends_later : (0 < digits) ⊎ (h.numbers ≢ []) → IsReadFront bytes a found
  ends_later s =
      let ended = number_from Unmarked h.numbers bytes value digits at within (h.kept room) read in
      let later : at + digits + 1 ≢ 3 = λ e. elim s [
        | inl l ↦ omega (arith, h.low, e, l)
        | inr ne ↦ ne (no_numbers h.numbers (omega (arith, h.count, h.low, e)))
      ] in
      record {
        numbers = h.numbers ++ value ∷ [];
        some = omega (arith, h.low);
        front = λ letter. letter_at Unmarked h.numbers (h.numbers ++ value ∷ []) bytes value digits (at + digits)
            ended.0 (λ z n. absurd (elim s [ inl l ↦ omega (arith, z, l) | inr ne ↦ ne n ])) (λ t. refl) ended.1 letter;
        few = λ few. elim (eqb_tells (at + digits + 1) 3) [
          | inl end ↦ absurd (later end.1)
          | inr more ↦ rw more.0 (few_are few)
        ];
        coloured = coloured_more a h.numbers value coloured h.coloured_is
            ∙ ap (known_after_all a) (sym (some_numbers h.numbers value));
      }
    where
      few_are : semicolons ≤ 1 → (if semicolons == 0 then value ∷ [] else previous ∷ value ∷ [])
          ≡ h.numbers ++ value ∷ []
      few_are few = elim (eqb_tells semicolons 0) [
        | inl none ↦ rw (none.1, no_numbers h.numbers (h.count ∙ none.1)) refl
        | inr one ↦ rw (one.0, h.previous_is (omega (arith, few, one.1))) refl
      ]

  ends_by : (numbers : List ℕ) → h.numbers ≡ numbers → IsReadFront bytes a found
  ends_by [] e = elim (cases_lt 0 digits) [
    | inl l ↦ ends_later (inl l)
    | inr z ↦ ends_at_once (omega arith) e
  ]
  ends_by (n ∷ numbers) e = ends_later (inr (λ z. cc))

  -- the letter ends the sequence
  pub reading_ends : IsReadFront bytes a found
  reading_ends = ends_by h.numbers refl

-- ---- and its letter
-- colours in front
pub colours_in_front : (p : PlayView) (b : Brush) (bytes : List ℕ) (read : ReadSequence) (attribute : KnownBits)
    → IsBrush p.size b → read.letter ≡ 0x6D → IsByte attribute.value → attribute ≡ known_after read.coloured read.last
    → IsReadFront bytes b.attribute read
    → BrushPlays p b bytes read.end p (record { position = b.position; attribute = attribute })
colours_in_front p b bytes read attribute on letter byte is h =
    let after : Brush = record { position = b.position; attribute = attribute } in
    let front = h.front (rw letter refl) in
    let plays : PlaysLetter (with_brush p b) (with_brush p after) read.letter h.numbers =
    rw (letter, colours_mean h.numbers, is ∙ h.coloured) (refl, refl) in
    record {
      on = record { on_screen = on.on_screen; attribute = byte };
      within = front.within;
      played = letter_goes_over (with_brush p b) (with_brush p after) bytes h.numbers read.letter read.end front plays;
      none = λ zero. absurd (omega (arith, zero, h.some));
    }

-- another letter in front
pub letter_in_front : (p new : PlayView) (b after : Brush) (bytes : List ℕ) (read : ReadSequence)
    → IsReadFront bytes b.attribute read → read.semicolons ≤ 1 → IsBrush new.size after
    → is_ascii_alphabetic read.letter ≡ true
    → PlaysLetter (with_brush p b) (with_brush new after) read.letter (few_numbers read)
    → BrushPlays p b bytes read.end new after
letter_in_front p new b after bytes read h few on letter plays =
    let front = h.front letter in
    record {
      on = on;
      within = front.within;
      played = letter_goes_over (with_brush p b) (with_brush new after) bytes h.numbers read.letter read.end front
          (rw (h.few few) at plays);
      none = λ zero. absurd (omega (arith, zero, h.some));
    }
