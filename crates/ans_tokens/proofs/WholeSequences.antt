-- Numbers, members and sequences that are read whole.
use Rattle.std.proofs.Common.{◌≡◌, ◌≢◌, ◌⊎◌, inl, inr, ℕ, ◌+◌, ◌-◌, ◌*◌, ◌<◌, ◌≤◌, zero, suc, true, false}
use Rattle.std.proofs.Common.{List, [], ◌∷◌, ◌++◌, length, map, take, drop, get_or, refl, ap, sym, ◌∙◌, arith}
use Rattle.std.proofs.Common.{Ok, append_assoc, add-one, length-take, length-drop}
use Rattle.std.specs.List.{list_all, list_any}
use Rattle.std.specs.Char.{is_ascii_digit, is_ascii_alphabetic}
use Rattle.std.specs.Str.Parse.{digits_value}
use Rattle.std.proofs.Math.Seq.{take-suc, take-add}
use Rattle.std.proofs.lemmas.List.{append-nil, length-map, map-append}
use Rattle.std.proofs.lemmas.Int.Digits.{digits_value_more}
use Rattle.ans_model.specs.Bytes.{escape, bracket, semicolon, largest_number, most_parameters}
use Rattle.ans_model.specs.Sequence.Spelling.{Member, mark_bytes, SpellsMember, Number, Raw, Spells}
use Rattle.ans_model.specs.declared.mark.Mark.{Mark}
use Rattle.ans_model.specs.declared.mark.Mark.TheVariants.{Unmarked}
use Rattle.ans_model.specs.Sequence.TokenKind.{TokenKind}
use Rattle.ans_model.specs.Sequence.Meaning.{colour_number, is_quoted, meaning}
use Rattle.ans_model.specs.Inside.OpenPart.{Current, Fresh, InNumber, InString, AfterString, Part, SpellsPart}
use Rattle.ans_model.specs.Inside.OpenPart.{lacks, member_of, members_of, raw_of}
use Rattle.ans_model.proofs.AfterPart.{all_append}
use Rattle.ans_tokens.specs.ScannerView as view
use Rattle.ans_tokens.specs.ScannerView.{KeepsPart, Keeps, Sequence}
use Rattle.ans_tokens.specs.Unfinished.{empty_part, with_next}
use Rattle.ans_tokens.specs.PlainSequence.{plain_sequence}
use Rattle.ans_tokens.specs.WholeToken.{IsNumberFront, IsSequenceFront, IsTokenFront}
use Rattle.ans_tokens.proofs.PlainSequences.{same_meaning}
use Rattle.ans_tokens.proofs.ScannerSteps.{with_current, digit_is, next_member, letter_spells, marked}
use Rattle.ans_tokens.proofs.PartLemmas.{quoted_all, quoted_after}
use Rattle.ans_tokens.proofs.OpenLemmas.{empty_part_spells}

-- ---- one number
pub one_more_digit : (bytes : List ℕ) (i value : ℕ) → i < length bytes → is_ascii_digit (get_or bytes i 0) ≡ true
    → list_all is_ascii_digit (take i bytes) ≡ true → digits_value 10 (take i bytes) ≡ value
    → (list_all is_ascii_digit (take (i + 1) bytes) ≡ true)
    × (digits_value 10 (take (i + 1) bytes) ≡ value * 10 + (get_or bytes i 0 - 48))
one_more_digit bytes i value within d all v = (
  rw (add-one, take-suc bytes i 0 within) (all_append is_ascii_digit (take i bytes) (get_or bytes i 0) all d),
  rw (digits_value_more 10 bytes i within, digit_is (get_or bytes i 0) d, v) refl,
)

-- ---- a member after those that are done
-- the text is a part of a sequence, of which this is kept, and whose current member is whole and is a number of so many
-- digits, or omitted where there are none
pub record EndsInNumber (mark : Mark) (numbers : List ℕ) (value digits : ℕ) (text : List ℕ) : Type 0 where
  pub part : Part
  pub spelled : SpellsPart part text
  pub mark_is : part.mark ≡ mark
  pub numbers_are : map colour_number part.done ≡ numbers
  pub no_string_done : list_any is_quoted part.done ≡ false
  pub whole : lacks part.current ≡ []
  pub value_is : colour_number (member_of part.current) ≡ value
  pub no_string : is_quoted (member_of part.current) ≡ false
  pub omitted : digits ≡ 0 → part.current ≡ Fresh
  pub there : 0 < digits → part.current ≢ Fresh

-- digits after a fresh member are its number
number_after : (p : Part) (y last : List ℕ) (value : ℕ) → SpellsPart p y → p.current ≡ Fresh
    → SpellsMember (Number value) last → value ≤ largest_number
    → SpellsPart (with_current p (InNumber value)) (y ++ last)
number_after p y last value h c spelled small =
    let none : h.loose.last ≡ [] = rw c at h.loose.current in
    record {
      loose = record {
        front = h.loose.front;
        last = last;
        done = h.loose.done;
        current = spelled;
        whole = ap (λ (v : List ℕ). v ++ last) h.loose.whole
            ∙ ap (λ (v : List ℕ). escape ∷ bracket ∷ v)
            (append_assoc (mark_bytes p.mark) (h.loose.front ++ h.loose.last) last)
            ∙ ap (λ (v : List ℕ). escape ∷ bracket ∷ (mark_bytes p.mark ++ (v ++ last)))
            (ap (λ (v : List ℕ). h.loose.front ++ v) none ∙ append-nil h.loose.front);
      };
      numbers = h.numbers;
      last_number = small;
      room = h.room;
    }

number_read : (mark : Mark) (numbers y bytes : List ℕ) (value digits : ℕ)
    → Keeps (Sequence mark numbers false view.Fresh) y → IsNumberFront bytes value digits
    → EndsInNumber mark numbers value digits (y ++ take digits bytes)
number_read mark numbers y bytes value zero (part, kept, spelled) read =
    record {
      part = part;
      spelled = rw append-nil spelled;
      mark_is = kept.mark_is;
      numbers_are = kept.numbers_are;
      no_string_done = kept.quoted_is;
      whole = rw kept.current_is refl;
      value_is = rw kept.current_is read.value_is;
      no_string = rw kept.current_is refl;
      omitted = λ e. kept.current_is;
      there = λ l. absurd (omega arith);
    }
number_read mark numbers y bytes value (suc n) (part, kept, spelled) read =
    let member : SpellsMember (Number value) (take (suc n) bytes) =
    (omega (arith, length-take (suc n) bytes, read.followed), read.digits, read.value_is) in
    record {
      part = with_current part (InNumber value);
      spelled = number_after part y (take (suc n) bytes) value spelled kept.current_is member read.in_limit;
      mark_is = kept.mark_is;
      numbers_are = kept.numbers_are;
      no_string_done = kept.quoted_is;
      whole = refl;
      value_is = refl;
      no_string = refl;
      omitted = λ e. absurd (omega arith);
      there = λ l e. cc;
    }

-- in the bytes from an index on
pub number_from : (mark : Mark) (numbers bytes : List ℕ) (value digits start : ℕ) → start ≤ length bytes
    → Keeps (Sequence mark numbers false view.Fresh) (take start bytes)
    → IsNumberFront (drop start bytes) value digits
    → EndsInNumber mark numbers value digits (take (start + digits) bytes) × (start + digits < length bytes)
number_from mark numbers bytes value digits start within kept read = (
  rw take-add (number_read mark numbers (take start bytes) (drop start bytes) value digits kept read),
  omega (arith, read.followed, length-drop start bytes),
)

-- a `;` ends the member
member_read : (mark : Mark) (numbers y : List ℕ) (value digits : ℕ) → EndsInNumber mark numbers value digits y
    → length numbers + 1 < most_parameters
    → Keeps (Sequence mark (numbers ++ value ∷ []) false view.Fresh) (y ++ semicolon ∷ [])
member_read mark numbers y value digits h few =
    let p : Part = h.part in
    let count : length p.done ≡ length numbers = sym (length-map p.done colour_number) ∙ ap length h.numbers_are in (
      with_next p,
      record {
        mark_is = h.mark_is;
        numbers_are = map-append colour_number p.done (member_of p.current ∷ [])
            ∙ rw (h.numbers_are, h.value_is) refl;
        quoted_is = quoted_after p.done (member_of p.current) ∙ rw (h.no_string_done, h.no_string) refl;
        current_is = refl;
      },
      next_member p y h.spelled h.whole (omega arith),
    )

pub member_at : (mark : Mark) (numbers bytes : List ℕ) (value digits stop : ℕ)
    → EndsInNumber mark numbers value digits (take stop bytes) → stop < length bytes
    → get_or bytes stop 0 ≡ semicolon → length numbers + 1 < most_parameters
    → Keeps (Sequence mark (numbers ++ value ∷ []) false view.Fresh) (take (stop + 1) bytes)
member_at mark numbers bytes value digits stop h within is few =
    rw (add-one, take-suc bytes stop 0 within, is) (member_read mark numbers (take stop bytes) value digits h few)

-- the numbers of all members, where a letter comes next
numbers_of_all : (done : List Member) (c : Current) → (done ≢ []) ⊎ (c ≢ Fresh)
    → map colour_number (members_of done c) ≡ map colour_number done ++ colour_number (member_of c) ∷ []
numbers_of_all [] Fresh (inl n) = absurd (n refl)
numbers_of_all [] Fresh (inr n) = absurd (n refl)
numbers_of_all [] (InNumber n) h = refl
numbers_of_all [] (InString q text) h = refl
numbers_of_all [] (AfterString q text) h = refl
numbers_of_all (m ∷ done) c h = map-append colour_number (m ∷ done) (member_of c ∷ [])

pub nothing_done : (done : List Member) → map colour_number done ≡ [] → done ≡ []
nothing_done [] e = refl
nothing_done (m ∷ done) e = cc

some_done : (done : List Member) (n : ℕ) (numbers : List ℕ) → map colour_number done ≡ n ∷ numbers → done ≢ []
some_done [] n numbers e empty = cc
some_done (m ∷ done) n numbers e empty = cc

-- the letter's numbers are all that are done and the current one, if there is a member at all
all_numbers : (done : List Member) (c : Current) (numbers all : List ℕ) (value digits : ℕ)
    → map colour_number done ≡ numbers → colour_number (member_of c) ≡ value
    → (digits ≡ 0 → c ≡ Fresh) → (0 < digits → c ≢ Fresh)
    → (digits ≡ 0 → numbers ≡ [] → all ≡ []) → ((0 < digits) ⊎ (numbers ≢ []) → all ≡ numbers ++ value ∷ [])
    → map colour_number (members_of done c) ≡ all
all_numbers done c [] all value zero ns v fresh number none one =
    rw (nothing_done done ns, fresh refl) (sym (none refl refl))
all_numbers done c (n ∷ numbers) all value zero ns v fresh number none one =
    numbers_of_all done c (inl (some_done done n numbers ns)) ∙ rw (ns, v) (sym (one (inr (λ e. cc))))
all_numbers done c numbers all value (suc d) ns v fresh number none one =
    numbers_of_all done c (inr (number (omega arith))) ∙ rw (ns, v) (sym (one (inl (omega arith))))

-- a letter ends the sequence
pub letter_at : (mark : Mark) (numbers all bytes : List ℕ) (value digits stop : ℕ)
    → EndsInNumber mark numbers value digits (take stop bytes)
    → (digits ≡ 0 → numbers ≡ [] → all ≡ []) → ((0 < digits) ⊎ (numbers ≢ []) → all ≡ numbers ++ value ∷ [])
    → stop < length bytes → is_ascii_alphabetic (get_or bytes stop 0) ≡ true
    → IsSequenceFront bytes mark all (get_or bytes stop 0) (stop + 1)
letter_at mark numbers all bytes value digits stop h none one within letter =
    let p : Part = h.part in
    record {
      raw = raw_of p (get_or bytes stop 0);
      within = omega arith;
      spelled = rw (add-one, take-suc bytes stop 0 within)
          (letter_spells p (take stop bytes) (get_or bytes stop 0) h.spelled h.whole letter);
      mark_is = h.mark_is;
      numbers_are = all_numbers p.done p.current numbers all value digits h.numbers_are h.value_is h.omitted h.there
          none one;
      no_string = quoted_all p.done p.current ∙ rw (h.no_string_done, h.no_string) refl;
      letter_is = refl;
    }

-- ---- directly after `[` or the mark
pub begun_unmarked : (bytes : List ℕ) → 3 ≤ length bytes → get_or bytes 0 0 ≡ escape → get_or bytes 1 0 ≡ bracket
    → Keeps (Sequence Unmarked [] false view.Fresh) (take 2 bytes)
begun_unmarked [] l e b = absurd (omega arith)
begun_unmarked (x ∷ []) l e b = absurd (omega arith)
begun_unmarked (x ∷ y ∷ bytes) l e b = rw (e, b) (
  empty_part,
  record { mark_is = refl; numbers_are = refl; quoted_is = refl; current_is = refl },
  empty_part_spells,
)

pub begun_marked : (mark : Mark) (bytes : List ℕ) → 3 ≤ length bytes → get_or bytes 0 0 ≡ escape
    → get_or bytes 1 0 ≡ bracket → mark_bytes mark ≡ get_or bytes 2 0 ∷ []
    → Keeps (Sequence mark [] false view.Fresh) (take 3 bytes)
begun_marked mark [] l e b m = absurd (omega arith)
begun_marked mark (x ∷ []) l e b m = absurd (omega arith)
begun_marked mark (x ∷ y ∷ []) l e b m = absurd (omega arith)
begun_marked mark (x ∷ y ∷ z ∷ bytes) l e b m = rw (e, b) (
  record { mark = mark; done = []; current = Fresh },
  record { mark_is = refl; numbers_are = refl; quoted_is = refl; current_is = refl },
  marked empty_part (escape ∷ bracket ∷ []) mark z empty_part_spells refl refl refl m,
)

-- ---- the token
not_empty : (raw : Raw) (bytes : List ℕ) (count : ℕ) → Spells raw (take count bytes) → 0 < count
not_empty raw bytes zero h = absurd (cc h.loose.whole)
not_empty raw bytes (suc n) h = omega arith

-- what is read is the token that it means
pub means_token : (mark : Mark) (numbers bytes : List ℕ) (letter count : ℕ) (token : TokenKind)
    → IsSequenceFront bytes mark numbers letter count
    → meaning (plain_sequence mark numbers false letter) ≡ Ok token
    → IsTokenFront bytes token count
means_token mark numbers bytes letter count token h means =
    let same : meaning h.raw ≡ meaning (plain_sequence mark numbers false letter) =
    rw (← h.mark_is, ← h.numbers_are, ← h.letter_is)
    (same_meaning h.raw false h.no_string h.spelled.loose.not_one_omitted) in
    record {
      nonempty = not_empty h.raw bytes count h.spelled;
      within = h.within;
      spelled = inr (record { raw = h.raw; spelled = h.spelled; means = same ∙ means });
    }
