-- What an open part becomes with one more byte.
use Rattle.std.proofs.Common.{◌≡◌, ◌≢◌, ◌⊎◌, inl, inr, ℕ, ◌+◌, ◌-◌, ◌*◌, ◌<◌, ◌≤◌, true, false, not, ◌==◌, List, []}
use Rattle.std.proofs.Common.{◌∷◌, ◌++◌, length, refl, ap, sym, ◌∙◌, arith, append_assoc, length-append}
use Rattle.std.proofs.lemmas.Bool.Decides.{nat_tests}
use Rattle.std.proofs.lemmas.List.{append-nil}
use Rattle.std.proofs.lemmas.Int.Digits.{digits_value_push}
use Rattle.std.specs.Char.{is_ascii_digit, is_ascii_alphabetic, digit_value}
use Rattle.std.specs.Str.Parse.{digits_value}
use Rattle.ans_model.specs.Bytes.{escape, bracket, semicolon, largest_number, most_parameters}
use Rattle.ans_model.specs.Sequence.Spelling.{is_quote, mark_bytes, SpellsMember, Spells, IsPrefixOfLoose}
use Rattle.ans_model.specs.declared.mark.Mark.{Mark}
use Rattle.ans_model.specs.declared.mark.Mark.TheVariants.{Unmarked}
use Rattle.ans_model.specs.Sequence.Spelling.{IsPrefixOfSpelling}
use Rattle.ans_model.specs.Inside.OpenPart.{Current, Fresh, InNumber, InString, AfterString, SpellsCurrent}
use Rattle.ans_model.specs.Inside.OpenPart.{IsCurrentInLimit, Part, LoosePart, SpellsPart, member_of, lacks, raw_of}
use Rattle.ans_model.proofs.AfterPart.{all_append, done_more, limit_append, limit_member, letter_completes_in_limit}
use Rattle.ans_model.proofs.AfterPart.{spelled_with_lacking, refuses_number, refuses_count, part_loose}
use Rattle.ans_tokens.specs.Unfinished.{with_next}

-- the part with this of its current member
abbrev pub with_current : Part → Current → Part
with_current p c = record { mark = p.mark; done = p.done; current = c }

-- ---- bytes that begin or go on a member
pub digit_is : (b : ℕ) → is_ascii_digit b ≡ true → digit_value b ≡ b - 48
digit_is b h = grind (arith, nat_tests)

first_digit : (b : ℕ) → is_ascii_digit b ≡ true → SpellsCurrent (InNumber (b - 48)) (b ∷ [])
first_digit b h = (omega arith, all_append is_ascii_digit [] b refl h, rw (digit_is b h) (omega arith))

value_of_more : (n b : ℕ) (last : List ℕ) → SpellsCurrent (InNumber n) last → is_ascii_digit b ≡ true
    → digits_value 10 (last ++ b ∷ []) ≡ n * 10 + (b - 48)
value_of_more n b last h d =
    let v : digits_value 10 last ≡ n = h.2 in
    rw (digits_value_push 10 last b, digit_is b d, v) refl

pub more_digits : (n b : ℕ) (last : List ℕ) → SpellsCurrent (InNumber n) last → is_ascii_digit b ≡ true
    → SpellsCurrent (InNumber (n * 10 + (b - 48))) (last ++ b ∷ [])
more_digits n b last h d =
    (omega (arith, length-append last (b ∷ [])), all_append is_ascii_digit last b h.1 d, value_of_more n b last h d)

first_quote : (b : ℕ) → is_quote b ≡ true → SpellsCurrent (InString b []) (b ∷ [])
first_quote b h = (h, refl, refl)

unequal : (b q : ℕ) → b ≢ q → not (b == q) ≡ true
unequal b q n = grind (arith, nat_tests)

pub more_text : (q b : ℕ) (text last : List ℕ) → SpellsCurrent (InString q text) last → b ≢ q
    → SpellsCurrent (InString q (text ++ b ∷ [])) (last ++ b ∷ [])
more_text q b text last h n = (
  h.0,
  all_append (λ u. not (u == q)) text b h.1 (unequal b q n),
  ap (λ (v : List ℕ). v ++ b ∷ []) h.2,
)

pub closed_text : (q : ℕ) (text last : List ℕ) → SpellsCurrent (InString q text) last
    → SpellsCurrent (AfterString q text) (last ++ q ∷ [])
closed_text q text last h = (h.0, h.1, ap (λ (v : List ℕ). v ++ q ∷ []) h.2)

-- ---- one more byte of the current member
one_more_byte : (p : Part) (y : List ℕ) (b : ℕ) (h : LoosePart p y)
    → y ++ b ∷ [] ≡ escape ∷ bracket ∷ (mark_bytes p.mark ++ (h.front ++ (h.last ++ b ∷ [])))
one_more_byte p y b h = ap (λ (v : List ℕ). v ++ b ∷ []) h.whole
    ∙ ap (λ (v : List ℕ). escape ∷ bracket ∷ v) (append_assoc (mark_bytes p.mark) (h.front ++ h.last) (b ∷ []))
    ∙ ap (λ (v : List ℕ). escape ∷ bracket ∷ (mark_bytes p.mark ++ v)) (append_assoc h.front h.last (b ∷ []))

extend_loose : (p : Part) (y : List ℕ) (b : ℕ) (c : Current) (h : LoosePart p y) → SpellsCurrent c (h.last ++ b ∷ [])
    → LoosePart (with_current p c) (y ++ b ∷ [])
extend_loose p y b c h s =
    record { front = h.front; last = h.last ++ b ∷ []; done = h.done; current = s; whole = one_more_byte p y b h }

pub extend : (p : Part) (y : List ℕ) (b : ℕ) (c : Current) (h : SpellsPart p y)
    → SpellsCurrent c (h.loose.last ++ b ∷ []) → IsCurrentInLimit c → SpellsPart (with_current p c) (y ++ b ∷ [])
extend p y b c h s small =
    record { loose = extend_loose p y b c h.loose s; numbers = h.numbers; last_number = small; room = h.room }

pub fresh_digit : (p : Part) (y : List ℕ) (b : ℕ) → SpellsPart p y → p.current ≡ Fresh → is_ascii_digit b ≡ true
    → b < 256 → SpellsPart (with_current p (InNumber (b - 48))) (y ++ b ∷ [])
fresh_digit p y b h c d small =
    let last : h.loose.last ≡ [] = rw c at h.loose.current in
    extend p y b (InNumber (b - 48)) h (rw last (first_digit b d)) (omega arith)

pub fresh_quote : (p : Part) (y : List ℕ) (b : ℕ) → SpellsPart p y → p.current ≡ Fresh → is_quote b ≡ true
    → SpellsPart (with_current p (InString b [])) (y ++ b ∷ [])
fresh_quote p y b h c q =
    let last : h.loose.last ≡ [] = rw c at h.loose.current in
    extend p y b (InString b []) h (rw last (first_quote b q)) tt

-- a digit that makes the number too large
pub too_large : (p : Part) (y : List ℕ) (k b : ℕ) → SpellsPart p y → p.current ≡ InNumber k → is_ascii_digit b ≡ true
    → largest_number < k * 10 + (b - 48) → ¬ IsPrefixOfSpelling (y ++ b ∷ []) × IsPrefixOfLoose (y ++ b ∷ [])
too_large p y k b h c d large =
    let last : SpellsCurrent (InNumber k) h.loose.last = rw c at h.loose.current in
    let more : largest_number < digits_value 10 (h.loose.last ++ b ∷ []) =
    rw (value_of_more k b h.loose.last last d) large in
    let next : Current = InNumber (k * 10 + (b - 48)) in (
      refuses_number p y k b h.loose c d more,
      part_loose (with_current p next) (y ++ b ∷ [])
          (extend_loose p y b next h.loose (more_digits k b h.loose.last last d)),
    )

-- ---- after a whole member
whole_member : (p : Part) (y : List ℕ) (h : LoosePart p y) → lacks p.current ≡ []
    → SpellsMember (member_of p.current) h.last
whole_member p y h l = rw (l, append-nil) at (spelled_with_lacking p.current h.last h.current)

next_member_loose : (p : Part) (y : List ℕ) (h : LoosePart p y) → lacks p.current ≡ []
    → LoosePart (with_next p) (y ++ semicolon ∷ [])
next_member_loose p y h l =
    let done : List ℕ = h.front ++ (h.last ++ semicolon ∷ []) in
    record {
      front = h.front ++ (h.last ++ semicolon ∷ []);
      last = [];
      done = done_more p.done (member_of p.current) h.front h.last h.done (whole_member p y h l);
      current = refl;
      whole = one_more_byte p y semicolon h
          ∙ ap (λ (v : List ℕ). escape ∷ bracket ∷ (mark_bytes p.mark ++ v)) (sym (append-nil done));
    }

pub next_member : (p : Part) (y : List ℕ) → SpellsPart p y → lacks p.current ≡ []
    → length p.done + 1 < most_parameters
    → SpellsPart (with_next p) (y ++ semicolon ∷ [])
next_member p y h l few = record {
  loose = next_member_loose p y h.loose l;
  numbers = limit_append p.done (member_of p.current) h.numbers (limit_member p.current h.last_number);
  last_number = tt;
  room = omega (arith, length-append p.done (member_of p.current ∷ []));
}

-- a `;` after the sixteenth member
pub too_many : (p : Part) (y : List ℕ) → SpellsPart p y → lacks p.current ≡ []
    → most_parameters ≤ length p.done + 1
    → ¬ IsPrefixOfSpelling (y ++ semicolon ∷ []) × IsPrefixOfLoose (y ++ semicolon ∷ [])
too_many p y h l full =
    let room : length p.done < most_parameters = h.room in (
      refuses_count p y (member_of p.current) h.loose (whole_member p y h.loose l) (omega arith),
      part_loose (with_next p) (y ++ semicolon ∷ []) (next_member_loose p y h.loose l),
    )

pub letter_spells : (p : Part) (y : List ℕ) (l : ℕ) → SpellsPart p y → lacks p.current ≡ []
    → is_ascii_alphabetic l ≡ true → Spells (raw_of p l) (y ++ l ∷ [])
letter_spells p y l h e a = rw e at (letter_completes_in_limit p y l h a)

-- ---- the mark, directly after `[`
only_bracket : (p : Part) (y : List ℕ) → LoosePart p y → p.mark ≡ Unmarked → p.done ≡ [] → p.current ≡ Fresh
    → y ≡ escape ∷ bracket ∷ []
only_bracket p y h u d c =
    let front : h.front ≡ [] = rw d at h.done in
    let last : h.last ≡ [] = rw c at h.current in
    let text : mark_bytes p.mark ≡ [] = ap mark_bytes u in
    h.whole ∙ ap (λ (v : List ℕ). escape ∷ bracket ∷ v) (rw (text, front, last) refl)

pub marked : (p : Part) (y : List ℕ) (m : Mark) (b : ℕ) → SpellsPart p y → p.mark ≡ Unmarked → p.done ≡ []
    → p.current ≡ Fresh → mark_bytes m ≡ b ∷ []
    → SpellsPart (record { mark = m; done = []; current = Fresh }) (y ++ b ∷ [])
marked p y m b h u d c e = record {
  loose = record {
    front = [];
    last = [];
    done = refl;
    current = refl;
    whole = ap (λ (v : List ℕ). v ++ b ∷ []) (only_bracket p y h.loose u d c)
        ∙ ap (λ (v : List ℕ). escape ∷ bracket ∷ v) (sym e ∙ sym (append-nil (mark_bytes m)));
  };
  numbers = tt;
  last_number = tt;
  room = omega arith;
}

-- ---- what a byte is, or is not
pub quote_is : (b : ℕ) → (b ≡ 34) ⊎ ((b ≢ 34) × (b ≡ 39)) → is_quote b ≡ true
quote_is b (inl e) = rw e
quote_is b (inr e) = rw e.1

pub quote_not : (b : ℕ) → b ≢ 34 → b ≢ 39 → is_quote b ≡ false
quote_not b m n = grind (arith, nat_tests)

pub fresh_not_after : (c : Current) (q : ℕ) (text : List ℕ) → c ≡ AfterString q text → c ≢ Fresh
fresh_not_after c q text e f = cc

pub fresh_not_number : (c : Current) (n : ℕ) → c ≡ InNumber n → c ≢ Fresh
fresh_not_number c n e f = cc

-- what begins no loose spelling begins no spelling
pub not_loose_not_spelled : (bytes : List ℕ) → ¬ IsPrefixOfLoose bytes → ¬ IsPrefixOfSpelling bytes
not_loose_not_spelled bytes none h = none (record { raw = h.raw; rest = h.rest; spelled = h.spelled.loose })
