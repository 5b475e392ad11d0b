-- What a scanner keeps of a sequence is enough for its meaning.
use Rattle.std.proofs.Common.{◌≡◌, ◌≢◌, ℕ, Bool, true, false, not, ◌&&◌, ◌||◌, ◌==◌, List, [], ◌∷◌, ◌++◌, map, length}
use Rattle.std.proofs.Common.{refl, ap, cond, codes, arith, Err, Result}
use Rattle.std.specs.List.{list_any}
use Rattle.std.proofs.lemmas.Bool.{eqb-true}
use Rattle.ans_model.specs.Sequence.TokenKind.{TokenKind, Colours}
use Rattle.ans_model.specs.declared.fault.Cause.{Cause}
use Rattle.ans_model.specs.declared.fault.Cause.TheVariants.{UnknownSequence, WrongParameters}
use Rattle.ans_model.specs.Sequence.Spelling.{Member, Omitted, Number, Quoted, Raw}
use Rattle.ans_model.specs.declared.mark.Mark.{Mark}
use Rattle.ans_model.specs.Sequence.Meaning.{Entry, is_marked, is_quoted, distance, colour_number, colours, table}
use Rattle.ans_model.specs.Sequence.Meaning.{is_one_of, look_up, has_a_meaning, meaning}
use Rattle.ans_tokens.specs.PlainSequence.{plain_members, plain_sequence}

-- ---- members of numbers
pub no_string : (numbers : List ℕ) → list_any is_quoted (map Number numbers) ≡ false
no_string [] = refl
no_string (n ∷ numbers) = no_string numbers

numbers_back : (numbers : List ℕ) → map colour_number (map Number numbers) ≡ numbers
numbers_back [] = refl
numbers_back (n ∷ numbers) = ap (λ (ns : List ℕ). n ∷ ns) (numbers_back numbers)

pub colours_of_none : (numbers : List ℕ) → length numbers ≡ 0
    → colours (map Number numbers) ≡ Colours (numbers ++ 0 ∷ [])
colours_of_none [] h = refl
colours_of_none (n ∷ numbers) h = absurd (omega arith)

pub colours_of_some : (numbers : List ℕ) → length numbers ≢ 0 → colours (map Number numbers) ≡ Colours numbers
colours_of_some [] h = absurd (h refl)
colours_of_some (n ∷ numbers) h = ap (λ (ns : List ℕ). Colours (n ∷ ns)) (numbers_back numbers)

-- ---- a sequence without strings
same_distance : (m : Member) → distance m ≡ distance (Number (colour_number m))
same_distance Omitted = refl
same_distance (Number n) = refl
same_distance (Quoted q text) = refl

abbrev sequence_of : Mark → ℕ → List Member → Raw
sequence_of mark letter members = record { mark = mark; members = members; letter = letter }

-- each letter means the same where an omitted member is written as 0
same_table : (mark : Mark) (letter : ℕ) (ms : List Member) → list_any is_quoted ms ≡ false → ms ≢ Omitted ∷ []
    → table (sequence_of mark letter ms) ≡ table (sequence_of mark letter (map Number (map colour_number ms)))
same_table mark letter [] unquoted n = refl
same_table mark letter (Omitted ∷ []) unquoted n = absurd (n refl)
same_table mark letter (Number k ∷ []) unquoted n = refl
same_table mark letter (Quoted q text ∷ []) unquoted n = absurd (cc)
same_table mark letter (m ∷ k ∷ []) unquoted n = rw (same_distance m, same_distance k) refl
same_table mark letter (m ∷ k ∷ l ∷ ms) unquoted n = rw (numbers_back (map colour_number ms)) refl

-- ---- any sequence
same_strings : (numbers : List ℕ) (quoted : Bool) → list_any is_quoted (plain_members numbers quoted) ≡ quoted
same_strings numbers false = no_string numbers
same_strings numbers true = refl

-- what a letter means once its mark is allowed
abbrev looked_up : Raw → Bool → Result TokenKind Cause
looked_up raw quoted =
    cond (quoted && not (is_one_of (codes "p") raw.letter)) (Err WrongParameters) (look_up (table raw) raw.letter)

or_false_true : (b : Bool) → (b || false) ≡ true → b ≡ true
or_false_true true h = refl
or_false_true false h = cc

-- only `p` stands with a string, and it means the same whatever the members are
same_with_a_string : (raw other : Raw) → raw.letter ≡ other.letter
    → (keys : Bool) → is_one_of (codes "p") raw.letter ≡ keys → looked_up raw true ≡ looked_up other true
same_with_a_string raw other e false p = rw (← e, p) refl
same_with_a_string raw other e true p =
    let keys : raw.letter ≡ 0x70 = eqb-true raw.letter 0x70 (or_false_true (raw.letter == 0x70) p) in
    rw (← e, keys) refl

same_looked_up : (raw : Raw) (quoted : Bool) → list_any is_quoted raw.members ≡ quoted → raw.members ≢ Omitted ∷ []
    → looked_up raw quoted
    ≡ looked_up (plain_sequence raw.mark (map colour_number raw.members) quoted raw.letter) quoted
same_looked_up raw false e n =
    ap (λ (t : List Entry). look_up t raw.letter) (same_table raw.mark raw.letter raw.members e n)
same_looked_up raw true e n =
    same_with_a_string raw (plain_sequence raw.mark [] true raw.letter) refl (is_one_of (codes "p") raw.letter) refl

-- a sequence means what the plainest one means of which the same is kept
pub same_meaning : (raw : Raw) (quoted : Bool) → list_any is_quoted raw.members ≡ quoted → raw.members ≢ Omitted ∷ []
    → meaning raw ≡ meaning (plain_sequence raw.mark (map colour_number raw.members) quoted raw.letter)
same_meaning raw quoted e n = rw (e, same_strings (map colour_number raw.members) quoted)
    (ap (λ (v : Result TokenKind Cause). cond (not (has_a_meaning raw)) (Err UnknownSequence)
    (cond (is_marked raw.mark && not (is_one_of (codes "hl") raw.letter)) (Err UnknownSequence) v))
    (same_looked_up raw quoted e n))
