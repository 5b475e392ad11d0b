-- How a colour sequence is written: its numbers by their digits, none where one is omitted.
use Rattle.std.proofs.Common.{◌≡◌, ◌≢◌, ◌⊎◌, inl, inr, ℕ, suc, ◌<◌, ◌≤◌, Bool, true, false, not, ◌&&◌, ◌||◌, ◌==◌}
use Rattle.std.proofs.Common.{List, [], ◌∷◌, ◌++◌, length, map, refl, sym, ap, ap₂, ◌∙◌, subst, arith, Ok, Err, codes}
use Rattle.std.proofs.Common.{append_assoc}
use Rattle.std.specs.Prelude.{IsTrue, if◌then◌else◌, ⊤, Result, MatchResult}
use Rattle.std.specs.Char.{is_ascii_digit}
use Rattle.std.specs.List.{AllZip, AllByRecursion, join_with_byte, list_all, list_any}
use Rattle.std.specs.Str.Parse.{digits_value}
use Rattle.std.proofs.lemmas.Bool.{eqb-true}
use Rattle.std.proofs.lemmas.List.{length-map}
use Rattle.ans_model.specs.Bytes.{escape, bracket, semicolon}
use Rattle.ans_model.specs.declared.fault.Cause.{Cause}
use Rattle.ans_model.specs.declared.fault.Cause.TheVariants.{UnknownSequence, WrongParameters}
use Rattle.ans_model.specs.declared.mark.Mark.{Mark}
use Rattle.ans_model.specs.declared.mark.Mark.TheVariants.{Unmarked, Equals, Question}
use Rattle.ans_model.specs.Sequence.TokenKind.{TokenKind, Glyph, Bell, BackSpace, LineFeed, CarriageReturn, Tab, Up}
use Rattle.ans_model.specs.Sequence.TokenKind.{Down, Forward, Backward, Clear, EraseLine, Save, Restore, Colours}
use Rattle.ans_model.specs.Sequence.TokenKind.{Wrap, Mode, Ask}
use Rattle.ans_model.specs.Sequence.Spelling.{Member, Omitted, Number, Quoted, Raw, SpellsMember, IsInLimit}
use Rattle.ans_model.specs.Sequence.Meaning.{Entry, colours, colour_number, distance, has_a_meaning, is_marked}
use Rattle.ans_model.specs.Sequence.Meaning.{is_one_of, is_quoted, look_up, meaning, move, only_if, place, table}
use Rattle.ans_model.specs.Sequence.Reads.{SpellsToken, kind_of_byte}

-- ---- which sequences are of colours

-- the token is no colour sequence
abbrev pub IsNoColours : TokenKind → Type 0
IsNoColours (Colours parameters) = ⊥
IsNoColours _ = ⊤

abbrev MeansNone : Result TokenKind Cause → Type 0
MeansNone means = MatchResult means IsNoColours (λ cause. ⊤)

by_test : (b : Bool) (t u : TokenKind) → IsNoColours t → IsNoColours u → IsNoColours (if b then t else u)
by_test true t u h g = h
by_test false t u h g = g

only_if_none : (b : Bool) (t : TokenKind) → IsNoColours t → MeansNone (only_if b t)
only_if_none true t h = h
only_if_none false t h = tt

move_none : (by : ℕ → TokenKind) (ms : List Member) → ((n : ℕ) → IsNoColours (by n)) → MeansNone (move by ms)
move_none by [] h = h 1
move_none by (m ∷ []) h = h (distance m)
move_none by (m ∷ n ∷ ms) h = tt

place_none : (ms : List Member) → MeansNone (place ms)
place_none [] = tt
place_none (m ∷ []) = tt
place_none (m ∷ n ∷ []) = tt
place_none (m ∷ n ∷ o ∷ ms) = tt

-- no single byte is one
byte_none : (b : ℕ) → IsNoColours (kind_of_byte b)
byte_none b =
    by_test (b == 0x07) Bell _ tt
    (by_test (b == 0x08) BackSpace _ tt
    (by_test (b == 0x09) Tab _ tt
    (by_test (b == 0x0A) LineFeed _ tt
    (by_test (b == 0x0D) CarriageReturn (Glyph b) tt tt))))

-- an entry means no colours, or is that of `m`
abbrev IsEntry : Entry → Type 0
IsEntry e = MeansNone e.means ⊎ (e.letters ≡ codes "m")

colours_letter : (ps : List ℕ) (es : List Entry) (letter : ℕ) → AllByRecursion IsEntry es
    → look_up es letter ≡ Ok (Colours ps) → letter ≡ 0x6D
colours_letter ps [] letter h e = absurd (let no : ⊥ = cc in no)
colours_letter ps (x ∷ es) letter h e =
    go (is_one_of x.letters letter) refl h.0 (colours_letter ps es letter h.1) e
  where
    go : (b : Bool) → is_one_of x.letters letter ≡ b → IsEntry x
        → (look_up es letter ≡ Ok (Colours ps) → letter ≡ 0x6D)
        → (if b then x.means else look_up es letter) ≡ Ok (Colours ps) → letter ≡ 0x6D
    go true is (inl none) more same = absurd (rw same at none)
    go true is (inr m) more same = one (letter == 0x6D) refl (sym (ap (λ (v : List ℕ). is_one_of v letter) m) ∙ is)
      where
        one : (b : Bool) → (letter == 0x6D) ≡ b → (b || false) ≡ true → letter ≡ 0x6D
        one true found any = eqb-true letter 0x6D found
        one false found any = absurd (let no : ⊥ = cc in no)
    go false is here more same = more same

also : {A B : Type 0} → A → B → A × B
also a b = (a, b)

table_entries : (raw : Raw) → AllByRecursion IsEntry (table raw)
table_entries raw =
    also (inl (move_none Up raw.members (λ n. tt)))
    (also (inl (move_none Down raw.members (λ n. tt)))
    (also (inl (move_none Forward raw.members (λ n. tt)))
    (also (inl (move_none Backward raw.members (λ n. tt)))
    (also (inl (place_none raw.members))
    (also (inl (only_if_none _ Clear tt))
    (also (inl (only_if_none _ EraseLine tt))
    (also (inl (only_if_none _ Save tt))
    (also (inl (only_if_none _ Restore tt))
    (also (inr refl)
    (also (inl (by_test _ (Wrap true) Mode tt tt))
    (also (inl (by_test _ (Wrap false) Mode tt tt))
    (also (inl tt) (also (inl (only_if_none _ Ask tt)) tt)))))))))))))

-- a sequence that means colours
record MeansColours (mark : Mark) (members : List Member) (letter : ℕ) (ps : List ℕ) : Type 0 where
  mark_is : mark ≡ Unmarked
  letter_is : letter ≡ 0x6D
  unquoted : list_any is_quoted members ≡ false
  numbers : colours members ≡ Colours ps

abbrev raw_of : Mark → List Member → ℕ → Raw
raw_of mark members letter = record { mark = mark; members = members; letter = letter }

-- what is not refused
no_error : (b : Bool) (c : Cause) (r : Result TokenKind Cause) (t : TokenKind)
    → (if b then Err c else r) ≡ Ok t → (b ≡ false) × (r ≡ Ok t)
no_error true c r t e = absurd (let no : ⊥ = cc in no)
no_error false c r t e = (refl, e)

looked_up : (raw : Raw) (t : TokenKind) → meaning raw ≡ Ok t → look_up (table raw) raw.letter ≡ Ok t
looked_up raw t e =
    (no_error (list_any is_quoted raw.members && not (is_one_of (codes "p") raw.letter)) WrongParameters _ t
    (no_error (is_marked raw.mark && not (is_one_of (codes "hl") raw.letter)) UnknownSequence _ t
    (no_error (not (has_a_meaning raw)) UnknownSequence _ t e).1).1).1

no_mark : (mark : Mark) → (is_marked mark && true) ≡ false → mark ≡ Unmarked
no_mark Unmarked e = refl
no_mark Equals e = absurd (let no : ⊥ = cc in no)
no_mark Question e = absurd (let no : ⊥ = cc in no)

no_more : (b : Bool) → (b && true) ≡ false → b ≡ false
no_more true e = absurd (let no : ⊥ = cc in no)
no_more false e = refl

of_letter : (mark : Mark) (members : List Member) (ps : List ℕ) → meaning (raw_of mark members 0x6D) ≡ Ok (Colours ps)
    → MeansColours mark members 0x6D ps
of_letter mark members ps e =
    let one = no_error (is_marked mark && true) UnknownSequence
    (if list_any is_quoted members && true then Err WrongParameters else Ok (colours members)) (Colours ps) e in
    let two = no_error (list_any is_quoted members && true) WrongParameters (Ok (colours members)) (Colours ps) one.1 in
    record {
      mark_is = no_mark mark one.0;
      letter_is = refl;
      unquoted = no_more (list_any is_quoted members) two.0;
      numbers = let same : Ok (colours members) ≡ Ok (Colours ps) = two.1 in cc;
    }

means_colours : (mark : Mark) (members : List Member) (letter : ℕ) (ps : List ℕ)
    → meaning (raw_of mark members letter) ≡ Ok (Colours ps) → MeansColours mark members letter ps
means_colours mark members letter ps e =
    let m : letter ≡ 0x6D =
    colours_letter ps (table (raw_of mark members letter)) letter (table_entries (raw_of mark members letter))
    (looked_up (raw_of mark members letter) (Colours ps) e) in
    subst (λ (l : ℕ). MeansColours mark members l ps) (sym m)
    (of_letter mark members ps (subst (λ (l : ℕ). meaning (raw_of mark members l) ≡ Ok (Colours ps)) m e))

-- ---- numbers by their digits

-- all are digits; none where the number is omitted
abbrev pub AreDigits : List ℕ → Type 0
AreDigits t = IsTrue (list_all is_ascii_digit t)

-- the number of a colour
abbrev pub value_of : List ℕ → ℕ
value_of [] = 0
value_of (b ∷ bs) = digits_value 10 (b ∷ bs)

-- the texts of numbers after the first, each after its `;`, and the letter
abbrev pub tail : List (List ℕ) → List ℕ
tail [] = 0x6D ∷ []
tail (t ∷ ts) = semicolon ∷ (t ++ tail ts)

-- ESC, `[` and these numbers
abbrev pub written : List ℕ → List (List ℕ) → List ℕ
written t ts = escape ∷ bracket ∷ (t ++ tail ts)

abbrev pub IsNumber : List ℕ → Type 0
IsNumber t = AreDigits t × (value_of t ≤ 255)

-- a colour sequence by the texts of its numbers
pub record IsWritten (ps : List ℕ) (text : List ℕ) : Type 0 where
  pub first : List ℕ
  pub others : List (List ℕ)
  pub numbers : AllByRecursion IsNumber (first ∷ others)
  pub few : length others < 16
  pub values : ps ≡ map value_of (first ∷ others)
  pub whole : text ≡ written first others

joined_tail : (t : List ℕ) (ts : List (List ℕ)) → join_with_byte semicolon (t ∷ ts) ++ 0x6D ∷ [] ≡ t ++ tail ts
joined_tail t [] = refl
joined_tail t (u ∷ us) =
    append_assoc t (semicolon ∷ join_with_byte semicolon (u ∷ us)) (0x6D ∷ [])
    ∙ ap (λ (v : List ℕ). t ++ semicolon ∷ v) (joined_tail u us)

-- ---- from a spelling

some_digits : (n : ℕ) (t : List ℕ) → SpellsMember (Number n) t → value_of t ≡ n
some_digits n [] h = absurd (let no : ⊥ = omega (arith, h.0) in no)
some_digits n (b ∷ bs) h = h.2

a_number : (m : Member) (t : List ℕ) → SpellsMember m t → IsInLimit m → is_quoted m ≡ false
    → IsNumber t × (value_of t ≡ colour_number m)
a_number Omitted t h g none = rw h ((refl, omega arith), refl)
a_number (Number n) t h g none =
    let same = some_digits n t h in ((h.1, rw same g), same)
a_number (Quoted q t) text h g none = absurd (let no : ⊥ = cc in no)

none_here : (m : Member) (ms : List Member) → list_any is_quoted (m ∷ ms) ≡ false
    → (is_quoted m ≡ false) × (list_any is_quoted ms ≡ false)
none_here m ms h = go (is_quoted m) refl h
  where
    go : (b : Bool) → is_quoted m ≡ b → (b || list_any is_quoted ms) ≡ false
        → (is_quoted m ≡ false) × (list_any is_quoted ms ≡ false)
    go true is e = absurd (let no : ⊥ = cc in no)
    go false is e = (is, e)

record AreNumbers (ms : List Member) (ts : List (List ℕ)) : Type 0 where
  each : AllByRecursion IsNumber ts
  values : map value_of ts ≡ map colour_number ms
  long : length ts ≡ length ms

are_numbers : (ms : List Member) (ts : List (List ℕ)) → AllZip SpellsMember ms ts → AllByRecursion IsInLimit ms
    → list_any is_quoted ms ≡ false → AreNumbers ms ts
are_numbers [] [] h g none = record { each = tt; values = refl; long = refl }
are_numbers [] (t ∷ ts) h g none = absurd h
are_numbers (m ∷ ms) [] h g none = absurd h
are_numbers (m ∷ ms) (t ∷ ts) h g none =
    let unquoted = none_here m ms none in
    let one = a_number m t h.0 g.0 unquoted.0 in
    let more = are_numbers ms ts h.1 g.1 unquoted.1 in
    record {
      each = (one.0, more.each);
      values = ap₂ (λ (v : ℕ) (vs : List ℕ). v ∷ vs) one.1 more.values;
      long = ap suc more.long;
    }

by_members : (ps : List ℕ) (text : List ℕ) (ms : List Member) (ts : List (List ℕ)) → AllZip SpellsMember ms ts
    → AllByRecursion IsInLimit ms → list_any is_quoted ms ≡ false → length ms ≤ 16 → colours ms ≡ Colours ps
    → text ≡ escape ∷ bracket ∷ (join_with_byte semicolon ts ++ 0x6D ∷ []) → IsWritten ps text
by_members ps text [] [] h g none few means whole = record {
  first = [];
  others = [];
  numbers = ((refl, omega arith), tt);
  few = omega arith;
  values = let same : Colours (0 ∷ []) ≡ Colours ps = means in sym cc;
  whole = whole;
}
by_members ps text [] (t ∷ ts) h g none few means whole = absurd h
by_members ps text (m ∷ ms) [] h g none few means whole = absurd h
by_members ps text (m ∷ ms) (t ∷ ts) h g none few means whole =
    let are = are_numbers (m ∷ ms) (t ∷ ts) h g none in
    let all = are.long in
    let long : length ts ≡ length ms = omega (arith, all) in
    record {
      first = t;
      others = ts;
      numbers = are.each;
      few = omega (arith, long, few);
      values = let same : Colours (map colour_number (m ∷ ms)) ≡ Colours ps = means in
          let numbers : map colour_number (m ∷ ms) ≡ ps = cc in sym numbers ∙ sym are.values;
      whole = whole ∙ ap (λ (v : List ℕ). escape ∷ bracket ∷ v) (joined_tail t ts);
    }

pub is_written : (ps text : List ℕ) → SpellsToken (Colours ps) text → IsWritten ps text
is_written ps text (inl h) = absurd (rw (← h.means) at (byte_none h.byte))
is_written ps text (inr h) =
    let c = means_colours h.raw.mark h.raw.members h.raw.letter ps h.means in
    by_members ps text h.raw.members h.spelled.loose.texts h.spelled.loose.members h.spelled.numbers c.unquoted
    h.spelled.count c.numbers
    (rw (c.mark_is, c.letter_is) at h.spelled.loose.whole)

-- ---- and back

abbrev member_of : List ℕ → Member
member_of [] = Omitted
member_of (b ∷ bs) = Number (digits_value 10 (b ∷ bs))

abbrev members_of : List (List ℕ) → List Member
members_of ts = map member_of ts

spells_number : (t : List ℕ) → AreDigits t → SpellsMember (member_of t) t
spells_number [] h = refl
spells_number (b ∷ bs) h = (omega arith, h, refl)

number_back : (t : List ℕ) → colour_number (member_of t) ≡ value_of t
number_back [] = refl
number_back (b ∷ bs) = refl

in_limit : (t : List ℕ) → value_of t ≤ 255 → IsInLimit (member_of t)
in_limit [] h = tt
in_limit (b ∷ bs) h = h

no_quote : (t : List ℕ) → is_quoted (member_of t) ≡ false
no_quote [] = refl
no_quote (b ∷ bs) = refl

each_spelled : (ts : List (List ℕ)) → AllByRecursion IsNumber ts → AllZip SpellsMember (members_of ts) ts
each_spelled [] h = tt
each_spelled (t ∷ ts) h = (spells_number t h.0.0, each_spelled ts h.1)

each_in_limit : (ts : List (List ℕ)) → AllByRecursion IsNumber ts → AllByRecursion IsInLimit (members_of ts)
each_in_limit [] h = tt
each_in_limit (t ∷ ts) h = (in_limit t h.0.1, each_in_limit ts h.1)

numbers_back : (ts : List (List ℕ)) → map colour_number (members_of ts) ≡ map value_of ts
numbers_back [] = refl
numbers_back (t ∷ ts) = ap₂ (λ (v : ℕ) (vs : List ℕ). v ∷ vs) (number_back t) (numbers_back ts)

none_quoted : (ts : List (List ℕ)) → list_any is_quoted (members_of ts) ≡ false
none_quoted [] = refl
none_quoted (t ∷ ts) = rw (no_quote t) (none_quoted ts)

-- it means these colours
meant : (m : Member) (ms : List Member) → list_any is_quoted (m ∷ ms) ≡ false
    → meaning (raw_of Unmarked (m ∷ ms) 0x6D) ≡ Ok (Colours (map colour_number (m ∷ ms)))
meant m ms none = rw none refl

spelled_by : (t : List ℕ) (ts : List (List ℕ)) → AllByRecursion IsNumber (t ∷ ts) → length ts < 16
    → (members_of (t ∷ ts) ≢ Omitted ∷ []) → SpellsToken (Colours (map value_of (t ∷ ts))) (written t ts)
spelled_by t ts h few some = inr (record {
  raw = raw_of Unmarked (members_of (t ∷ ts)) 0x6D;
  spelled = record {
    loose = record {
      texts = t ∷ ts;
      members = each_spelled (t ∷ ts) h;
      not_one_omitted = some;
      letter = refl;
      whole = ap (λ (v : List ℕ). escape ∷ bracket ∷ v) (sym (joined_tail t ts));
    };
    numbers = each_in_limit (t ∷ ts) h;
    count = let long : length (members_of ts) ≡ length ts = length-map ts member_of in omega (arith, few, long);
  };
  means = meant (member_of t) (members_of ts) (none_quoted (t ∷ ts))
      ∙ ap (λ (v : List ℕ). Ok (Colours v)) (numbers_back (t ∷ ts));
})

no_number : SpellsToken (Colours (0 ∷ [])) (escape ∷ bracket ∷ 0x6D ∷ [])
no_number = inr (record {
  raw = raw_of Unmarked [] 0x6D;
  spelled = record {
    loose = record {
      texts = [];
      members = tt;
      not_one_omitted = λ e. cc;
      letter = refl;
      whole = refl;
    };
    numbers = tt;
    count = omega arith;
  };
  means = refl;
})

pub spells_written : (t : List ℕ) (ts : List (List ℕ)) → AllByRecursion IsNumber (t ∷ ts) → length ts < 16
    → SpellsToken (Colours (map value_of (t ∷ ts))) (written t ts)
spells_written [] [] h few = no_number
spells_written (b ∷ bs) [] h few = spelled_by (b ∷ bs) [] h few (λ e. cc)
spells_written t (u ∷ us) h few = spelled_by t (u ∷ us) h few (λ e. cc)
