-- How much longer a file is at most with its colours named.
use Rattle.std.proofs.Common.{◌≡◌, ℕ, ◌+◌, ◌-◌, ◌*◌, ◌≤◌, Bool, true, false, List, [], ◌∷◌, ◌++◌, length, drop}
use Rattle.std.proofs.Common.{inl, inr, refl, sym, ap, ◌∙◌, arith, codes, length-append, length-drop, Option, None}
use Rattle.std.specs.Prelude.{MatchBool, nat_le, ◌==◌, if◌then◌else◌}
use Rattle.std.specs.List.{AllZip, concat, join_with_byte}
use Rattle.std.proofs.lemmas.Bool.{and_parts, false≢true, leb-true}
use Rattle.ans_model.specs.Bytes.{bracket, escape, semicolon}
use Rattle.ans_model.specs.File.Refusals.{has_record}
use Rattle.ans_model.specs.Sequence.Reads.{SpellsToken, kind_of_byte}
use Rattle.ans_model.specs.Sequence.Spelling.{mark_bytes}
use Rattle.ans_model.specs.Sequence.TokenKind.{TokenKind, Glyph, Bell, BackSpace, CarriageReturn, LineFeed, Tab}
use Rattle.ans_players.specs.Names.{Names, are_both}
use Rattle.ans_players.specs.Situations.{Spelled, spelled}
use Rattle.ans_pens.specs.declared.times.Times.{Times}
use Rattle.ans_sauce.specs.Contents.{content_in, with_content}
use Rattle.ans_mend.specs.NamedColours.{AreColoursNamed, HasNamedColours, ends_number, left_by, missing_numbers}
use Rattle.ans_mend.specs.NamedColours.{named_content, named_sequence, named_text, names_behind_token, numbers_to_zero}
use Rattle.ans_mend.specs.NamedColours.{put_by, takes_names, through_numbers, to_zero, way_of}
use Rattle.ans_mend.specs.declared.naming.Way.{Way}
use Rattle.ans_mend.specs.declared.naming.Way.TheVariants.{Within, After, Between}
use Rattle.ans_sauce.proofs.RecordLemmas.{content_within}

-- ---- one sequence
few_numbers : (n : Names) → length (missing_numbers n) ≤ 5
few_numbers n = go n.foreground n.background
  where
    go : (foreground background : Bool) → length (if foreground then (if background then [] else codes "40")
        else if background then codes "37" else codes "37;40") ≤ 5
    go true true = omega arith
    go true false = omega arith
    go false true = omega arith
    go false false = omega arith

-- its names take at most 11 bytes more
put_few : (way : Way) (names rest : List ℕ) → length names ≤ 5
    → length (put_by way names ++ left_by way rest) ≤ length rest + 11
put_few Within names rest few = omega (arith, few, length-append (put_by Within names) rest)
put_few After names rest few = omega (arith, few, length-append (put_by After names) rest)
put_few Between names rest few =
    let sum = length-append (put_by Between names) (drop 1 rest) in
    let inner = length-append names (0x6D ∷ escape ∷ bracket ∷ []) in
    omega (arith, few, sum, inner, length-drop 1 rest)

through_short : (count : ℕ) (bytes : List ℕ) → length (through_numbers count bytes) ≤ length bytes
through_short count [] = omega arith
through_short count (b ∷ bytes) =
    go (ends_number b) (nat_le count 1) refl refl (through_short (count - 1) bytes) (through_short count bytes)
  where
    go : (ends last : Bool) → ends_number b ≡ ends → nat_le count 1 ≡ last
        → length (through_numbers (count - 1) bytes) ≤ length bytes
        → length (through_numbers count bytes) ≤ length bytes
        → length (through_numbers count (b ∷ bytes)) ≤ length (b ∷ bytes)
    go true true ends_is last_is fewer same = rw (ends_is, last_is) (omega arith)
    go true false ends_is last_is fewer same = rw (ends_is, last_is) (omega (arith, fewer))
    go false last ends_is last_is fewer same = rw ends_is (omega (arith, same))

text_few : (names text front : List ℕ) → length names ≤ 5 → length front ≤ length text
    → length (named_text names front (drop (length front) text)) ≤ length text + 11
text_few names text front few short =
    let rest : List ℕ = drop (length front) text in
    let way : Way = way_of names front rest in
    let put = put_few way names rest few in
    let sum = length-append front (put_by way names ++ left_by way rest) in
    omega (arith, put, sum, short, length-drop (length front) text)

sequence_few : (n : Names) (x : Spelled) → length (named_sequence n x) ≤ length x.text + 11
sequence_few n x = go (are_both n) refl
  where
    go : (both : Bool) → are_both n ≡ both → length (named_sequence n x) ≤ length x.text + 11
    go true is = rw is (omega arith)
    go false is =
        rw is (text_few (missing_numbers n) x.text (to_zero x) (few_numbers n)
        (through_short (numbers_to_zero x.token) x.text))

-- ---- one that gets names has ESC, `[` and a letter
by_test : (b : Bool) (t u : TokenKind) → takes_names t ≡ false → takes_names u ≡ false
    → takes_names (if b then t else u) ≡ false
by_test true t u h g = h
by_test false t u h g = g

byte_takes_none : (b : ℕ) → takes_names (kind_of_byte b) ≡ false
byte_takes_none b =
    by_test (b == 0x07) Bell _ refl
    (by_test (b == 0x08) BackSpace _ refl
    (by_test (b == 0x09) Tab _ refl
    (by_test (b == 0x0A) LineFeed _ refl
    (by_test (b == 0x0D) CarriageReturn (Glyph b) refl refl))))

three_bytes : (t : TokenKind) (text : List ℕ) → takes_names t ≡ true → SpellsToken t text → 3 ≤ length text
three_bytes t text takes (inl h) =
    absurd (false≢true (sym (byte_takes_none h.byte) ∙ ap takes_names (sym h.means) ∙ takes))
three_bytes t text takes (inr h) =
    let members : List ℕ = join_with_byte semicolon h.spelled.loose.texts in
    let whole = ap length h.spelled.loose.whole in
    let marked = length-append (mark_bytes h.raw.mark) (members ++ h.raw.letter ∷ []) in
    let inner = length-append members (h.raw.letter ∷ []) in
    omega (arith, whole, marked, inner)

token_few : (x : Spelled) (xs : List Spelled) → SpellsToken x.token x.text
    → length (named_sequence (names_behind_token x xs) x) ≤ 5 * length x.text
token_few x xs spells = go (takes_names x.token) refl
  where
    go : (takes : Bool) → takes_names x.token ≡ takes
        → length (named_sequence (names_behind_token x xs) x) ≤ 5 * length x.text
    go true is =
        let some = three_bytes x.token x.text is spells in
        let few = sequence_few (names_behind_token x xs) x in
        omega (arith, some, few)
    go false is = rw is (omega arith)

-- ---- a content
named_few : (tokens : List TokenKind) (texts : List (List ℕ)) → AllZip SpellsToken tokens texts
    → length (named_content (spelled tokens texts)) ≤ 5 * length (concat texts)
named_few [] [] h = omega arith
named_few [] (x ∷ texts) h = absurd h
named_few (t ∷ tokens) [] h = absurd h
named_few (t ∷ tokens) (text ∷ texts) h =
    let x : Spelled = record { token = t; text = text } in
    let xs : List Spelled = spelled tokens texts in
    let one = token_few x xs h.0 in
    let later = named_few tokens texts h.1 in
    let sum = length-append (named_sequence (names_behind_token x xs) x) (named_content xs) in
    omega (arith, one, later, sum, length-append text (concat texts))

-- ---- a file
content_few : (content left : List ℕ) (times : Option Times) → AreColoursNamed content left times
    → length left ≤ 5 * length content
content_few content left times (inl h) =
    let few = named_few h.tokens h.reads.0 h.reads.1.each in
    let left_long = ap length h.left_is in
    let long = ap length h.reads.1.whole in
    omega (arith, few, left_long, long)
content_few content left times (inr h) = let same = ap length h.1 in omega (arith, same)

-- with its colours named it is longer by at most four times its bytes before the record
pub longer_by_names : (file new : List ℕ) (times : Option Times) → HasNamedColours file new times
    → length new ≤ length file + 4 * (length file - 128)
longer_by_names file new times h = go (has_record file) refl h
  where
    go : (has : Bool) → has_record file ≡ has
        → MatchBool has
        ((left : List ℕ) × AreColoursNamed (content_in file) left times × (new ≡ with_content left file))
        ((new ≡ file) × (times ≡ None))
        → length new ≤ length file + 4 * (length file - 128)
    go false is named = let same = ap length named.0 in omega (arith, same)
    go true is (left, are, new_is) =
        let long : 128 ≤ length file = leb-true 128 (length file) (and_parts (nat_le 128 (length file)) _ is).0 in
        let few = content_few (content_in file) left times are in
        let within = content_within file long in
        let sum = length-append left (drop (length (content_in file)) file) in
        let rest = length-drop (length (content_in file)) file in
        let new_long = ap length new_is in
        omega (arith, long, few, within, sum, rest, new_long)
