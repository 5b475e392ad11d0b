-- A sequence with its names is read as its parts.
use Rattle.std.proofs.Common.{◌≡◌, ℕ, ◌+◌, ◌<◌, ◌≤◌, Bool, true, false, not, ◌&&◌}
use Rattle.std.proofs.Common.{List, [], ◌∷◌, ◌++◌, length, map, drop, refl, sym, ap, ap₂, ◌∙◌, subst, arith, codes}
use Rattle.std.proofs.Common.{append_assoc, length-append, append-nil}
use Rattle.std.specs.Prelude.{nat_le, if◌then◌else◌}
use Rattle.std.specs.List.{AllByRecursion, AllZip}
use Rattle.std.proofs.lemmas.Bool.{true≢false, false≢true, leb-true}
use Rattle.std.proofs.lemmas.Bool.Decides.{nat_tests}
use Rattle.std.proofs.lemmas.List.{map-append}
use Rattle.ans_model.specs.Bytes.{escape, bracket, semicolon}
use Rattle.ans_model.specs.Sequence.TokenKind.{TokenKind, Colours}
use Rattle.ans_model.specs.Sequence.Reads.{SpellsToken}
use Rattle.ans_players.specs.Names.{Names, are_both}
use Rattle.ans_model.specs.Sequence.Omitted.{omits}
use Rattle.ans_players.specs.Situations.{Spelled, spelled}
use Rattle.ans_mend.specs.NamedColours.{after_zero, left_by, missing_numbers, named_content, named_sequence, named_text}
use Rattle.ans_mend.specs.NamedColours.{names_behind_token, longest_sequence, opening, put_by, takes_names}
use Rattle.ans_mend.specs.NamedColours.{to_zero, way_of}
use Rattle.ans_mend.specs.NameSearch.{bytes_of}
use Rattle.ans_mend.specs.declared.naming.Way.{Way}
use Rattle.ans_mend.specs.declared.naming.Way.TheVariants.{Within, After, Between}
use Rattle.ans_mend.proofs.NamesWaiting.{bytes_append}
use Rattle.ans_names_laws.specs.NamedTokens.{colours_of, named_parts, named_tokens, naming_numbers, naming_sequence}
use Rattle.ans_names_laws.specs.NamedTokens.{numbers_after_zero, numbers_through_zero, parts_by}
use Rattle.ans_names_laws.specs.NameLaws.{NamedIsRead}
use Rattle.ans_names_laws.proofs.ColourTexts.{IsNumber, is_written, spells_written, tail, value_of, written}
use Rattle.ans_names_laws.proofs.CutSequences.{IsCut, is_cut, lead, tail_append}

-- ---- the names

-- the texts of the numbers that name
abbrev pub name_texts : Names → List (List ℕ)
name_texts n =
    if n.foreground then (if n.background then [] else codes "40" ∷ [])
    else if n.background then codes "37" ∷ [] else codes "37" ∷ codes "40" ∷ []

pub record AreNames (n : Names) : Type 0 where
  pub numbers : AllByRecursion IsNumber (name_texts n)
  pub few : length (name_texts n) ≤ 2
  pub long : 2 ≤ length (missing_numbers n)
  pub lead_is : semicolon ∷ missing_numbers n ≡ lead (name_texts n)
  pub values : naming_numbers n ≡ map value_of (name_texts n)
  pub spells : SpellsToken (naming_sequence n).token (naming_sequence n).text

pub are_names : (n : Names) → are_both n ≡ false → AreNames n
are_names n h = go n.foreground n.background h
  where
    go : (f b : Bool) → (f && b) ≡ false → AreNames (record { foreground = f; background = b })
    go true true e = absurd (true≢false e)
    go true false e = record {
      numbers = ((refl, omega arith), tt);
      few = omega arith;
      long = omega arith;
      lead_is = refl;
      values = refl;
      spells = spells_written (codes "40") [] ((refl, omega arith), tt) (omega arith);
    }
    go false true e = record {
      numbers = ((refl, omega arith), tt);
      few = omega arith;
      long = omega arith;
      lead_is = refl;
      values = refl;
      spells = spells_written (codes "37") [] ((refl, omega arith), tt) (omega arith);
    }
    go false false e = record {
      numbers = ((refl, omega arith), ((refl, omega arith), tt));
      few = omega arith;
      long = omega arith;
      lead_is = refl;
      values = refl;
      spells = spells_written (codes "37") (codes "40" ∷ []) ((refl, omega arith), ((refl, omega arith), tt))
          (omega arith);
    }

-- ---- the ways

pub record IsWay (names front rest : List ℕ) (way : Way) : Type 0 where
  pub short : way ≡ Within → length front + 1 + length names + length rest ≤ longest_sequence
  pub none_omitted : way ≡ Within → omits (front ++ rest) ≡ false
  pub nothing_left : way ≡ After → length rest ≤ 1
  pub some_left : way ≡ Between → 1 < length rest

pub is_way : (names front rest : List ℕ) → IsWay names front rest (way_of names front rest)
is_way names front rest =
    go (omits (front ++ rest)) (nat_le (length front + 1 + length names + length rest) longest_sequence)
    (nat_le (length rest) 1) refl refl refl
  where
    go : (o s l : Bool) → omits (front ++ rest) ≡ o
        → nat_le (length front + 1 + length names + length rest) longest_sequence ≡ s
        → nat_le (length rest) 1 ≡ l
        → IsWay names front rest (if not o && s then Within else if l then After else Between)
    go false true l o_is s_is l_is = record {
      short = λ e. leb-true _ _ s_is;
      none_omitted = λ e. o_is;
      nothing_left = λ e. absurd (let no : ⊥ = cc in no);
      some_left = λ e. absurd (let no : ⊥ = cc in no);
    }
    go false false true o_is s_is l_is = record {
      short = λ e. absurd (let no : ⊥ = cc in no);
      none_omitted = λ e. absurd (let no : ⊥ = cc in no);
      nothing_left = λ e. leb-true _ _ l_is;
      some_left = λ e. absurd (let no : ⊥ = cc in no);
    }
    go false false false o_is s_is l_is = record {
      short = λ e. absurd (let no : ⊥ = cc in no);
      none_omitted = λ e. absurd (let no : ⊥ = cc in no);
      nothing_left = λ e. absurd (let no : ⊥ = cc in no);
      some_left = λ e. grind (arith, nat_tests, l_is);
    }
    go true s true o_is s_is l_is = record {
      short = λ e. absurd (let no : ⊥ = cc in no);
      none_omitted = λ e. absurd (let no : ⊥ = cc in no);
      nothing_left = λ e. leb-true _ _ l_is;
      some_left = λ e. absurd (let no : ⊥ = cc in no);
    }
    go true s false o_is s_is l_is = record {
      short = λ e. absurd (let no : ⊥ = cc in no);
      none_omitted = λ e. absurd (let no : ⊥ = cc in no);
      nothing_left = λ e. absurd (let no : ⊥ = cc in no);
      some_left = λ e. grind (arith, nat_tests, l_is);
    }

-- ---- the parts

abbrev pub AreSpelled : List Spelled → Type 0
AreSpelled xs = AllByRecursion (λ x. SpellsToken x.token x.text) xs

long_lead : (ts : List (List ℕ)) → length ts ≤ length (lead ts)
long_lead [] = omega arith
long_lead (t ∷ ts) = let sum = length-append t (lead ts) in let more = long_lead ts in omega (arith, sum, more)

pub long_tail : (ts : List (List ℕ)) → length ts + 1 ≤ length (tail ts)
long_tail [] = omega arith
long_tail (t ∷ ts) = let sum = length-append t (tail ts) in let more = long_tail ts in omega (arith, sum, more)

pub tail_lead : (ts : List (List ℕ)) → tail ts ≡ lead ts ++ 0x6D ∷ []
tail_lead ts = ap tail (sym (append-nil ts)) ∙ tail_append ts []

pub numbers_append : (a b : List (List ℕ)) → AllByRecursion IsNumber a → AllByRecursion IsNumber b
    → AllByRecursion IsNumber (a ++ b)
numbers_append [] b h g = g
numbers_append (t ∷ a) b h g = (h.0, numbers_append a b h.1 g)

module _ (n : Names) (x : Spelled) (cut : IsCut x) (names : AreNames n) where
  -- the numbers with the names
  abbrev pub others_within : List (List ℕ)
  others_within = cut.lower ++ (name_texts n ++ cut.upper)

  pub whole_parts : x.text ≡ to_zero x ++ after_zero x
  whole_parts =
      cut.whole
      ∙ ap (λ (v : List ℕ). escape ∷ bracket ∷ (cut.first ++ v)) (tail_append cut.lower cut.upper)
      ∙ ap (λ (v : List ℕ). escape ∷ bracket ∷ v) (sym (append_assoc cut.first (lead cut.lower) (tail cut.upper)))
      ∙ ap₂ (λ (v w : List ℕ). v ++ w) (sym cut.front) (sym cut.rest)

  pub within_text : way_of (missing_numbers n) (to_zero x) (after_zero x) ≡ Within
      → named_text (missing_numbers n) (to_zero x) (after_zero x) ≡ written cut.first others_within
  within_text is =
      ap (λ (w : Way). to_zero x ++ (put_by w (missing_numbers n) ++ left_by w (after_zero x))) is
      ∙ ap₂ (λ (v w : List ℕ). v ++ ((semicolon ∷ missing_numbers n) ++ w)) cut.front cut.rest
      ∙ ap (λ (v : List ℕ). escape ∷ bracket ∷ ((cut.first ++ lead cut.lower) ++ (v ++ tail cut.upper))) names.lead_is
      ∙ ap (λ (v : List ℕ). escape ∷ bracket ∷ v)
      (append_assoc cut.first (lead cut.lower) (lead (name_texts n) ++ tail cut.upper))
      ∙ ap (λ (v : List ℕ). escape ∷ bracket ∷ (cut.first ++ (lead cut.lower ++ v)))
      (sym (tail_append (name_texts n) cut.upper))
      ∙ ap (λ (v : List ℕ). escape ∷ bracket ∷ (cut.first ++ v))
      (sym (tail_append cut.lower (name_texts n ++ cut.upper)))

  pub within_numbers : numbers_through_zero x.token ++ (naming_numbers n ++ numbers_after_zero x.token)
      ≡ map value_of (cut.first ∷ others_within)
  within_numbers =
      ap (λ (v : List ℕ). v ++ (naming_numbers n ++ numbers_after_zero x.token)) cut.front_numbers
      ∙ ap₂ (λ (v w : List ℕ). map value_of (cut.first ∷ cut.lower) ++ (v ++ w)) names.values cut.rest_numbers
      ∙ ap (λ (v : List ℕ). map value_of (cut.first ∷ cut.lower) ++ v)
      (sym (map-append value_of (name_texts n) cut.upper))
      ∙ sym (map-append value_of (cut.first ∷ cut.lower) (name_texts n ++ cut.upper))

  within_spelled : way_of (missing_numbers n) (to_zero x) (after_zero x) ≡ Within → AreSpelled (parts_by Within n x)
  within_spelled is =
      let short = (is_way (missing_numbers n) (to_zero x) (after_zero x)).short is in
      let a = ap length cut.front in
      let b = ap length cut.rest in
      let c = length-append cut.first (lead cut.lower) in
      let d = long_lead cut.lower in
      let e = long_tail cut.upper in
      let few = names.few in
      let long = names.long in
      let sum = length-append cut.lower (name_texts n ++ cut.upper) in
      let more = length-append (name_texts n) cut.upper in (
        subst (λ (v : Spelled). SpellsToken v.token v.text)
            (ap₂ colours_of (sym within_numbers) (sym (within_text is)))
            (spells_written cut.first others_within (
              cut.firsts.0,
              numbers_append cut.lower (name_texts n ++ cut.upper) cut.firsts.1
                  (numbers_append (name_texts n) cut.upper names.numbers cut.others),
            )
            (omega (arith, short, a, b, c, d, e, few, long, sum, more))),
        tt,
      )

  pub front_text : to_zero x ++ 0x6D ∷ [] ≡ written cut.first cut.lower
  front_text =
      ap (λ (v : List ℕ). v ++ 0x6D ∷ []) cut.front
      ∙ ap (λ (v : List ℕ). escape ∷ bracket ∷ v) (append_assoc cut.first (lead cut.lower) (0x6D ∷ []))
      ∙ ap (λ (v : List ℕ). escape ∷ bracket ∷ (cut.first ++ v)) (sym (tail_lead cut.lower))

  front_spelled : SpellsToken (Colours (numbers_through_zero x.token)) (to_zero x ++ 0x6D ∷ [])
  front_spelled =
      let few = cut.few in
      subst (λ (v : Spelled). SpellsToken v.token v.text)
      (ap₂ colours_of (sym cut.front_numbers) (sym front_text))
      (spells_written cut.first cut.lower cut.firsts (omega (arith, few)))

  rest_spelled : 1 < length (after_zero x)
      → SpellsToken (Colours (numbers_after_zero x.token)) (opening ++ drop 1 (after_zero x))
  rest_spelled some =
      go cut.upper cut.rest cut.rest_numbers cut.others (let few = cut.few in omega (arith, few))
    where
      go : (upper : List (List ℕ)) → after_zero x ≡ tail upper → numbers_after_zero x.token ≡ map value_of upper
          → AllByRecursion IsNumber upper → length upper < 16
          → SpellsToken (Colours (numbers_after_zero x.token)) (opening ++ drop 1 (after_zero x))
      go [] rest numbers each few = absurd (let long = ap length rest in let no : ⊥ = omega (arith, some, long) in no)
      go (u ∷ us) rest numbers each few =
          subst (λ (v : Spelled). SpellsToken v.token v.text)
          (ap₂ colours_of (sym numbers) (ap (λ (v : List ℕ). opening ++ drop 1 v) (sym rest)))
          (spells_written u us each (omega (arith, few)))

  -- nothing is left but the letter
  just_letter : length (after_zero x) ≤ 1 → after_zero x ≡ 0x6D ∷ []
  just_letter few = go cut.upper cut.rest
    where
      go : (upper : List (List ℕ)) → after_zero x ≡ tail upper → after_zero x ≡ 0x6D ∷ []
      go [] rest = rest
      go (u ∷ us) rest =
          let long = ap length rest in
          let sum = length-append u (tail us) in
          let more = long_tail us in
          absurd (let no : ⊥ = omega (arith, few, long, sum, more) in no)

  after_bytes : way_of (missing_numbers n) (to_zero x) (after_zero x) ≡ After
      → bytes_of (parts_by After n x) ≡ named_text (missing_numbers n) (to_zero x) (after_zero x)
  after_bytes is =
      let rest = just_letter ((is_way (missing_numbers n) (to_zero x) (after_zero x)).nothing_left is) in
      ap (λ (v : List ℕ). v ++ (escape ∷ bracket ∷ ((missing_numbers n ++ 0x6D ∷ []) ++ []))) whole_parts
      ∙ append_assoc (to_zero x) (after_zero x) (escape ∷ bracket ∷ ((missing_numbers n ++ 0x6D ∷ []) ++ []))
      ∙ ap (λ (v : List ℕ). to_zero x ++ (after_zero x ++ (escape ∷ bracket ∷ v)))
      (append-nil (missing_numbers n ++ 0x6D ∷ []))
      ∙ ap (λ (v : List ℕ). to_zero x ++ (v ++ (escape ∷ bracket ∷ (missing_numbers n ++ 0x6D ∷ [])))) rest
      ∙ ap (λ (v : List ℕ). to_zero x ++ (0x6D ∷ escape ∷ bracket ∷ (missing_numbers n ++ v))) (sym rest)
      ∙ ap (λ (w : Way). to_zero x ++ (put_by w (missing_numbers n) ++ left_by w (after_zero x))) (sym is)

  between_bytes : way_of (missing_numbers n) (to_zero x) (after_zero x) ≡ Between
      → bytes_of (parts_by Between n x) ≡ named_text (missing_numbers n) (to_zero x) (after_zero x)
  between_bytes is =
      let last : List ℕ = drop 1 (after_zero x) in
      append_assoc (to_zero x) (0x6D ∷ [])
      (escape ∷ bracket ∷ ((missing_numbers n ++ 0x6D ∷ []) ++ (escape ∷ bracket ∷ (last ++ []))))
      ∙ ap (λ (v : List ℕ). to_zero x
      ++ (0x6D ∷ escape ∷ bracket ∷ ((missing_numbers n ++ 0x6D ∷ []) ++ (escape ∷ bracket ∷ v)))) (append-nil last)
      ∙ ap (λ (v : List ℕ). to_zero x ++ (0x6D ∷ escape ∷ bracket ∷ v))
      (append_assoc (missing_numbers n) (0x6D ∷ []) (escape ∷ bracket ∷ last)
      ∙ sym (append_assoc (missing_numbers n) (0x6D ∷ escape ∷ bracket ∷ []) last))
      ∙ ap (λ (w : Way). to_zero x ++ (put_by w (missing_numbers n) ++ left_by w (after_zero x))) (sym is)

  -- the parts spell tokens, and are the bytes
  pub record AreParts (parts : List Spelled) : Type 0 where
    pub each : AreSpelled parts
    pub bytes : bytes_of parts ≡ named_text (missing_numbers n) (to_zero x) (after_zero x)

  pub are_parts : SpellsToken x.token x.text
      → AreParts (parts_by (way_of (missing_numbers n) (to_zero x) (after_zero x)) n x)
  are_parts h = go (way_of (missing_numbers n) (to_zero x) (after_zero x)) refl
    where
      go : (w : Way) → way_of (missing_numbers n) (to_zero x) (after_zero x) ≡ w → AreParts (parts_by w n x)
      go Within is = record {
        each = within_spelled is;
        bytes = append-nil (named_text (missing_numbers n) (to_zero x) (after_zero x));
      }
      go After is = record { each = (h, (names.spells, tt)); bytes = after_bytes is }
      go Between is = record {
        each = (
          front_spelled,
          (names.spells, (rest_spelled ((is_way (missing_numbers n) (to_zero x) (after_zero x)).some_left is), tt)),
        );
        bytes = between_bytes is;
      }

-- ---- a content

pub cut_of : (t : TokenKind) (text : List ℕ) → SpellsToken t text → takes_names t ≡ true
    → IsCut (record { token = t; text = text })
cut_of (Colours ps) text h takes = is_cut ps text (is_written ps text h) takes
cut_of _ text h takes = absurd (false≢true takes)

-- what gets names takes them away
pub takes_if : (x : Spelled) (xs : List Spelled) → are_both (names_behind_token x xs) ≡ false
    → takes_names x.token ≡ true
takes_if x xs h = go (takes_names x.token) refl h
  where
    go : (b : Bool) → takes_names x.token ≡ b → are_both (names_behind_token x xs) ≡ false → takes_names x.token ≡ true
    go true is e = is
    go false is e = absurd (true≢false (rw is at e))

pub spelled_append : (xs ys : List Spelled) → AreSpelled xs → AreSpelled ys → AreSpelled (xs ++ ys)
spelled_append [] ys h g = g
spelled_append (x ∷ xs) ys h g = (h.0, spelled_append xs ys h.1 g)

record AreNamed (x : Spelled) (n : Names) : Type 0 where
  each : AreSpelled (named_parts n x)
  bytes : bytes_of (named_parts n x) ≡ named_sequence n x

are_named : (x : Spelled) (n : Names) → SpellsToken x.token x.text → (are_both n ≡ false → takes_names x.token ≡ true)
    → AreNamed x n
are_named x n h takes = go (are_both n) refl
  where
    go : (b : Bool) → are_both n ≡ b → AreNamed x n
    go true is = record { each = rw is (h, tt); bytes = rw is (append-nil x.text) }
    go false is =
        let parts = are_parts n x (cut_of x.token x.text h (takes is)) (are_names n is) h in
        record { each = rw is parts.each; bytes = rw is parts.bytes }

pub named_spelled : (xs : List Spelled) → AreSpelled xs → AreSpelled (named_tokens xs)
named_spelled [] h = tt
named_spelled (x ∷ xs) h =
    spelled_append (named_parts (names_behind_token x xs) x) (named_tokens xs)
    (are_named x (names_behind_token x xs) h.0 (takes_if x xs)).each (named_spelled xs h.1)

pub named_bytes : (xs : List Spelled) → AreSpelled xs → bytes_of (named_tokens xs) ≡ named_content xs
named_bytes [] h = refl
named_bytes (x ∷ xs) h =
    bytes_append (named_parts (names_behind_token x xs) x) (named_tokens xs)
    ∙ ap₂ (λ (v w : List ℕ). v ++ w) (are_named x (names_behind_token x xs) h.0 (takes_if x xs)).bytes
    (named_bytes xs h.1)

pub each_spelled : (tokens : List TokenKind) (texts : List (List ℕ)) → AllZip SpellsToken tokens texts
    → AreSpelled (spelled tokens texts)
each_spelled [] texts h = tt
each_spelled (t ∷ tokens) [] h = absurd h
each_spelled (t ∷ tokens) (x ∷ texts) h = (h.0, each_spelled tokens texts h.1)

pub spelled_each : (xs : List Spelled) → AreSpelled xs
    → AllZip SpellsToken (map (λ x. x.token) xs) (map (λ x. x.text) xs)
spelled_each [] h = tt
spelled_each (x ∷ xs) h = (h.0, spelled_each xs h.1)

pub named_is_read : NamedIsRead
named_is_read content tokens reads =
    let each : AreSpelled (spelled tokens reads.0) = each_spelled tokens reads.0 reads.1.each in
    record {
      each = spelled_each (named_tokens (spelled tokens reads.0)) (named_spelled (spelled tokens reads.0) each);
      whole = sym (named_bytes (spelled tokens reads.0) each);
    }
