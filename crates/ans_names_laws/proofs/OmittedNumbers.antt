-- Where a colour sequence omits a number.
use Rattle.std.proofs.Common.{◌≡◌, ℕ, Bool, true, false, ◌&&◌, ◌||◌, List, [], ◌∷◌, ◌++◌, map, refl, sym, ap, ◌∙◌}
use Rattle.std.proofs.Common.{arith}
use Rattle.std.specs.Prelude.{◌==◌}
use Rattle.std.specs.Char.{is_ascii_digit}
use Rattle.std.specs.List.{AllByRecursion, list_all, list_any}
use Rattle.std.proofs.lemmas.Bool.{and_parts, true≢false}
use Rattle.std.proofs.lemmas.Bool.Decides.{nat_tests}
use Rattle.std.proofs.lemmas.List.Folds.{list_any-append}
use Rattle.ans_model.specs.Bytes.{bracket, semicolon}
use Rattle.ans_players.specs.Names.{Names, are_both}
use Rattle.ans_model.specs.Sequence.Omitted.{omits}
use Rattle.ans_players.specs.Situations.{Spelled}
use Rattle.ans_mend.specs.NamedColours.{after_zero, ends_number, is_zero, missing_numbers, named_text, to_zero, way_of}
use Rattle.ans_mend.specs.declared.naming.Way.TheVariants.{Within}
use Rattle.ans_names_laws.specs.NamedTokens.{naming_sequence}
use Rattle.ans_names_laws.proofs.ColourTexts.{AreDigits, IsNumber, tail, value_of, written}
use Rattle.ans_names_laws.proofs.CutSequences.{IsCut}
use Rattle.ans_names_laws.proofs.NamedParts.{AreNames, front_text, is_way, name_texts, numbers_append, whole_parts}
use Rattle.ans_names_laws.proofs.NamedParts.{within_text}
use Rattle.ans_names_laws.proofs.NoneMissing.{none_first}

-- ---- by the texts of the numbers

abbrev pub is_nothing : List ℕ → Bool
is_nothing [] = true
is_nothing (b ∷ bs) = false

-- `[` or `;`
abbrev opens : ℕ → Bool
opens b = b == bracket || b == semicolon

digit_ends_none : (b : ℕ) → is_ascii_digit b ≡ true → ends_number b ≡ false
digit_ends_none b h = grind (arith, nat_tests)

digit_opens_none : (b : ℕ) → is_ascii_digit b ≡ true → opens b ≡ false
digit_opens_none b h = grind (arith, nat_tests)

after_digits : (d : ℕ) (ds : List ℕ) (c : ℕ) (more : List ℕ) → is_ascii_digit d ≡ true → AreDigits ds
    → omits (d ∷ (ds ++ c ∷ more)) ≡ omits (c ∷ more)
after_digits d [] c more first others = rw (digit_opens_none d first) refl
after_digits d (e ∷ ds) c more first others =
    let parts = and_parts (is_ascii_digit e) (list_all is_ascii_digit ds) others in
    rw (digit_opens_none d first) (after_digits e ds c more parts.0 parts.1)

at_number : (b : ℕ) (t : List ℕ) (c : ℕ) (more : List ℕ) → opens b ≡ true → AreDigits t → ends_number c ≡ true
    → omits (b ∷ (t ++ c ∷ more)) ≡ (is_nothing t || omits (c ∷ more))
at_number b [] c more begun h ends = rw (begun, ends) refl
at_number b (d ∷ ds) c more begun h ends =
    let parts = and_parts (is_ascii_digit d) (list_all is_ascii_digit ds) h in
    rw (begun, digit_ends_none d parts.0) (after_digits d ds c more parts.0 parts.1)

along_numbers : (b : ℕ) (t : List ℕ) (ts : List (List ℕ)) → opens b ≡ true → AllByRecursion IsNumber (t ∷ ts)
    → omits (b ∷ (t ++ tail ts)) ≡ list_any is_nothing (t ∷ ts)
along_numbers b t [] begun h = at_number b t 0x6D [] begun h.0.0 refl
along_numbers b t (u ∷ us) begun h =
    at_number b t semicolon (u ++ tail us) begun h.0.0 refl
    ∙ ap (λ (v : Bool). is_nothing t || v) (along_numbers semicolon u us refl h.1)

pub omits_written : (t : List ℕ) (ts : List (List ℕ)) → AllByRecursion IsNumber (t ∷ ts)
    → omits (written t ts) ≡ list_any is_nothing (t ∷ ts)
omits_written t ts h = along_numbers bracket t ts refl h

-- ---- the parts of a sequence

names_there : (n : Names) → list_any is_nothing (name_texts n) ≡ false
names_there n = go n.foreground n.background
  where
    go : (f b : Bool) → list_any is_nothing (name_texts (record { foreground = f; background = b })) ≡ false
    go true true = refl
    go true false = refl
    go false true = refl
    go false false = refl

pub naming_omits_none : (n : Names) → are_both n ≡ false → omits (naming_sequence n).text ≡ false
naming_omits_none n h = go n.foreground n.background h
  where
    go : (f b : Bool) → (f && b) ≡ false
        → omits (naming_sequence (record { foreground = f; background = b })).text ≡ false
    go true true e = absurd (true≢false e)
    go true false e = refl
    go false true e = refl
    go false false e = refl

-- no number after the last 0 is omitted
none_nothing : (ts : List (List ℕ)) → list_any is_zero (map value_of ts) ≡ false → list_any is_nothing ts ≡ false
none_nothing [] h = refl
none_nothing ([] ∷ ts) h = absurd (true≢false h)
none_nothing ((b ∷ bs) ∷ ts) h =
    none_nothing ts (none_first (value_of (b ∷ bs)) (map value_of ts) h).1

pub rest_omits_none : (u : List ℕ) (us : List (List ℕ)) → AllByRecursion IsNumber (u ∷ us)
    → list_any is_zero (map value_of (u ∷ us)) ≡ false → omits (written u us) ≡ false
rest_omits_none u us h none = omits_written u us h ∙ none_nothing (u ∷ us) none

split_numbers : (a b : List (List ℕ)) → list_any is_nothing (a ++ b)
    ≡ (list_any is_nothing a || list_any is_nothing b)
split_numbers a b = list_any-append is_nothing a b

module _ (n : Names) (x : Spelled) (cut : IsCut x) (names : AreNames n) where
  all_numbers : AllByRecursion IsNumber (cut.first ∷ (cut.lower ++ cut.upper))
  all_numbers = (cut.firsts.0, numbers_append cut.lower cut.upper cut.firsts.1 cut.others)

  -- what the whole sequence omits
  pub omits_whole : omits x.text
      ≡ (is_nothing cut.first || (list_any is_nothing cut.lower || list_any is_nothing cut.upper))
  omits_whole =
      ap omits cut.whole ∙ omits_written cut.first (cut.lower ++ cut.upper) all_numbers
      ∙ ap (λ (v : Bool). is_nothing cut.first || v) (split_numbers cut.lower cut.upper)

  pub within_omits_none : way_of (missing_numbers n) (to_zero x) (after_zero x) ≡ Within
      → omits (named_text (missing_numbers n) (to_zero x) (after_zero x)) ≡ false
  within_omits_none is =
      ap omits (within_text n x cut names is)
      ∙ omits_written cut.first (cut.lower ++ (name_texts n ++ cut.upper)) (
        cut.firsts.0,
        numbers_append cut.lower (name_texts n ++ cut.upper) cut.firsts.1
            (numbers_append (name_texts n) cut.upper names.numbers cut.others),
      )
      ∙ ap (λ (v : Bool). is_nothing cut.first || v)
      (split_numbers cut.lower (name_texts n ++ cut.upper)
      ∙ ap (λ (v : Bool). list_any is_nothing cut.lower || v)
      (split_numbers (name_texts n) cut.upper
      ∙ ap (λ (v : Bool). v || list_any is_nothing cut.upper) (names_there n)))
      ∙ sym omits_whole ∙ ap omits (whole_parts n x cut names)
      ∙ (is_way (missing_numbers n) (to_zero x) (after_zero x)).none_omitted is

  pub front_omits : omits (to_zero x ++ 0x6D ∷ []) ≡ true → omits x.text ≡ true
  front_omits h =
      omits_whole
      ∙ more (is_nothing cut.first) (list_any is_nothing cut.lower) (list_any is_nothing cut.upper)
      (sym (ap omits (front_text n x cut names) ∙ omits_written cut.first cut.lower cut.firsts) ∙ h)
    where
      more : (a b c : Bool) → (a || b) ≡ true → (a || (b || c)) ≡ true
      more true b c e = refl
      more false true c e = refl
      more false false c e = absurd (true≢false (sym e))
