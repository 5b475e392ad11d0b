-- How long a sequence of colours is.
use Rattle.std.proofs.Common.{◌≡◌, inl, inr, ℕ, ◌+◌, ◌<◌, ◌≤◌, Bool, true, false, not}
use Rattle.std.proofs.Common.{◌&&◌, ◌==◌, refl, ◌∙◌, arith, List, [], ◌∷◌, ◌++◌, length, length-append}
use Rattle.std.proofs.Common.{map}
use Rattle.std.specs.Prelude.{decimal, ◌||◌, if◌then◌else◌}
use Rattle.std.specs.Fmt.{digits}
use Rattle.std.specs.List.{concat, join_with_byte}
use Rattle.std.proofs.lemmas.Bool.{agree_below_at, eqb-true, and_cases}
use Rattle.ans_model.specs.Bytes.{semicolon}
use Rattle.ans_players.specs.Situations.{Spelled}
use Rattle.ans_redraw.specs.Colours.{foreground_of, is_bright, background_of, blinks, ansi_number, parameter_if}
use Rattle.ans_redraw.specs.Colours.{changes}
use Rattle.ans_redraw.specs.Colours.{only_adds, anew, numbers_to, colour_sequence, colour_token, colours_to}
use Rattle.ans_redraw.proofs.ColourParts.{foreground_lt, background_lt, bright_number, blink_number}
use Rattle.ans_redraw.proofs.ColourParts.{front_number, back_number}

-- how many bytes they are
abbrev pub bytes_of : List Spelled → ℕ
bytes_of xs = length (concat (map (λ x. x.text) xs))

-- ---- numbers
-- the digits of each, and what ends it
abbrev weight : List ℕ → ℕ
weight [] = 0
weight (n ∷ ns) = length (decimal n) + 1 + weight ns

weight_both : (xs ys : List ℕ) → weight (xs ++ ys) ≡ weight xs + weight ys
weight_both [] ys = omega arith
weight_both (x ∷ xs) ys = let more = weight_both xs ys in omega (arith, more)

joined_length : (n : ℕ) (ns : List ℕ)
    → length (join_with_byte semicolon (map decimal (n ∷ ns))) + 1 ≡ weight (n ∷ ns)
joined_length n [] = omega arith
joined_length n (m ∷ ns) =
    let more = joined_length m ns in
    let a = length-append (decimal n) (semicolon ∷ join_with_byte semicolon (map decimal (m ∷ ns))) in
    omega (arith, more, a)

text_length : (ns : List ℕ) → weight ns ≤ 10 → length (colour_sequence ns) ≤ 12
text_length [] h = omega arith
text_length (n ∷ ns) h =
    let joined = joined_length n ns in
    let a = length-append (join_with_byte semicolon (map decimal (n ∷ ns))) (0x6D ∷ []) in
    omega (arith, joined, a)

one_digit : (length (decimal 0) ≡ 1) × (length (decimal 1) ≡ 1) × (length (decimal 5) ≡ 1)
unfolding digits
one_digit = (refl, refl, refl)

foreground_digits : (f : ℕ) → f < 8 → length (decimal (30 + ansi_number f)) ≡ 2
unfolding digits
foreground_digits f lt =
    eqb-true _ 2 (agree_below_at (λ f. length (decimal (30 + ansi_number f)) == 2) (λ n. true) 8 f refl lt)

background_digits : (g : ℕ) → g < 8 → length (decimal (40 + ansi_number g)) ≡ 2
unfolding digits
background_digits g lt =
    eqb-true _ 2 (agree_below_at (λ g. length (decimal (40 + ansi_number g)) == 2) (λ n. true) 8 g refl lt)

weight_if : (test : Bool) (n : ℕ) → weight (parameter_if test n) ≤ length (decimal n) + 1
weight_if true n = omega arith
weight_if false n = omega arith

-- ---- what changes
module _ (from to : ℕ) where
  abbrev bright : List ℕ
  bright = bright_number from to

  abbrev blink : List ℕ
  blink = blink_number from to

  abbrev front : List ℕ
  front = front_number from to

  abbrev back : List ℕ
  back = back_number from to

  changes_weight : weight (changes from to) ≤ weight bright + weight blink + 6
  changes_weight =
      let a = weight_both bright (blink ++ (front ++ back)) in
      let b = weight_both blink (front ++ back) in
      let c = weight_both front back in
      let three : weight front ≤ length (decimal (30 + ansi_number (foreground_of to))) + 1 =
      weight_if (not (foreground_of from == foreground_of to)) (30 + ansi_number (foreground_of to)) in
      let four : weight back ≤ length (decimal (40 + ansi_number (background_of to))) + 1 =
      weight_if (not (background_of from == background_of to)) (40 + ansi_number (background_of to)) in
      let f = foreground_digits (foreground_of to) (foreground_lt to) in
      let g = background_digits (background_of to) (background_lt to) in
      omega (arith, a, b, c)

  changes_light : weight (changes from to) ≤ 10
  changes_light =
      let one : weight bright ≤ length (decimal 1) + 1 = weight_if (not (is_bright from) && is_bright to) 1 in
      let two : weight blink ≤ length (decimal 5) + 1 = weight_if (not (blinks from) && blinks to) 5 in
      omega (arith, changes_weight, one_digit)

-- what goes is not there any more
goes_out : (a b : Bool) → (not a || b) ≡ false → b ≡ false
goes_out true b h = h
goes_out false b h = absurd (let no : ⊥ = cc in no)

module _ (to : ℕ) where
  anew_weight : weight (anew to) ≡ 8 + (weight (parameter_if (is_bright to) 1) + weight (parameter_if (blinks to) 5))
  anew_weight =
      let rest : List ℕ = (30 + ansi_number (foreground_of to)) ∷ (40 + ansi_number (background_of to)) ∷ [] in
      let a = weight_both (parameter_if (is_bright to) 1) (parameter_if (blinks to) 5 ++ rest) in
      let b = weight_both (parameter_if (blinks to) 5) rest in
      let f = foreground_digits (foreground_of to) (foreground_lt to) in
      let g = background_digits (background_of to) (background_lt to) in
      omega (arith, a, b, f, g, one_digit)

gone_light : (from to : ℕ) → only_adds from to ≡ false → weight (anew to) ≤ 10
gone_light from to h =
    elim (and_cases (not (is_bright from) || is_bright to) (not (blinks from) || blinks to) h) [
      | inl no_bright ↦
          let none : is_bright to ≡ false = goes_out (is_bright from) (is_bright to) no_bright in
          let one : weight (parameter_if (is_bright to) 1) ≡ 0 = rw none refl in
          let two : weight (parameter_if (blinks to) 5) ≤ length (decimal 5) + 1 = weight_if (blinks to) 5 in
          omega (arith, anew_weight to, one, two, one_digit)
      | inr no_blink ↦
          let none : blinks to ≡ false = goes_out (blinks from) (blinks to) no_blink in
          let one : weight (parameter_if (blinks to) 5) ≡ 0 = rw none refl in
          let two : weight (parameter_if (is_bright to) 1) ≤ length (decimal 1) + 1 = weight_if (is_bright to) 1 in
          omega (arith, anew_weight to, one, two, one_digit)
    ]

pub numbers_length : (from to : ℕ) → length (colour_sequence (numbers_to from to)) ≤ 12
numbers_length from to = by_test (only_adds from to) refl
  where
    by_test : (a : Bool) → only_adds from to ≡ a
        → length (colour_sequence (if a then changes from to else anew to)) ≤ 12
    by_test true e = text_length (changes from to) (changes_light from to)
    by_test false e = text_length (anew to) (gone_light from to e)

one_text : (x : Spelled) → bytes_of (x ∷ []) ≡ length x.text
one_text x = length-append x.text [] ∙ omega arith

pub colours_to_length : (from to : ℕ) → bytes_of (colours_to from to) ≤ 12
colours_to_length from to = by_test (from == to)
  where
    by_test : (t : Bool) → bytes_of (if t then [] else colour_token (numbers_to from to) ∷ []) ≤ 12
    by_test true = omega arith
    by_test false = omega (arith, one_text (colour_token (numbers_to from to)), numbers_length from to)
