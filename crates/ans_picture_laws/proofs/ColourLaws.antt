-- The colours from each attribute to each.
use Rattle.std.proofs.Common.{◌≡◌, ℕ, ◌+◌, ◌<◌, ◌≤◌, Bool, true, false, not, ◌&&◌, ◌==◌, refl, ap, ap₂, ◌∙◌}
use Rattle.std.proofs.Common.{fold, List, [], ◌∷◌, ◌++◌, length, length-append, map, arith}
use Rattle.std.specs.Prelude.{All, if◌then◌else◌}
use Rattle.std.specs.List.{list_all, list_any}
use Rattle.std.proofs.lemmas.Bool.{agree_below_at, eqb-true, eqb-false, ne_eqb, and_parts, and_from}
use Rattle.std.proofs.lemmas.Bool.Decides.{nat_tests}
use Rattle.std.proofs.lemmas.List.Elements.{All-nil, All-cons}
use Rattle.std.proofs.lemmas.List.Folds.{list_all-append}
use Rattle.std.proofs.lemmas.List.Sums.{fold-append}
use Rattle.ans_model.specs.Bytes.{IsByte}
use Rattle.ans_model.specs.File.Layout.{is_end_mark}
use Rattle.ans_model.specs.Sequence.TokenKind.{Colours}
use Rattle.ans_model.specs.Sequence.Reads.{SpellsToken}
use Rattle.ans_model.specs.Screen.State.{Size}
use Rattle.ans_model.specs.Screen.Step.{final}
use Rattle.ans_players.specs.Sync.{Stand}
use Rattle.ans_players.specs.Names.{Names, unnamed, names_behind, names_after, are_both, is_within}
use Rattle.ans_model.specs.Sequence.Omitted.{omits}
use Rattle.ans_players.specs.Situations.{Spelled, situations, is_common_colour}
use Rattle.ans_redraw.specs.Colours.{foreground_of, is_bright, background_of, blinks, ansi_number, parameter_if}
use Rattle.ans_redraw.specs.Colours.{changes}
use Rattle.ans_redraw.specs.Colours.{only_adds, anew, numbers_to, colour_sequence, colour_token, colours_to}
use Rattle.ans_picture_laws.specs.FormLaws.{ColoursLead, ColoursAreAgreed, ColoursAreShort, ColoursKeepNames}
use Rattle.ans_picture_laws.specs.FormLaws.{ColoursAreRead}
use Rattle.ans_redraw.proofs.ColourParts.{numbers_lead, foreground_lt, background_lt, bright_number}
use Rattle.ans_redraw.proofs.ColourParts.{blink_number, front_number, back_number, some_number}
use Rattle.ans_redraw.proofs.ColourLengths.{numbers_length}
use Rattle.ans_picture_laws.proofs.ColourTexts.{AreBytes, numbers_spelled, text_omits_none, text_unmarked}
use Rattle.ans_picture_laws.proofs.ReadBack.{AreSpelled, read_back}

-- numbers that all players take alike, and few
pub record AreCommon (ns : List ℕ) : Type 0 where
  pub common : list_all is_common_colour ns ≡ true
  pub few : length ns ≤ 5

-- ---- what changes
common_if : (test : Bool) (n : ℕ) → is_common_colour n ≡ true → list_all is_common_colour (parameter_if test n) ≡ true
common_if true n h = and_from (is_common_colour n) true h refl
common_if false n h = refl

one_if : (test : Bool) (n : ℕ) → length (parameter_if test n) ≤ 1
one_if true n = omega arith
one_if false n = omega arith

-- those of two lists
common_both : (xs ys : List ℕ) → list_all is_common_colour xs ≡ true → list_all is_common_colour ys ≡ true
    → list_all is_common_colour (xs ++ ys) ≡ true
common_both xs ys h g =
    list_all-append is_common_colour xs ys
    ∙ and_from (list_all is_common_colour xs) (list_all is_common_colour ys) h g

foreground_common : (f : ℕ) → f < 8 → is_common_colour (30 + ansi_number f) ≡ true
foreground_common f lt = agree_below_at (λ f. is_common_colour (30 + ansi_number f)) (λ n. true) 8 f refl lt

background_common : (g : ℕ) → g < 8 → is_common_colour (40 + ansi_number g) ≡ true
background_common g lt = agree_below_at (λ g. is_common_colour (40 + ansi_number g)) (λ n. true) 8 g refl lt

module _ (from to : ℕ) where
  abbrev bright : List ℕ
  bright = bright_number from to

  abbrev blink : List ℕ
  blink = blink_number from to

  abbrev front : List ℕ
  front = front_number from to

  abbrev back : List ℕ
  back = back_number from to

  changes_common : list_all is_common_colour (changes from to) ≡ true
  changes_common =
      common_both bright (blink ++ (front ++ back)) (common_if _ 1 refl)
      (common_both blink (front ++ back) (common_if _ 5 refl)
      (common_both front back
      (common_if _ (30 + ansi_number (foreground_of to)) (foreground_common (foreground_of to) (foreground_lt to)))
      (common_if _ (40 + ansi_number (background_of to)) (background_common (background_of to) (background_lt to)))))

  changes_few : length (changes from to) ≤ 4
  changes_few =
      let a = length-append bright (blink ++ (front ++ back)) in
      let b = length-append blink (front ++ back) in
      let c = length-append front back in
      let one : length bright ≤ 1 = one_if (not (is_bright from) && is_bright to) 1 in
      let two : length blink ≤ 1 = one_if (not (blinks from) && blinks to) 5 in
      let three : length front ≤ 1 =
      one_if (not (foreground_of from == foreground_of to)) (30 + ansi_number (foreground_of to)) in
      let four : length back ≤ 1 =
      one_if (not (background_of from == background_of to)) (40 + ansi_number (background_of to)) in
      omega (arith, a, b, c)

  changes_are_common : AreCommon (changes from to)
  changes_are_common = record { common = changes_common; few = omega (arith, changes_few) }

module _ (to : ℕ) where
  abbrev bright_set : List ℕ
  bright_set = parameter_if (is_bright to) 1

  abbrev blink_set : List ℕ
  blink_set = parameter_if (blinks to) 5

  abbrev colours_set : List ℕ
  colours_set = (30 + ansi_number (foreground_of to)) ∷ (40 + ansi_number (background_of to)) ∷ []

  set_common : list_all is_common_colour colours_set ≡ true
  set_common =
      and_from (is_common_colour (30 + ansi_number (foreground_of to))) _
      (foreground_common (foreground_of to) (foreground_lt to))
      (and_from (is_common_colour (40 + ansi_number (background_of to))) true
      (background_common (background_of to) (background_lt to)) refl)

  anew_is_common : AreCommon (anew to)
  anew_is_common = record {
    common = common_both bright_set (blink_set ++ colours_set) (common_if _ 1 refl)
        (common_both blink_set colours_set (common_if _ 5 refl) set_common);
    few =
        let a = length-append bright_set (blink_set ++ colours_set) in
        let b = length-append blink_set colours_set in
        let one : length bright_set ≤ 1 = one_if (is_bright to) 1 in
        let two : length blink_set ≤ 1 = one_if (blinks to) 5 in
        omega (arith, a, b);
  }

pub numbers_are_common : (from to : ℕ) → AreCommon (numbers_to from to)
numbers_are_common from to = by_test (only_adds from to)
  where
    by_test : (b : Bool) → AreCommon (if b then changes from to else anew to)
    by_test true = changes_are_common from to
    by_test false = anew_is_common to

-- ---- names
-- both colours are named
abbrev pub named : Names
named = record { foreground = true; background = true }

both_named : (n : Names) → are_both n ≡ true → n ≡ named
both_named n h = by_parts n.foreground n.background refl refl
  where
    by_parts : (a b : Bool) → n.foreground ≡ a → n.background ≡ b → n ≡ named
    by_parts true true e f = ap₂ (λ (x y : Bool). record { foreground = x; background = y }) e f
    by_parts true false e f = absurd (let no : ⊥ = cc in no)
    by_parts false b e f = absurd (let no : ⊥ = cc in no)

module _ (m : Names) where
  names_front : (f : ℕ) → f < 8 → names_behind m (30 + ansi_number f) ≡ record m { foreground = true }
  names_front f lt =
      let some : (30 + ansi_number f == 0) ≡ false = ne_eqb (30 + ansi_number f) 0 (λ e. omega arith) in
      let within : is_within 30 37 (30 + ansi_number f) ≡ true =
      agree_below_at (λ f. is_within 30 37 (30 + ansi_number f)) (λ n. true) 8 f refl lt in
      rw (some, within) refl

  names_back : (g : ℕ) → g < 8 → names_behind m (40 + ansi_number g) ≡ record m { background = true }
  names_back g lt =
      let some : (40 + ansi_number g == 0) ≡ false = ne_eqb (40 + ansi_number g) 0 (λ e. omega arith) in
      let other : is_within 30 37 (40 + ansi_number g) ≡ false =
      agree_below_at (λ g. is_within 30 37 (40 + ansi_number g)) (λ n. false) 8 g refl lt in
      let within : is_within 40 47 (40 + ansi_number g) ≡ true =
      agree_below_at (λ g. is_within 40 47 (40 + ansi_number g)) (λ n. true) 8 g refl lt in
      rw (some, other, within) refl

-- a number that changes no names, or is not there
kept_if : (test : Bool) (m : Names) (n : ℕ) → names_behind m n ≡ m → fold names_behind m (parameter_if test n) ≡ m
kept_if true m n h = h
kept_if false m n h = refl

kept_both : (m : Names) (xs ys : List ℕ) → fold names_behind m xs ≡ m → fold names_behind m ys ≡ m
    → fold names_behind m (xs ++ ys) ≡ m
kept_both m xs ys h g =
    fold-append names_behind m xs ys ∙ ap (λ (v : Names). fold names_behind v ys) h ∙ g

changes_keep : (from to : ℕ) → fold names_behind named (changes from to) ≡ named
changes_keep from to =
    kept_both named (bright_number from to) (blink_number from to ++ (front_number from to ++ back_number from to))
    (kept_if _ named 1 refl)
    (kept_both named (blink_number from to) (front_number from to ++ back_number from to) (kept_if _ named 5 refl)
    (kept_both named (front_number from to) (back_number from to)
    (kept_if _ named (30 + ansi_number (foreground_of to)) (names_front named (foreground_of to) (foreground_lt to)))
    (kept_if _ named (40 + ansi_number (background_of to)) (names_back named (background_of to) (background_lt to)))))

anew_names : (m : Names) (to : ℕ) → fold names_behind m (anew to) ≡ named
anew_names m to =
    let front : Names = record unnamed { foreground = true } in
    fold-append names_behind unnamed (bright_set to) (blink_set to ++ colours_set to)
    ∙ ap (λ (v : Names). fold names_behind v (blink_set to ++ colours_set to)) (kept_if (is_bright to) unnamed 1 refl)
    ∙ fold-append names_behind unnamed (blink_set to) (colours_set to)
    ∙ ap (λ (v : Names). fold names_behind v (colours_set to)) (kept_if (blinks to) unnamed 5 refl)
    ∙ ap (λ (v : Names). names_behind v (40 + ansi_number (background_of to)))
    (names_front unnamed (foreground_of to) (foreground_lt to))
    ∙ names_back front (background_of to) (background_lt to)

-- if both are named, both are named after the numbers
pub numbers_keep : (from to : ℕ) → fold names_behind named (numbers_to from to) ≡ named
numbers_keep from to = by_test (only_adds from to)
  where
    by_test : (t : Bool) → fold names_behind named (if t then changes from to else anew to) ≡ named
    by_test true = changes_keep from to
    by_test false = anew_names named to

pub colours_keep_names : ColoursKeepNames
colours_keep_names names from to h g both =
    by_test (from == to) (both_named names both)
  where
    by_test : (t : Bool) → names ≡ named
        → are_both (fold names_after names (map (λ (x : Spelled). x.token) (if t then []
        else colour_token (numbers_to from to) ∷ [])))
        ≡ true
    by_test true e = both
    by_test false e =
        ap (λ (m : Names). are_both (fold names_behind m (numbers_to from to))) e
        ∙ ap are_both (numbers_keep from to)

-- ---- the sequence
common_is_byte : (n : ℕ) → is_common_colour n ≡ true → n < 256
common_is_byte n h = grind (arith, nat_tests)

are_bytes : (ns : List ℕ) → list_all is_common_colour ns ≡ true → AreBytes ns
are_bytes [] h = tt
are_bytes (n ∷ ns) h =
    let both = and_parts (is_common_colour n) (list_all is_common_colour ns) h in
    (common_is_byte n both.0, are_bytes ns both.1)

-- common numbers, where there is one
pub common_spelled : (ns : List ℕ) → AreCommon ns → (ns ≡ [] → ⊥) → SpellsToken (Colours ns) (colour_sequence ns)
common_spelled [] h some = absurd (some refl)
common_spelled (n ∷ ns) h some = numbers_spelled n ns (are_bytes (n ∷ ns) h.common) (omega (arith, h.few))

pub common_unmarked : (ns : List ℕ) → AreCommon ns → list_any is_end_mark (colour_sequence ns) ≡ false
common_unmarked ns h = text_unmarked ns (are_bytes ns h.common)

common_omit_none : (ns : List ℕ) → AreCommon ns → (ns ≡ [] → ⊥) → omits (colour_sequence ns) ≡ false
common_omit_none [] h some = absurd (some refl)
common_omit_none (n ∷ ns) h some = text_omits_none n ns (are_bytes (n ∷ ns) h.common)

-- no kind arises at them
pub common_agreed : (z : Size) (h : Stand) (ns : List ℕ) → AreCommon ns → (ns ≡ [] → ⊥)
    → situations z h (colour_token ns) ≡ []
common_agreed z stand ns h some = rw (h.common, common_omit_none ns h some) refl

pub colours_lead : ColoursLead
colours_lead z s to h g = by_test (s.attribute == to) refl
  where
    by_test : (b : Bool) → (s.attribute == to) ≡ b
        → final z s (map (λ (x : Spelled). x.token) (if b then [] else colour_token (numbers_to s.attribute to) ∷ []))
        ≡ record s { attribute = to }
    by_test true e = ap (λ (a : ℕ). record s { attribute = a }) (eqb-true s.attribute to e)
    by_test false e = ap (λ (a : ℕ). record s { attribute = a }) (numbers_lead s.attribute to h g)

pub colours_are_agreed : ColoursAreAgreed
colours_are_agreed z stand from to h k = by_test (from == to) refl
  where
    by_test : (b : Bool) → (from == to) ≡ b
        → All (λ x. situations z stand x ≡ []) (if b then [] else colour_token (numbers_to from to) ∷ [])
    by_test true e = All-nil (λ x. situations z stand x ≡ [])
    by_test false e =
        All-cons (λ x. situations z stand x ≡ []) (colour_token (numbers_to from to)) []
        (common_agreed z stand (numbers_to from to) (numbers_are_common from to)
        (some_number from to h k (eqb-false from to e)))
        (All-nil (λ x. situations z stand x ≡ []))

pub colours_spelled : (from to : ℕ) → IsByte from → IsByte to → AreSpelled (colours_to from to)
colours_spelled from to h g = by_test (from == to) refl
  where
    by_test : (b : Bool) → (from == to) ≡ b
        → AreSpelled (if b then [] else colour_token (numbers_to from to) ∷ [])
    by_test true e = tt
    by_test false e = (
      common_spelled (numbers_to from to) (numbers_are_common from to)
          (some_number from to h g (eqb-false from to e)),
      tt,
    )

pub colours_are_read : ColoursAreRead
colours_are_read from to h g = read_back (colours_to from to) (colours_spelled from to h g)

pub colours_are_short : ColoursAreShort
colours_are_short from to = by_test (from == to)
  where
    by_test : (t : Bool) → All (λ x. length x.text ≤ 12) (if t then [] else colour_token (numbers_to from to) ∷ [])
    by_test true = All-nil (λ x. length x.text ≤ 12)
    by_test false =
        All-cons (λ x. length x.text ≤ 12) (colour_token (numbers_to from to)) [] (numbers_length from to)
        (All-nil (λ x. length x.text ≤ 12))
