-- What the numbers of colours do to an attribute, part by part.
use Rattle.std.proofs.Common.{◌≡◌, ℕ, ◌+◌, ◌*◌, ◌/◌, ◌<◌, Bool, true, false, not, ◌&&◌, ◌==◌, refl, ap, ap₂, sym, ◌∙◌}
use Rattle.std.proofs.Common.{List, [], ◌∷◌, ◌++◌, lit<}
use Rattle.std.specs.Prelude.{◌||◌, if◌then◌else◌, bit_or}
use Rattle.std.specs.Int.Bits.{and_zero_r}
use Rattle.std.proofs.Math.Nat.{mod-lt}
use Rattle.std.proofs.lemmas.Bool.{agree_below, agree_below_at, eqb-true, and_parts}
use Rattle.std.proofs.lemmas.List.Sums.{fold-append}
use Rattle.ans_model.specs.Bytes.{IsByte}
use Rattle.ans_model.specs.Screen.Attribute.{attribute_after, attribute_after_all}
use Rattle.ans_redraw.specs.Colours.{foreground_of, is_bright, background_of, blinks, ansi_number, parameter_if}
use Rattle.ans_redraw.specs.Colours.{changes}
use Rattle.ans_redraw.specs.Colours.{only_adds, anew, numbers_to}

-- the attribute of a foreground, bright, a background and blink
abbrev pub made : ℕ → Bool → ℕ → Bool → ℕ
made f bright g blink = f + (if bright then 8 else 0) + 16 * g + (if blink then 128 else 0)

abbrev yes : ℕ → Bool
yes n = true

-- a byte is made of its parts
pub made_of_parts : (a : ℕ) → IsByte a → made (foreground_of a) (is_bright a) (background_of a) (blinks a) ≡ a
made_of_parts a h =
    eqb-true _ a
    (agree_below_at (λ a. made (foreground_of a) (is_bright a) (background_of a) (blinks a) == a) yes 256 a refl h)

-- a test of two colours holds
each_pair : (p : ℕ → ℕ → Bool) → agree_below (λ f. agree_below (p f) yes 8) yes 8 ≡ true → (f g : ℕ) → f < 8 → g < 8
    → p f g ≡ true
each_pair p h f g lt gt =
    agree_below_at (p f) yes 8 g (agree_below_at (λ f. agree_below (p f) yes 8) yes 8 f h lt) gt

-- the test, of each two colours
abbrev of_each_two : (ℕ → Bool → ℕ → Bool → Bool) → Bool → Bool → Bool
of_each_two p bright blink = agree_below (λ f. agree_below (λ g. p f bright g blink) yes 8) yes 8

-- the test, of all that an attribute is made of
abbrev of_each_made : (ℕ → Bool → ℕ → Bool → Bool) → Bool
of_each_made p =
    of_each_two p true true && (of_each_two p true false && (of_each_two p false true && of_each_two p false false))

-- it holds of each
each_made : (p : ℕ → Bool → ℕ → Bool → Bool) → of_each_made p ≡ true → (f g : ℕ) (bright blink : Bool) → f < 8
    → g < 8 → p f bright g blink ≡ true
each_made p h f g true true lt gt =
    each_pair (λ f g. p f true g true) (and_parts (of_each_two p true true) _ h).0 f g lt gt
each_made p h f g true false lt gt =
    let more = and_parts (of_each_two p true true) _ h in
    each_pair (λ f g. p f true g false) (and_parts (of_each_two p true false) _ more.1).0 f g lt gt
each_made p h f g false true lt gt =
    let more = and_parts (of_each_two p true true) _ h in
    let most = and_parts (of_each_two p true false) _ more.1 in
    each_pair (λ f g. p f false g true) (and_parts (of_each_two p false true) _ most.1).0 f g lt gt
each_made p h f g false false lt gt =
    let more = and_parts (of_each_two p true true) _ h in
    let most = and_parts (of_each_two p true false) _ more.1 in
    each_pair (λ f g. p f false g false) (and_parts (of_each_two p false true) _ most.1).1 f g lt gt

-- 1 makes it bright
one_is : (f g : ℕ) (bright blink : Bool) → f < 8 → g < 8
    → attribute_after (made f bright g blink) 1 ≡ made f true g blink
one_is f g bright blink lt gt =
    eqb-true _ _ (each_made (λ f bright g blink. attribute_after (made f bright g blink) 1 == made f true g blink) refl
    f g bright blink lt gt)

-- 5 makes it blink
five_is : (f g : ℕ) (bright blink : Bool) → f < 8 → g < 8
    → attribute_after (made f bright g blink) 5 ≡ made f bright g true
five_is f g bright blink lt gt =
    eqb-true _ _ (each_made (λ f bright g blink. attribute_after (made f bright g blink) 5 == made f bright g true) refl
    f g bright blink lt gt)

-- a colour's number behind 30 makes it the foreground
abbrev foreground_test : ℕ → ℕ → Bool → ℕ → Bool → Bool
foreground_test to f bright g blink =
    attribute_after (made f bright g blink) (30 + ansi_number to) == made to bright g blink

foreground_is : (to f g : ℕ) (bright blink : Bool) → to < 8 → f < 8 → g < 8
    → attribute_after (made f bright g blink) (30 + ansi_number to) ≡ made to bright g blink
foreground_is to f g bright blink ot lt gt =
    eqb-true _ _ (each_made (foreground_test to)
    (agree_below_at (λ to. of_each_made (foreground_test to)) yes 8 to refl ot) f g bright blink lt gt)

-- behind 40, the background
abbrev background_test : ℕ → ℕ → Bool → ℕ → Bool → Bool
background_test to f bright g blink =
    attribute_after (made f bright g blink) (40 + ansi_number to) == made f bright to blink

background_is : (to f g : ℕ) (bright blink : Bool) → to < 8 → f < 8 → g < 8
    → attribute_after (made f bright g blink) (40 + ansi_number to) ≡ made f bright to blink
background_is to f g bright blink ot lt gt =
    eqb-true _ _ (each_made (background_test to)
    (agree_below_at (λ to. of_each_made (background_test to)) yes 8 to refl ot) f g bright blink lt gt)

-- ---- all numbers, one after the other
bright_step : (f g : ℕ) (h bright blink : Bool) → f < 8 → g < 8
    → attribute_after_all (made f h g blink) (parameter_if (not h && bright) 1) ≡ made f (h || bright) g blink
bright_step f g true bright blink lt gt = refl
bright_step f g false true blink lt gt = one_is f g false blink lt gt
bright_step f g false false blink lt gt = refl

blink_step : (f g : ℕ) (bright h blink : Bool) → f < 8 → g < 8
    → attribute_after_all (made f bright g h) (parameter_if (not h && blink) 5) ≡ made f bright g (h || blink)
blink_step f g bright true blink lt gt = refl
blink_step f g bright false true lt gt = five_is f g bright false lt gt
blink_step f g bright false false lt gt = refl

foreground_step : (f g to : ℕ) (bright blink : Bool) → f < 8 → g < 8 → to < 8
    → attribute_after_all (made f bright g blink) (parameter_if (not (f == to)) (30 + ansi_number to))
    ≡ made to bright g blink
foreground_step f g to bright blink lt gt ot = by_test (f == to) refl
  where
    by_test : (b : Bool) → (f == to) ≡ b
        → attribute_after_all (made f bright g blink) (parameter_if (not b) (30 + ansi_number to))
        ≡ made to bright g blink
    by_test true e = ap (λ (n : ℕ). made n bright g blink) (eqb-true f to e)
    by_test false e = foreground_is to f g bright blink ot lt gt

background_step : (f g to : ℕ) (bright blink : Bool) → f < 8 → g < 8 → to < 8
    → attribute_after_all (made f bright g blink) (parameter_if (not (g == to)) (40 + ansi_number to))
    ≡ made f bright to blink
background_step f g to bright blink lt gt ot = by_test (g == to) refl
  where
    by_test : (b : Bool) → (g == to) ≡ b
        → attribute_after_all (made f bright g blink) (parameter_if (not b) (40 + ansi_number to))
        ≡ made f bright to blink
    by_test true e = ap (λ (n : ℕ). made f bright n blink) (eqb-true g to e)
    by_test false e = background_is to f g bright blink ot lt gt

pub foreground_lt : (a : ℕ) → foreground_of a < 8
foreground_lt a = mod-lt a (lit< tt)

pub background_lt : (a : ℕ) → background_of a < 8
background_lt a = mod-lt (a / 16) (lit< tt)

-- the four numbers of what changes, where each is there
module _ (from to : ℕ) where
  abbrev pub bright_number : List ℕ
  bright_number = parameter_if (not (is_bright from) && is_bright to) 1

  abbrev pub blink_number : List ℕ
  blink_number = parameter_if (not (blinks from) && blinks to) 5

  abbrev pub front_number : List ℕ
  front_number = parameter_if (not (foreground_of from == foreground_of to)) (30 + ansi_number (foreground_of to))

  abbrev pub back_number : List ℕ
  back_number = parameter_if (not (background_of from == background_of to)) (40 + ansi_number (background_of to))

-- what the numbers of what changes do
changes_make : (from to : ℕ) → IsByte from
    → attribute_after_all from (changes from to)
    ≡ made (foreground_of to) (is_bright from || is_bright to) (background_of to) (blinks from || blinks to)
changes_make from to h =
    let f = foreground_of from in
    let g = background_of from in
    let bright : List ℕ = bright_number from to in
    let blink : List ℕ = blink_number from to in
    let front : List ℕ = front_number from to in
    let back : List ℕ = back_number from to in
    ap (λ (a : ℕ). attribute_after_all a (bright ++ (blink ++ (front ++ back)))) (sym (made_of_parts from h))
    ∙ fold-append attribute_after (made f (is_bright from) g (blinks from)) bright (blink ++ (front ++ back))
    ∙ ap (λ (a : ℕ). attribute_after_all a (blink ++ (front ++ back)))
    (bright_step f g (is_bright from) (is_bright to) (blinks from) (foreground_lt from) (background_lt from))
    ∙ fold-append attribute_after (made f (is_bright from || is_bright to) g (blinks from)) blink (front ++ back)
    ∙ ap (λ (a : ℕ). attribute_after_all a (front ++ back))
    (blink_step f g (is_bright from || is_bright to) (blinks from) (blinks to) (foreground_lt from)
    (background_lt from))
    ∙ fold-append attribute_after (made f (is_bright from || is_bright to) g (blinks from || blinks to)) front back
    ∙ ap (λ (a : ℕ). attribute_after_all a back)
    (foreground_step f g (foreground_of to) (is_bright from || is_bright to) (blinks from || blinks to)
    (foreground_lt from) (background_lt from) (foreground_lt to))
    ∙ background_step (foreground_of to) g (background_of to) (is_bright from || is_bright to)
    (blinks from || blinks to)
    (foreground_lt to) (background_lt from) (background_lt to)

-- where it does not go, it is what it becomes
or_stays : (a b : Bool) → (not a || b) ≡ true → (a || b) ≡ b
or_stays true b h = sym h
or_stays false b h = refl

changes_lead : (from to : ℕ) → IsByte from → IsByte to → only_adds from to ≡ true
    → attribute_after_all from (changes from to) ≡ to
changes_lead from to h g s =
    let both : ((not (is_bright from) || is_bright to) ≡ true) × ((not (blinks from) || blinks to) ≡ true) =
    and_parts (not (is_bright from) || is_bright to) (not (blinks from) || blinks to) s in
    changes_make from to h
    ∙ ap₂ (λ (bright blink : Bool). made (foreground_of to) bright (background_of to) blink)
    (or_stays (is_bright from) (is_bright to) both.0) (or_stays (blinks from) (blinks to) both.1)
    ∙ made_of_parts to g

-- after a 0 the numbers of all parts
anew_leads : (from to : ℕ) → IsByte to → attribute_after_all from (anew to) ≡ to
anew_leads from to h =
    let f = foreground_of to in
    let g = background_of to in
    let bright : List ℕ = parameter_if (is_bright to) 1 in
    let blink : List ℕ = parameter_if (blinks to) 5 in
    let front : ℕ = 30 + ansi_number f in
    let back : ℕ = 40 + ansi_number g in
    let rest : List ℕ = front ∷ back ∷ [] in
    ap (λ (a : ℕ). attribute_after_all a (bright ++ (blink ++ rest)))
    (ap (λ (v : ℕ). bit_or v 0x07) (and_zero_r from))
    ∙ fold-append attribute_after (made 7 false 0 false) bright (blink ++ rest)
    ∙ ap (λ (a : ℕ). attribute_after_all a (blink ++ rest))
    (bright_step 7 0 false (is_bright to) false (lit< tt) (lit< tt))
    ∙ fold-append attribute_after (made 7 (is_bright to) 0 false) blink rest
    ∙ ap (λ (a : ℕ). attribute_after_all a rest)
    (blink_step 7 0 (is_bright to) false (blinks to) (lit< tt) (lit< tt))
    ∙ ap (λ (a : ℕ). attribute_after a back)
    (foreground_is f 7 0 (is_bright to) (blinks to) (foreground_lt to) (lit< tt) (lit< tt))
    ∙ background_is g f 0 (is_bright to) (blinks to) (background_lt to) (foreground_lt to) (lit< tt)
    ∙ made_of_parts to h

-- the numbers lead from each attribute to each
pub numbers_lead : (from to : ℕ) → IsByte from → IsByte to → attribute_after_all from (numbers_to from to) ≡ to
numbers_lead from to h g = by_test (only_adds from to) refl
  where
    by_test : (a : Bool) → only_adds from to ≡ a
        → attribute_after_all from (if a then changes from to else anew to) ≡ to
    by_test true e = changes_lead from to h g e
    by_test false e = anew_leads from to g

-- there is a number, where the attributes are two
pub some_number : (from to : ℕ) → IsByte from → IsByte to → (from ≡ to → ⊥) → numbers_to from to ≡ [] → ⊥
some_number from to h g apart none =
    apart (sym (ap (λ (ns : List ℕ). attribute_after_all from ns) none) ∙ numbers_lead from to h g)
