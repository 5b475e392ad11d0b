-- What a parameter does to each field, shown for each byte.
use Rattle.std.proofs.Common.{◌≡◌, inl, inr, ℕ, zero, suc, ◌+◌, ◌<◌, Bool, true, false, refl, sym, ap, ◌∙◌, subst}
use Rattle.std.proofs.Common.{List, [], ◌∷◌, Option, None, arith}
use Rattle.std.specs.Prelude.{IsFalse, ◌&&◌, ◌==◌}
use Rattle.std.specs.List.{list_all}
use Rattle.std.proofs.lemmas.Bool.{eqb-true, cases_eq, and_parts, ne_eqb}
use Rattle.ans_model.specs.Screen.Attribute.{Rendition, renditions, rendition_of, attribute_by, attribute_after}
use Rattle.ans_laws.specs.AttributeLaws.{foreground, bright, background, blink, HasFields, is_colour_parameter}

-- the test holds of each number below n
abbrev pub all_below : ℕ → (ℕ → Bool) → Bool
all_below zero p = true
all_below (suc n) p = p n && all_below n p

-- a test that holds below n holds at each number below n
holds_at_each : (n : ℕ) (p : ℕ → Bool) → all_below n p ≡ true → (k : ℕ) → k < n → p k ≡ true
holds_at_each zero p h k lt = absurd (omega arith)
holds_at_each (suc n) p h k lt = elim (cases_eq k n) [
  | inl e ↦ subst (λ (i : ℕ). p i ≡ true) (sym e) (and_parts (p n) (all_below n p) h).0
  | inr ne ↦ holds_at_each n p (and_parts (p n) (all_below n p) h).1 k (omega arith)
]

-- an attribute has these fields, as a test
abbrev pub has_fields : ℕ → ℕ → ℕ → ℕ → ℕ → Bool
has_fields new f b g l = foreground new == f && (bright new == b && (background new == g && blink new == l))

-- an attribute that passes the test has the fields
fields_of_test : (new f b g l : ℕ) → has_fields new f b g l ≡ true → HasFields new f b g l
fields_of_test new f b g l h =
    let one = and_parts (foreground new == f) (bright new == b && (background new == g && blink new == l)) h in
    let two = and_parts (bright new == b) (background new == g && blink new == l) one.1 in
    let three = and_parts (background new == g) (blink new == l) two.1 in
    record {
      foreground_is = eqb-true (foreground new) f one.0;
      bright_is = eqb-true (bright new) b two.0;
      background_is = eqb-true (background new) g three.0;
      blink_is = eqb-true (blink new) l three.1;
    }

-- a parameter sets the fields of each attribute, as a run of the test on all of them shows
pub sets : (p : ℕ) (f b g l : ℕ → ℕ)
    → all_below 256 (λ a. has_fields (attribute_after a p) (f a) (b a) (g a) (l a)) ≡ true
    → (a : ℕ) → a < 256 → HasFields (attribute_after a p) (f a) (b a) (g a) (l a)
sets p f b g l h a lt = fields_of_test (attribute_after a p) (f a) (b a) (g a) (l a)
    (holds_at_each 256 (λ a. has_fields (attribute_after a p) (f a) (b a) (g a) (l a)) h a lt)

-- so do eight parameters, each with its colour
pub sets_colour : (first : ℕ) (f b g l : ℕ → ℕ → ℕ)
    → all_below 8 (λ i. all_below 256 (λ a. has_fields (attribute_after a (first + i)) (f i a) (b i a) (g i a)
    (l i a))) ≡ true
    → (a i : ℕ) → a < 256 → i < 8 → HasFields (attribute_after a (first + i)) (f i a) (b i a) (g i a) (l i a)
sets_colour first f b g l h a i ha hi = sets (first + i) (f i) (b i) (g i) (l i)
    (holds_at_each 8 (λ i. all_below 256 (λ a. has_fields (attribute_after a (first + i)) (f i a) (b i a) (g i a)
    (l i a))) h i hi) a ha

-- the law names the parameter of this line
abbrev is_named : Rendition → Bool
is_named r = is_colour_parameter r.parameter

-- each line of the table has a name
lines_are_named : list_all is_named renditions ≡ true
lines_are_named = refl

-- a number without a name is in no line
in_no_line : (rs : List Rendition) (p : ℕ) → list_all is_named rs ≡ true → is_colour_parameter p ≡ false
    → rendition_of rs p ≡ None
in_no_line [] p named h = refl
in_no_line (r ∷ rs) p named h =
    let t : (is_named r ≡ true) × (list_all is_named rs ≡ true) = and_parts (is_named r) (list_all is_named rs) named in
    elim (cases_eq p r.parameter) [
      | inl e ↦ let both : true ≡ false = sym t.0 ∙ ap is_colour_parameter (sym e) ∙ h in absurd (cc)
      | inr ne ↦ rw (ne_eqb p r.parameter ne) (in_no_line rs p t.1 h)
    ]

pub others_change_nothing : (a p : ℕ) → IsFalse (is_colour_parameter p) → attribute_after a p ≡ a
others_change_nothing a p h = ap (λ (o : Option Rendition). attribute_by o a)
    (in_no_line renditions p lines_are_named h)
