-- Where colours have been named, no name is missing.
use Rattle.std.proofs.Common.{◌≡◌, ℕ, suc, ◌+◌, Bool, true, false, not, ◌&&◌, ◌||◌, List, [], ◌∷◌, ◌++◌, take, drop}
use Rattle.std.proofs.Common.{fold, refl, sym, ap, ap₂, ◌∙◌, arith}
use Rattle.std.specs.Prelude.{IsTrue, ◌==◌, if◌then◌else◌, ⊤}
use Rattle.std.specs.List.{list_any}
use Rattle.std.proofs.lemmas.Bool.{true≢false, false≢true}
use Rattle.std.proofs.lemmas.List.{take-append-drop}
use Rattle.std.proofs.lemmas.List.Folds.{list_any-append}
use Rattle.std.proofs.lemmas.List.Sums.{fold-append}
use Rattle.ans_model.specs.Sequence.TokenKind.{TokenKind, Colours}
use Rattle.ans_players.specs.Names.{Names, are_both, is_within, names_after, names_behind, paints, unnamed}
use Rattle.ans_players.specs.Situations.{Spelled}
use Rattle.ans_mend.specs.NamedColours.{after_zero, both_named, count_to_zero, is_zero, missing_numbers, named_content}
use Rattle.ans_mend.specs.NamedColours.{names_at_print, names_behind_token, takes_names, to_zero, way_of}
use Rattle.ans_mend.specs.NamedColours.{named_sequence, named_text, opening}
use Rattle.ans_mend.specs.NameSearch.{bytes_of}
use Rattle.ans_mend.specs.declared.naming.Way.{Way}
use Rattle.ans_mend.specs.declared.naming.Way.TheVariants.{Within, After, Between}
use Rattle.ans_names_laws.specs.NamedTokens.{colours_of, named_tokens, naming_numbers, naming_sequence}
use Rattle.ans_names_laws.specs.NamedTokens.{numbers_after_zero, colour_numbers, numbers_through_zero, parts_by}
use Rattle.ans_names_laws.proofs.NamedParts.{takes_if}

-- ---- more names

-- these names, and those
abbrev pub with : Names → Names → Names
with n more = record {
  foreground = more.foreground || n.foreground;
  background = more.background || n.background;
}

-- those that are not there
abbrev pub lacking : Names → Names
lacking n = record { foreground = not n.foreground; background = not n.background }

or_true : (b : Bool) → (b || true) ≡ true
or_true true = refl
or_true false = refl

behind_with : (n more : Names) (k : ℕ) → (k == 0) ≡ false
    → names_behind (with n more) k ≡ with (names_behind n k) more
behind_with n more k other = go (is_within 30 37 k) (is_within 40 47 k) refl refl
  where
    go : (f b : Bool) → is_within 30 37 k ≡ f → is_within 40 47 k ≡ b
        → names_behind (with n more) k ≡ with (names_behind n k) more
    go true b f_is b_is = rw (other, f_is, or_true more.foreground) refl
    go false true f_is b_is = rw (other, f_is, b_is, or_true more.background) refl
    go false false f_is b_is = rw (other, f_is, b_is) refl

pub none_first : (k : ℕ) (ks : List ℕ) → list_any is_zero (k ∷ ks) ≡ false
    → ((k == 0) ≡ false) × (list_any is_zero ks ≡ false)
none_first k ks h = go (k == 0) refl h
  where
    go : (b : Bool) → (k == 0) ≡ b → (b || list_any is_zero ks) ≡ false
        → ((k == 0) ≡ false) × (list_any is_zero ks ≡ false)
    go true is e = absurd (true≢false e)
    go false is e = (is, e)

pub fold_with : (n more : Names) (ks : List ℕ) → list_any is_zero ks ≡ false
    → fold names_behind (with n more) ks ≡ with (fold names_behind n ks) more
fold_with n more [] none = refl
fold_with n more (k ∷ ks) none =
    let parts = none_first k ks none in
    ap (λ (v : Names). fold names_behind v ks) (behind_with n more k parts.0)
    ∙ fold_with (names_behind n k) more ks parts.1

after_with : (n more : Names) (t : TokenKind) → takes_names t ≡ false
    → names_after (with n more) t ≡ with (names_after n t) more
after_with n more (Colours ps) keeps = fold_with n more ps keeps
after_with n more _ keeps = refl

all_with : (n : Names) → are_both (with n (lacking n)) ≡ true
all_with n = go n.foreground n.background
  where
    go : (f b : Bool) → ((not f || f) && (not b || b)) ≡ true
    go true true = refl
    go true false = refl
    go false true = refl
    go false false = refl

-- what is named besides is named where something is printed next, too
pub print_with : (n more : Names) (xs : List Spelled) → are_both (with (names_at_print n xs) more) ≡ true
    → are_both (names_at_print (with n more) xs) ≡ true
print_with n more [] h = refl
print_with n more (x ∷ xs) h =
    go (paints x.token) (takes_names x.token) refl refl (print_with (names_after n x.token) more xs) h
  where
    go : (p t : Bool) → paints x.token ≡ p → takes_names x.token ≡ t
        → (are_both (with (names_at_print (names_after n x.token) xs) more) ≡ true
        → are_both (names_at_print (with (names_after n x.token) more) xs) ≡ true)
        → are_both (with (names_at_print n (x ∷ xs)) more) ≡ true
        → are_both (names_at_print (with n more) (x ∷ xs)) ≡ true
    go true t p_is t_is next both = rw p_is (rw p_is at both)
    go false true p_is t_is next both = rw (p_is, t_is) refl
    go false false p_is t_is next both =
        rw (p_is, t_is)
        (ap (λ (v : Names). are_both (names_at_print v xs)) (after_with n more x.token t_is)
        ∙ next (rw (p_is, t_is) at both))

-- the numbers that name what is not named do so
pub naming_names : (m n : Names) → fold names_behind m (naming_numbers n) ≡ with m (lacking n)
naming_names m n = go n.foreground n.background
  where
    go : (f b : Bool) → fold names_behind m (naming_numbers (record { foreground = f; background = b }))
        ≡ with m (lacking (record { foreground = f; background = b }))
    go true true = refl
    go true false = refl
    go false true = refl
    go false false = refl

pub naming_keeps : (n : Names) → list_any is_zero (naming_numbers n) ≡ false
naming_keeps n = go n.foreground n.background
  where
    go : (f b : Bool) → list_any is_zero (naming_numbers (record { foreground = f; background = b })) ≡ false
    go true true = refl
    go true false = refl
    go false true = refl
    go false false = refl

-- ---- numbers up to the last 0

pub none_after : (ks : List ℕ) → list_any is_zero (drop (count_to_zero ks) ks) ≡ false
none_after [] = refl
none_after (k ∷ ks) = go (list_any is_zero (k ∷ ks)) refl (none_after ks)
  where
    go : (b : Bool) → list_any is_zero (k ∷ ks) ≡ b → list_any is_zero (drop (count_to_zero ks) ks) ≡ false
        → list_any is_zero (drop (count_to_zero (k ∷ ks)) (k ∷ ks)) ≡ false
    go true is none =
        let count : count_to_zero (k ∷ ks) ≡ suc (count_to_zero ks) =
        (let more : count_to_zero (k ∷ ks) ≡ count_to_zero ks + 1 = rw is refl in omega (arith, more)) in
        rw count none
    go false is none = rw is is

some_before : (ks : List ℕ) → list_any is_zero ks ≡ true → list_any is_zero (take (count_to_zero ks) ks) ≡ true
some_before ks any =
    let parts : list_any is_zero ks
    ≡ (list_any is_zero (take (count_to_zero ks) ks) || list_any is_zero (drop (count_to_zero ks) ks)) =
    ap (list_any is_zero) (sym (take-append-drop (count_to_zero ks) ks))
    ∙ list_any-append is_zero (take (count_to_zero ks) ks) (drop (count_to_zero ks) ks) in
    go (list_any is_zero (take (count_to_zero ks) ks)) refl (sym any ∙ parts)
  where
    go : (b : Bool) → list_any is_zero (take (count_to_zero ks) ks) ≡ b
        → true ≡ (b || list_any is_zero (drop (count_to_zero ks) ks))
        → list_any is_zero (take (count_to_zero ks) ks) ≡ true
    go true is e = is
    go false is e = absurd (false≢true (sym (none_after ks) ∙ sym e))

-- a sequence that takes the names away, by its numbers
pub record TakesNames (t : TokenKind) : Type 0 where
  pub is : t ≡ Colours (colour_numbers t)
  pub before : list_any is_zero (numbers_through_zero t) ≡ true
  pub after : list_any is_zero (numbers_after_zero t) ≡ false
  pub whole : colour_numbers t ≡ numbers_through_zero t ++ numbers_after_zero t

pub takes_by_numbers : (t : TokenKind) → takes_names t ≡ true → TakesNames t
takes_by_numbers (Colours ps) takes = record {
  is = refl;
  before = some_before ps takes;
  after = none_after ps;
  whole = sym (take-append-drop (count_to_zero ps) ps);
}
takes_by_numbers _ takes = absurd (false≢true takes)

-- ---- what is printed next

-- what is left of a sequence after its names
abbrev last_part : Spelled → Spelled
last_part x = colours_of (numbers_after_zero x.token) (opening ++ drop 1 (after_zero x))

any_left : (xs ys : List ℕ) → list_any is_zero xs ≡ true → list_any is_zero (xs ++ ys) ≡ true
any_left xs ys h = list_any-append is_zero xs ys ∙ ap (λ (v : Bool). v || list_any is_zero ys) h

-- where a sequence comes first that takes the names away
at_taking : (n : Names) (ks text : List ℕ) (xs : List Spelled) → list_any is_zero ks ≡ true
    → names_at_print n (colours_of ks text ∷ xs) ≡ both_named
at_taking n ks text xs any = rw any refl

at_keeping : (n : Names) (ks text : List ℕ) (xs : List Spelled) → list_any is_zero ks ≡ false
    → names_at_print n (colours_of ks text ∷ xs) ≡ names_at_print (fold names_behind n ks) xs
at_keeping n ks text xs none = rw none refl

at_taking_token : (n : Names) (x : Spelled) (xs : List Spelled) → TakesNames x.token → takes_names x.token ≡ true
    → names_at_print n (x ∷ xs) ≡ both_named
at_taking_token n x xs t takes =
    let quiet : paints x.token ≡ false = ap paints t.is in rw (quiet, takes) refl

at_parts : (n : Names) (w : Way) (names : Names) (x : Spelled) (xs : List Spelled) → TakesNames x.token
    → takes_names x.token ≡ true → names_at_print n (parts_by w names x ++ xs) ≡ both_named
at_parts n Within names x xs t takes =
    at_taking n (numbers_through_zero x.token ++ (naming_numbers names ++ numbers_after_zero x.token))
    (named_text (missing_numbers names) (to_zero x) (after_zero x)) xs
    (any_left (numbers_through_zero x.token) (naming_numbers names ++ numbers_after_zero x.token) t.before)
at_parts n After names x xs t takes = at_taking_token n x (naming_sequence names ∷ xs) t takes
at_parts n Between names x xs t takes =
    at_taking n (numbers_through_zero x.token) (to_zero x ++ 0x6D ∷ [])
    (naming_sequence names ∷ last_part x ∷ xs) t.before

-- the same is named there as without the names
pub print_same : (n : Names) (xs : List Spelled) → names_at_print n (named_tokens xs) ≡ names_at_print n xs
print_same n [] = refl
print_same n (x ∷ xs) =
    go (are_both (names_behind_token x xs)) refl (print_same (names_after n x.token) xs)
  where
    go : (b : Bool) → are_both (names_behind_token x xs) ≡ b
        → names_at_print (names_after n x.token) (named_tokens xs) ≡ names_at_print (names_after n x.token) xs
        → names_at_print n (named_tokens (x ∷ xs)) ≡ names_at_print n (x ∷ xs)
    go true is next = rw is (ap (λ (v : Names). if paints x.token then n
        else if takes_names x.token then both_named else v) next)
    go false is next =
        let takes = takes_if x xs is in
        let t = takes_by_numbers x.token takes in
        rw is (at_parts n _ (names_behind_token x xs) x (named_tokens xs) t takes)
        ∙ sym (at_taking_token n x xs t takes)

-- ---- no name is missing

abbrev pub NoneMissing : List Spelled → Type 0
NoneMissing [] = ⊤
NoneMissing (x ∷ xs) = IsTrue (are_both (names_behind_token x xs)) × NoneMissing xs

behind_keeping : (ks text : List ℕ) (xs : List Spelled) → list_any is_zero ks ≡ false
    → are_both (names_behind_token (colours_of ks text) xs) ≡ true
behind_keeping ks text xs none = rw none refl

behind_taking : (ks text : List ℕ) (xs : List Spelled) → list_any is_zero ks ≡ true
    → names_behind_token (colours_of ks text) xs ≡ names_at_print (fold names_behind unnamed ks) xs
behind_taking ks text xs any = rw any refl

module _ (x : Spelled) (names : Names) (t : TakesNames x.token) (takes : takes_names x.token ≡ true)
    (ys : List Spelled) (none : NoneMissing ys)
    (next : are_both (names_at_print (with (names_after unnamed x.token) (lacking names)) ys) ≡ true) where
  abbrev before : List ℕ
  before = numbers_through_zero x.token

  abbrev after : List ℕ
  after = numbers_after_zero x.token

  names_of_both : names_after unnamed x.token ≡ fold names_behind (fold names_behind unnamed before) after
  names_of_both =
      ap (names_after unnamed) t.is ∙ ap (fold names_behind unnamed) t.whole
      ∙ fold-append names_behind unnamed before after

  -- the names in between are there after the rest of the numbers
  with_names : fold names_behind (fold names_behind (fold names_behind unnamed before) (naming_numbers names)) after
      ≡ with (names_after unnamed x.token) (lacking names)
  with_names =
      ap (λ (v : Names). fold names_behind v after) (naming_names (fold names_behind unnamed before) names)
      ∙ fold_with (fold names_behind unnamed before) (lacking names) after t.after
      ∙ ap (λ (v : Names). with v (lacking names)) (sym names_of_both)

  -- so they are with the names among the numbers
  names_within : fold names_behind unnamed (before ++ (naming_numbers names ++ after))
      ≡ with (names_after unnamed x.token) (lacking names)
  names_within =
      fold-append names_behind unnamed before (naming_numbers names ++ after)
      ∙ fold-append names_behind (fold names_behind unnamed before) (naming_numbers names) after
      ∙ with_names

  parts_none_missing : (w : Way) → NoneMissing (parts_by w names x ++ ys)
  parts_none_missing Within = (
    ap are_both (behind_taking (before ++ (naming_numbers names ++ after))
        (named_text (missing_numbers names) (to_zero x) (after_zero x)) ys
        (any_left before (naming_numbers names ++ after) t.before)
        ∙ ap (λ (v : Names). names_at_print v ys) names_within) ∙ next,
    none,
  )
  parts_none_missing After = (
    (let behind : names_behind_token x (naming_sequence names ∷ ys)
        ≡ names_at_print (names_after unnamed x.token) (naming_sequence names ∷ ys) = rw takes refl in
        ap are_both (behind
        ∙ at_keeping (names_after unnamed x.token) (naming_numbers names) (naming_sequence names).text ys
        (naming_keeps names)
        ∙ ap (λ (v : Names). names_at_print v ys) (naming_names (names_after unnamed x.token) names)) ∙ next),
    (behind_keeping (naming_numbers names) (naming_sequence names).text ys (naming_keeps names), none),
  )
  parts_none_missing Between = (
    ap are_both (behind_taking before (to_zero x ++ 0x6D ∷ []) (naming_sequence names ∷ last_part x ∷ ys) t.before
        ∙ at_keeping (fold names_behind unnamed before) (naming_numbers names) (naming_sequence names).text
        (last_part x ∷ ys) (naming_keeps names)
        ∙ at_keeping (fold names_behind (fold names_behind unnamed before) (naming_numbers names)) after
        (last_part x).text ys t.after
        ∙ ap (λ (v : Names). names_at_print v ys) with_names) ∙ next,
    (
      behind_keeping (naming_numbers names) (naming_sequence names).text (last_part x ∷ ys) (naming_keeps names),
      (behind_keeping after (last_part x).text ys t.after, none),
    ),
  )

pub none_missing : (xs : List Spelled) → NoneMissing (named_tokens xs)
none_missing [] = tt
none_missing (x ∷ xs) = go (are_both (names_behind_token x xs)) refl (none_missing xs)
  where
    go : (b : Bool) → are_both (names_behind_token x xs) ≡ b → NoneMissing (named_tokens xs)
        → NoneMissing (named_tokens (x ∷ xs))
    go true is none = rw is (
      (let same : names_behind_token x (named_tokens xs) ≡ names_behind_token x xs =
          ap (λ (v : Names). if takes_names x.token then v else both_named)
          (print_same (names_after unnamed x.token) xs) in
          ap are_both same ∙ is),
      none,
    )
    go false is none =
        let takes = takes_if x xs is in
        let names : Names = names_behind_token x xs in
        let here : names_at_print (names_after unnamed x.token) xs ≡ names = rw takes refl in
        rw is (parts_none_missing x names (takes_by_numbers x.token takes) takes (named_tokens xs) none
        (ap are_both (print_same (with (names_after unnamed x.token) (lacking names)) xs)
        ∙ print_with (names_after unnamed x.token) (lacking names) xs
        (ap (λ (v : Names). are_both (with v (lacking names))) here ∙ all_with names))
        (way_of (missing_numbers names) (to_zero x) (after_zero x)))

-- so naming them again changes nothing
pub named_stays : (xs : List Spelled) → NoneMissing xs → named_content xs ≡ bytes_of xs
named_stays [] none = refl
named_stays (x ∷ xs) none =
    let here : named_sequence (names_behind_token x xs) x ≡ x.text = rw none.0 refl in
    ap₂ (λ (v w : List ℕ). v ++ w) here (named_stays xs none.1)
