-- The blocks of comments that are found, number by number.
use Rattle.std.proofs.Common.{◌≡◌, ℕ, suc, ◌+◌, ◌-◌, ◌<◌, ◌==◌, Bool, List, [], ◌∷◌, ◌++◌, arith, refl, ap}
use Rattle.std.proofs.Common.{sym, ◌∙◌, true, false}
use Rattle.std.proofs.lemmas.Bool.{eqb-true}
use Rattle.std.specs.Prelude.{if◌then◌else◌}
use Rattle.ans_mend.specs.Recounted.{blocks, blocks_from, comments_for, is_block}

-- the number that was found, if one was
abbrev pub held : ℕ → List ℕ
held only = if only == 0 then [] else only ∷ []

pub no_zero : (n : ℕ) → ¬ (n ≡ 0) → (n == 0) ≡ false
no_zero n other = go (n == 0) refl
  where
    go : (b : Bool) → (n == 0) ≡ b → b ≡ false
    go true is = absurd (other (eqb-true n 0 is))
    go false is = refl

-- before any is tried
pub none_tried : (front : List ℕ) → blocks_from front 1 255 ≡ blocks front
unfolding blocks
none_tried front = refl

-- the next number is tried
pub next_tried : (front : List ℕ) (index : ℕ) → index < 255
    → blocks_from front (index + 1) (255 - index)
    ≡ (if is_block front (index + 1) then (index + 1) ∷ [] else []) ++ blocks_from front (index + 1 + 1) (255 -
    (index + 1))
next_tried front index more =
    ap (blocks_from front (index + 1)) (let e : 255 - index ≡ suc (255 - (index + 1)) = omega (arith, more) in e)

pub none_here : (front : List ℕ) (index count only : ℕ) → index < 255 → is_block front (index + 1) ≡ false
    → comments_for count (held only ++ blocks_from front (index + 1) (255 - index))
    ≡ comments_for count (held only ++ blocks_from front (index + 1 + 1) (255 - (index + 1)))
none_here front index count only more none =
    ap (λ (v : List ℕ). comments_for count (held only ++ v))
    (next_tried front index more
    ∙ ap (λ (b : Bool). (if b then (index + 1) ∷ [] else [])
    ++ blocks_from front (index + 1 + 1) (255 - (index + 1))) none)

pub first_here : (front : List ℕ) (index count only : ℕ) → index < 255 → is_block front (index + 1) ≡ true
    → (only == 0) ≡ true
    → comments_for count (held only ++ blocks_from front (index + 1) (255 - index))
    ≡ comments_for count (held (index + 1) ++ blocks_from front (index + 1 + 1) (255 - (index + 1)))
first_here front index count only more there none =
    let found : (index + 1 == 0) ≡ false = no_zero (index + 1) (λ same. omega (arith, same)) in
    ap (λ (v : List ℕ). comments_for count (held only ++ v))
    (next_tried front index more
    ∙ ap (λ (b : Bool). (if b then (index + 1) ∷ [] else [])
    ++ blocks_from front (index + 1 + 1) (255 - (index + 1))) there)
    ∙ ap (λ (b : Bool). comments_for count ((if b then [] else only ∷ [])
    ++ ((index + 1) ∷ blocks_from front (index + 1 + 1) (255 - (index + 1))))) none
    ∙ sym (ap (λ (b : Bool). comments_for count ((if b then [] else (index + 1) ∷ [])
    ++ blocks_from front (index + 1 + 1) (255 - (index + 1)))) found)

pub second_here : (front : List ℕ) (index count only : ℕ) → index < 255 → is_block front (index + 1) ≡ true
    → (only == 0) ≡ false
    → comments_for count (held only ++ blocks_from front (index + 1) (255 - index)) ≡ count
second_here front index count only more there found =
    ap (λ (v : List ℕ). comments_for count (held only ++ v))
    (next_tried front index more
    ∙ ap (λ (b : Bool). (if b then (index + 1) ∷ [] else [])
    ++ blocks_from front (index + 1 + 1) (255 - (index + 1))) there)
    ∙ ap (λ (b : Bool). comments_for count ((if b then [] else only ∷ [])
    ++ ((index + 1) ∷ blocks_from front (index + 1 + 1) (255 - (index + 1))))) found

-- all are tried
pub all_tried : (front : List ℕ) (index count only : ℕ) → index ≡ 255
    → comments_for count (held only ++ blocks_from front (index + 1) (255 - index)) ≡ only
all_tried front index count only end =
    ap (λ (n : ℕ). comments_for count (held only ++ blocks_from front (n + 1) (255 - n))) end ∙ go (only == 0) refl
  where
    go : (none : Bool) → (only == 0) ≡ none
        → comments_for count ((if none then [] else only ∷ []) ++ []) ≡ only
    go true is = sym (eqb-true only 0 is)
    go false is = refl
