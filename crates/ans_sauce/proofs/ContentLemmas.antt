-- A content, and what stands behind it.
use Rattle.std.proofs.Common.{◌≡◌, ℕ, suc, ◌+◌, Bool, true, false, List, [], ◌∷◌, ◌++◌, length, take, drop, refl}
use Rattle.std.proofs.Common.{ap, ◌∙◌, arith, true≢false}
use Rattle.std.specs.List.{list_any, position_or_len}
use Rattle.ans_model.specs.File.Layout.{after_content, content, is_end_mark}

one_and : (n : ℕ) → 1 + n ≡ suc n
one_and n = omega arith

-- a byte that is no end mark is the content's
pub content_one : (b : ℕ) (body : List ℕ) → is_end_mark b ≡ false → content (b ∷ body) ≡ b ∷ content body
content_one b body is = rw is (ap (λ (v : ℕ). take v (b ∷ body)) (one_and (position_or_len is_end_mark body)))

pub content_marked : (b : ℕ) (body : List ℕ) → is_end_mark b ≡ true → content (b ∷ body) ≡ []
content_marked b body is = rw is refl

-- behind a byte that is none, the end marks are those behind it
pub after_one : (b : ℕ) (body : List ℕ) → is_end_mark b ≡ false → after_content (b ∷ body) ≡ after_content body
after_one b body is = ap (λ (v : List ℕ). drop (length v) (b ∷ body)) (content_one b body is)

-- from a byte that is one, they are all
pub after_marked : (b : ℕ) (body : List ℕ) → is_end_mark b ≡ true → after_content (b ∷ body) ≡ b ∷ body
after_marked b body is = rw is refl

pub content_unmarked : (body : List ℕ) → list_any is_end_mark (content body) ≡ false
content_unmarked [] = refl
content_unmarked (b ∷ body) = go (is_end_mark b) refl (content_unmarked body)
  where
    go : (marked : Bool) → is_end_mark b ≡ marked → list_any is_end_mark (content body) ≡ false
        → list_any is_end_mark (content (b ∷ body)) ≡ false
    go true is more = ap (list_any is_end_mark) (content_marked b body is)
    go false is more =
        let none : list_any is_end_mark (b ∷ content body) ≡ false = rw is more in
        ap (list_any is_end_mark) (content_one b body is) ∙ none

-- what stands behind a content begins with none
pub content_after : (body : List ℕ) → content (after_content body) ≡ []
content_after [] = refl
content_after (b ∷ body) = go (is_end_mark b) refl (content_after body)
  where
    go : (marked : Bool) → is_end_mark b ≡ marked → content (after_content body) ≡ []
        → content (after_content (b ∷ body)) ≡ []
    go true is more = ap content (after_marked b body is) ∙ content_marked b body is
    go false is more = ap content (after_one b body is) ∙ more

-- bytes without an end mark in front of a body
pub content_append : (front body : List ℕ) → list_any is_end_mark front ≡ false
    → content (front ++ body) ≡ front ++ content body
content_append [] body none = refl
content_append (b ∷ front) body none = go (is_end_mark b) refl (content_append front body)
  where
    go : (marked : Bool) → is_end_mark b ≡ marked
        → (list_any is_end_mark front ≡ false → content (front ++ body) ≡ front ++ content body)
        → content (b ∷ (front ++ body)) ≡ b ∷ (front ++ content body)
    go true is more = absurd (true≢false (rw is at none))
    go false is more =
        let behind : list_any is_end_mark front ≡ false = rw is at none in
        content_one b (front ++ body) is ∙ ap (λ (v : List ℕ). b ∷ v) (more behind)
