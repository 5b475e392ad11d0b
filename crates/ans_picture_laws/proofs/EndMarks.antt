-- The content, and the end marks behind it.
use Rattle.std.proofs.Common.{◌≡◌, ℕ, Bool, true, false, List, [], ◌∷◌, length, drop, refl, sym}
use Rattle.std.proofs.Common.{ap, ◌∙◌}
use Rattle.std.specs.Prelude.{if◌then◌else◌}
use Rattle.std.specs.List.{list_all, list_any}
use Rattle.ans_model.specs.Bytes.{end_mark}
use Rattle.ans_model.specs.File.Layout.{after_content, content, is_end_mark}
use Rattle.ans_redraw.specs.RedrawnFile.{marked_end}
use Rattle.ans_sauce.proofs.ContentLemmas.{after_marked, after_one, content_after}

-- what stands behind a content has an end mark where the body has one
after_marks : (body : List ℕ) → list_any is_end_mark (after_content body) ≡ list_any is_end_mark body
after_marks [] = refl
after_marks (b ∷ body) = go (is_end_mark b) refl (after_marks body)
  where
    go : (marked : Bool) → is_end_mark b ≡ marked
        → list_any is_end_mark (after_content body) ≡ list_any is_end_mark body
        → list_any is_end_mark (after_content (b ∷ body)) ≡ list_any is_end_mark (b ∷ body)
    go true is more = ap (list_any is_end_mark) (after_marked b body is)
    go false is more =
        let others : list_any is_end_mark (b ∷ body) ≡ list_any is_end_mark body = rw is refl in
        ap (list_any is_end_mark) (after_one b body is) ∙ more ∙ sym others

-- the end marks by whether the body has one
abbrev ends_by : Bool → List ℕ → List ℕ
ends_by marked body = if marked then after_content body else end_mark ∷ []

pub ends_begin : (body : List ℕ) → content (marked_end body) ≡ []
ends_begin body = go (list_any is_end_mark body)
  where
    go : (marked : Bool) → content (ends_by marked body) ≡ []
    go true = content_after body
    go false = refl

pub ends_have_one : (body : List ℕ) → list_any is_end_mark (marked_end body) ≡ true
ends_have_one body = go (list_any is_end_mark body) refl
  where
    go : (marked : Bool) → list_any is_end_mark body ≡ marked → list_any is_end_mark (ends_by marked body) ≡ true
    go true is = after_marks body ∙ is
    go false is = refl

pub ends_are_clean : (body : List ℕ) → list_all is_end_mark (after_content body) ≡ true
    → list_all is_end_mark (marked_end body) ≡ true
ends_are_clean body clean = go (list_any is_end_mark body)
  where
    go : (marked : Bool) → list_all is_end_mark (ends_by marked body) ≡ true
    go true = clean
    go false = refl

-- all of them stand behind their content, which is none
pub ends_follow : (body : List ℕ) → after_content (marked_end body) ≡ marked_end body
ends_follow body = ap (λ (v : List ℕ). drop (length v) (marked_end body)) (ends_begin body)

-- a body with an end mark keeps what stands behind its content
pub marked_ends : (body : List ℕ) → list_any is_end_mark body ≡ true → marked_end body ≡ after_content body
marked_ends body is = rw is refl
