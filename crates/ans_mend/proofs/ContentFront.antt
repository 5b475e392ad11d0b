-- The content of a file is its front.
use Rattle.std.proofs.Common.{◌≡◌, ℕ, ◌-◌, ◌≤◌, List, ◌++◌, length, take, drop, ap, sym, ◌∙◌, arith}
use Rattle.std.specs.List.{position_or_len}
use Rattle.std.proofs.lemmas.List.{drop-take, length-take-le, take-append-drop, take-take}
use Rattle.std.proofs.Math.Seq.{take-append_seam}
use Rattle.ans_model.specs.File.Layout.{is_end_mark}
use Rattle.ans_model.specs.File.Record.{comment_count}
use Rattle.ans_model.specs.File.Refusals.{block_size}
use Rattle.ans_sauce.specs.Found.{body_in, front_in, record_in}
use Rattle.ans_sauce.specs.Contents.{content_in, with_content}
use Rattle.ans_sauce.proofs.RecordLemmas.{front_shorter}

-- as many of the first bytes as a front has are that front
pub front_again : (xs : List ℕ) (n : ℕ) → take (length (take n xs)) xs ≡ take n xs
front_again xs n =
    ap (take (length (take n xs))) (sym (take-append-drop n xs)) ∙ take-append_seam (take n xs) (drop n xs)

-- a front of a front
front_of_front : (xs : List ℕ) (m n : ℕ) → take (length (take m (take n xs))) xs ≡ take m (take n xs)
front_of_front xs m n =
    let inner : List ℕ = take n xs in
    sym (take-take (length (take m inner)) (length inner) xs (front_shorter inner m))
    ∙ ap (take (length (take m inner))) (front_again xs n) ∙ front_again inner m

pub content_front : (file : List ℕ) → take (length (content_in file)) file ≡ content_in file
content_front file =
    let body : List ℕ = body_in file in
    let body_front : take (length body) file ≡ body =
    front_of_front file (length (front_in file) - block_size (comment_count (record_in file))) (length file - 128) in
    sym (take-take (length (content_in file)) (length body) file
    (front_shorter body (position_or_len is_end_mark body)))
    ∙ ap (take (length (content_in file))) body_front ∙ front_again body (position_or_len is_end_mark body)

pub same_content : (file : List ℕ) → with_content (content_in file) file ≡ file
same_content file =
    ap (λ (v : List ℕ). v ++ drop (length (content_in file)) file) (sym (content_front file))
    ∙ take-append-drop (length (content_in file)) file

-- what stands behind a count in the first bytes of a memory, behind what is left of those
pub left_behind_content : (memory : List ℕ) (used count : ℕ) → count ≤ used → used ≤ length memory
    → take (used - count) (drop count memory) ≡ drop count (take used memory)
left_behind_content memory used count order within =
    sym (drop-take count (used - count) memory) ∙ ap (λ (n : ℕ). drop count (take n memory)) (omega (arith, order))

-- ---- in a memory of which the first bytes are the file
module _ (memory : List ℕ) (used : ℕ) (file : List ℕ) (within : used ≤ length memory)
    (are : file ≡ take used memory) where
  pub content_few : length (content_in file) ≤ used
  content_few =
      let a = front_shorter (body_in file) (position_or_len is_end_mark (body_in file)) in
      let b = front_shorter (front_in file) (length (front_in file) - block_size (comment_count (record_in file))) in
      let d = front_shorter file (length file - 128) in
      let long : length file ≡ used = ap length are ∙ length-take-le used memory within in
      omega (arith, a, b, d, long)

  pub content_bytes : take (length (content_in file)) memory ≡ content_in file
  content_bytes =
      sym (take-take (length (content_in file)) used memory content_few)
      ∙ ap (take (length (content_in file))) (sym are) ∙ content_front file

  -- what is kept of the content, and what is behind it
  pub behind_kept : (once twice : List ℕ) (kept : ℕ)
      → drop (length (content_in file)) once ≡ drop (length (content_in file)) memory
      → twice ≡ take kept once ++ take (used - length (content_in file)) (drop (length (content_in file)) once)
      → twice ≡ with_content (take kept once) file
  behind_kept once twice kept behind moved =
      let count : ℕ = length (content_in file) in
      moved ∙ ap (λ (v : List ℕ). take kept once ++ take (used - count) v) behind
      ∙ ap (λ (v : List ℕ). take kept once ++ v)
      (left_behind_content memory used count content_few within ∙ ap (drop count) (sym are))
