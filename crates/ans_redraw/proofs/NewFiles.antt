-- What stands behind the content of a file, and the file that is put in its place.
use Rattle.std.proofs.Common.{◌≡◌, ℕ, ◌+◌, ◌-◌, ◌^◌, ◌<◌, ◌≤◌, min, ◌==◌, Bool, true, false, List, []}
use Rattle.std.proofs.Common.{◌∷◌, ◌++◌, length, take, drop, refl, sym, ap, ap₂, ◌∙◌, arith, append_assoc, true≢false}
use Rattle.std.proofs.lemmas.List.{drop-append-le, drop-take, length-append}
use Rattle.std.proofs.Math.Seq.{drop-append_seam}
use Rattle.std.specs.Prelude.{Some, None, if◌then◌else◌, ◌||◌}
use Rattle.std.specs.List.{list_any, position_or_len}
use Rattle.ans_model.specs.Bytes.{end_mark, longest_file}
use Rattle.ans_model.specs.File.Layout.{FileParts, Laid, after_content, comment_block, content, is_end_mark}
use Rattle.ans_model.specs.File.Record.{comment_count, file_size}
use Rattle.ans_model.specs.Verdict.Good.{Picture}
use Rattle.ans_sauce.specs.Found.{body_in, front_in, record_in}
use Rattle.ans_sauce.proofs.ContentLemmas.{after_marked, after_one}
use Rattle.ans_sauce.proofs.LaidParts.{laid_body, laid_front, laid_has_record, laid_record}
use Rattle.ans_sauce.proofs.RecordLemmas.{content_within, front_shorter, record_length, recorded_long}
use Rattle.ans_sauce.proofs.ResizedFiles.{its_length}
use Rattle.ans_sauce.specs.Fields.{with_file_size}
use Rattle.ans_sauce.specs.Contents.{content_in}
use Rattle.ans_redraw.specs.Form.{form_bytes}
use Rattle.ans_redraw.specs.RedrawnFile.{block_in, marked_end, redrawn_file}

-- the end mark that is put before what stands behind a content
abbrev pub missing : List ℕ → List ℕ
missing behind = if list_any is_end_mark (take 1 behind) then [] else end_mark ∷ []

first_marked : (b : ℕ) (xs : List ℕ) → is_end_mark b ≡ true → list_any is_end_mark (b ∷ xs) ≡ true
first_marked b xs is = ap (λ (v : Bool). v || list_any is_end_mark xs) is

after_none : (body : List ℕ) → list_any is_end_mark body ≡ false → after_content body ≡ []
after_none [] none = refl
after_none (b ∷ body) none = go (is_end_mark b) refl (after_none body)
  where
    go : (marked : Bool) → is_end_mark b ≡ marked → (list_any is_end_mark body ≡ false → after_content body ≡ [])
        → after_content (b ∷ body) ≡ []
    go true is more = absurd (true≢false (rw is at none))
    go false is more = after_one b body is ∙ more (rw is at none)

-- the first byte behind a content is an end mark where the body has one, if that is no matter of what follows
first_behind : (body block : List ℕ) → list_any is_end_mark (take 1 block) ≡ false
    → list_any is_end_mark (take 1 (after_content body ++ block)) ≡ list_any is_end_mark body
first_behind [] block none = none
first_behind (b ∷ body) block none = go (is_end_mark b) refl (first_behind body block none)
  where
    go : (marked : Bool) → is_end_mark b ≡ marked
        → list_any is_end_mark (take 1 (after_content body ++ block)) ≡ list_any is_end_mark body
        → list_any is_end_mark (take 1 (after_content (b ∷ body) ++ block)) ≡ list_any is_end_mark (b ∷ body)
    go true is more =
        ap (λ (v : List ℕ). list_any is_end_mark (take 1 (v ++ block))) (after_marked b body is)
        ∙ first_marked b [] is ∙ sym (first_marked b body is)
    go false is more =
        let others : list_any is_end_mark (b ∷ body) ≡ list_any is_end_mark body = rw is refl in
        ap (λ (v : List ℕ). list_any is_end_mark (take 1 (v ++ block))) (after_one b body is) ∙ more ∙ sym others

-- no block of comments begins with an end mark
block_unmarked : (count : ℕ) (comment_bytes : List ℕ)
    → list_any is_end_mark (take 1 (comment_block count comment_bytes)) ≡ false
block_unmarked count comment_bytes = go (count == 0) refl
  where
    go : (none : Bool) → (count == 0) ≡ none
        → list_any is_end_mark (take 1 (comment_block count comment_bytes)) ≡ false
    go true is = rw is refl
    go false is = rw is refl

marked_behind : (body block : List ℕ) → list_any is_end_mark (take 1 block) ≡ false
    → missing (after_content body ++ block) ++ after_content body ≡ marked_end body
marked_behind body block none = go (list_any is_end_mark body) refl
  where
    first : list_any is_end_mark (take 1 (after_content body ++ block)) ≡ list_any is_end_mark body
    first = first_behind body block none

    go : (marked : Bool) → list_any is_end_mark body ≡ marked
        → missing (after_content body ++ block) ++ after_content body ≡ marked_end body
    go true is = rw (first, is) refl
    go false is = rw (first, is) (ap (λ (v : List ℕ). end_mark ∷ v) (after_none body is))

module _ (file : List ℕ) (apart : FileParts) (laid : Laid file apart) where
  abbrev block : List ℕ
  block = comment_block (comment_count apart.record_bytes) apart.comment_bytes

  abbrev behind : List ℕ
  behind = drop (length (content_in file)) (front_in file)

  pub its_body : body_in file ≡ apart.body
  its_body = laid_body file apart laid

  pub block_is : block_in file ≡ block
  block_is =
      ap₂ (λ (b f : List ℕ). drop (length b) f) its_body (laid_front file apart laid)
      ∙ drop-append_seam apart.body block

  long : 128 ≤ length file
  long = recorded_long file (laid_has_record file apart laid)

  -- it stands in the file from the content on
  pub behind_there : (count : ℕ) → count ≡ length (content_in file)
      → take (length file - 128 - count) (drop count file) ≡ behind
  behind_there count is =
      sym (drop-take count (length file - 128 - count) file)
      ∙ ap₂ (λ (n m : ℕ). drop n (take m file)) is (omega (arith, content_within file long, is))

  -- end marks, and the comments
  pub behind_is : behind ≡ after_content (body_in file) ++ block_in file
  behind_is =
      ap₂ (λ (b f : List ℕ). drop (length (content b)) f) its_body (laid_front file apart laid)
      ∙ drop-append-le (length (content apart.body)) apart.body block
      (front_shorter apart.body (position_or_len is_end_mark apart.body))
      ∙ ap₂ (λ (b c : List ℕ). after_content b ++ c) (sym its_body) (sym block_is)

  block_none : list_any is_end_mark (take 1 (block_in file)) ≡ false
  block_none =
      ap (λ (v : List ℕ). list_any is_end_mark (take 1 v)) block_is
      ∙ block_unmarked (comment_count apart.record_bytes) apart.comment_bytes

  -- the first of it is an end mark exactly where there is one
  pub first_is : list_any is_end_mark (take 1 behind) ≡ list_any is_end_mark (body_in file)
  first_is =
      ap (λ (v : List ℕ). list_any is_end_mark (take 1 v)) behind_is
      ∙ first_behind (body_in file) (block_in file) block_none

  -- all that is put behind the form
  pub whole_is : (picture : Picture) → redrawn_file file picture
      ≡ form_bytes picture
      ++ (missing behind ++ (behind ++ with_file_size (length (form_bytes picture)) (record_in file)))
  whole_is picture =
      let sauce : List ℕ = with_file_size (length (form_bytes picture)) (record_in file) in
      let marks : List ℕ = after_content (body_in file) in
      let marked : missing behind ++ marks ≡ marked_end (body_in file) =
      ap (λ (v : List ℕ). missing v ++ marks) behind_is ∙ marked_behind (body_in file) (block_in file) block_none in
      let parts : missing behind ++ (behind ++ sauce) ≡ marked_end (body_in file) ++ (block_in file ++ sauce) =
      ap (λ (v : List ℕ). missing behind ++ (v ++ sauce)) behind_is
      ∙ ap (λ (v : List ℕ). missing behind ++ v) (append_assoc marks (block_in file) sauce)
      ∙ sym (append_assoc (missing behind) marks (block_in file ++ sauce))
      ∙ ap (λ (v : List ℕ). v ++ (block_in file ++ sauce)) marked in
      ap (λ (v : List ℕ). form_bytes picture ++ v) (sym parts)

  -- and how many bytes it has in all
  pub whole_length : (picture : Picture) → length (redrawn_file file picture)
      ≡ length (form_bytes picture) + length (missing behind) + length behind + 128
  whole_length picture =
      let form : List ℕ = form_bytes picture in
      let sauce : List ℕ = with_file_size (length form) (record_in file) in
      let all = ap length (whole_is picture) ∙ length-append form (missing behind ++ (behind ++ sauce)) in
      let more = length-append (missing behind) (behind ++ sauce) in
      let last = length-append behind sauce in
      omega (arith, all, more, last, its_length (record_in file) (record_length file long) (length form))

  pub total : (picture : Picture) (form : ℕ) (mark b : List ℕ) → form ≡ length (form_bytes picture) → b ≡ behind
      → mark ≡ missing b → form + length mark + length b + 128 ≡ length (redrawn_file file picture)
  total picture form mark b form_is b_is mark_is =
      ap₂ (λ (n m : ℕ). n + m + length b + 128) form_is (ap length (mark_is ∙ ap missing b_is))
      ∙ ap (λ (n : ℕ). length (form_bytes picture) + length (missing behind) + n + 128) (ap length b_is)
      ∙ sym (whole_length picture)

  -- the mark is put where there is none
  pub mark_put : (n : ℕ) → (if length (missing behind) == 0 then None else Some n)
      ≡ (if list_any is_end_mark (body_in file) then None else Some n)
  mark_put n = go (list_any is_end_mark (body_in file)) refl
    where
      go : (marked : Bool) → list_any is_end_mark (body_in file) ≡ marked
          → (if length (missing behind) == 0 then None else Some n)
          ≡ (if list_any is_end_mark (body_in file) then None else Some n)
      go true is = rw (first_is, is) refl
      go false is = rw (first_is, is) refl

  pub size_was : (size : ℕ) (sauce : List ℕ) → size ≡ file_size sauce → sauce ≡ apart.record_bytes
      → size ≡ file_size (record_in file)
  size_was size sauce is its = is ∙ ap file_size (its ∙ sym (laid_record file apart laid))

  pub content_was : (bytes : List ℕ) → bytes ≡ content apart.body → length bytes ≡ length (content_in file)
  content_was bytes is = ap length (is ∙ sym (ap content its_body))

-- ---- lengths that saturate
-- a whole by what was counted of it, and what was not
pub record IsWholeOf (n form rest whole : ℕ) : Type 0 where
  pub form_is : form ≡ min n (2 ^ 64 - 1)
  pub whole_is : whole ≡ min (form + rest) (2 ^ 64 - 1)

-- it is what it would be, as far as there is a number for it
pub whole_counted : (n form rest whole all : ℕ) → IsWholeOf n form rest whole → n + rest ≡ all
    → whole ≡ min all (2 ^ 64 - 1)
whole_counted n form rest whole all h is = omega (arith, h.form_is, h.whole_is)

-- if it is short, it is exact
pub form_exact : (n form rest whole : ℕ) → IsWholeOf n form rest whole → whole ≤ longest_file → form ≡ n
form_exact n form rest whole h le = omega (arith, h.form_is, h.whole_is)

pub whole_exact : (n form rest whole all : ℕ) → IsWholeOf n form rest whole → n + rest ≡ all → whole ≤ longest_file
    → whole ≡ all
whole_exact n form rest whole all h is le = omega (arith, h.form_is, h.whole_is)

-- what is above the longest file is so in truth
pub long_counted : (whole all : ℕ) → whole ≡ min all (2 ^ 64 - 1) → longest_file < whole → longest_file < all
long_counted whole all is long = omega arith

pub short_exact : (whole all : ℕ) → whole ≡ all → whole ≤ longest_file → all ≤ longest_file
short_exact whole all is le = omega arith

-- the pieces after a form, together
pub pieces_behind : (n mark behind : ℕ) → n + (mark + behind + 128) ≡ n + mark + behind + 128
pieces_behind n mark behind = omega arith
