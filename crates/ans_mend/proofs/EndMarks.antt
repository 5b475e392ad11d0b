-- A file behind whose content an end mark was put has one there.
use Rattle.std.proofs.Common.{◌≡◌, inl, inr, ℕ, suc, ◌+◌, ◌-◌, ◌≤◌, ◌<◌, ◌==◌, Bool, true, false, List, ◌∷◌}
use Rattle.std.proofs.Common.{◌++◌, length, take, drop, refl, sym, ap, ◌∙◌, arith, codes, true≢false}
use Rattle.std.specs.Prelude.{if◌then◌else◌, not, ◌&&◌, ◌||◌, slice_index, nat_le, bytes_eq}
use Rattle.std.specs.List.{list_any}
use Rattle.std.proofs.lemmas.Bool.{cases_lt, leb-true}
use Rattle.std.proofs.lemmas.List.{length-append, length-take-le, drop-drop}
use Rattle.std.proofs.lemmas.List.Folds.{list_any-append}
use Rattle.std.proofs.lemmas.List.{take-append-drop, nil_from_length}
use Rattle.std.proofs.Math.Seq.{take-append-add, take-append_seam, drop-append-add}
use Rattle.ans_model.specs.Bytes.{end_mark}
use Rattle.ans_model.specs.File.Layout.{FileParts, Laid, comment_block, is_end_mark}
use Rattle.ans_model.specs.File.Record.{comment_count}
use Rattle.ans_model.specs.File.Refusals.{block_size, has_record}
use Rattle.ans_sauce.specs.Found.{body_in, front_in, record_in}
use Rattle.ans_sauce.proofs.LaidParts.{laid_body, laid_record, laid_has_record, laid_lengths}
use Rattle.ans_mend.specs.Drafts.{with_byte}
use Rattle.ans_mend.specs.EndMark.{lacks_end_mark, with_end_mark}

-- a byte that is put in before them leaves the last ones as they are
last_stay : (file : List ℕ) (place byte start : ℕ) → place ≤ start → start ≤ length file
    → drop (start + 1) (with_byte place byte file) ≡ drop start file
last_stay file place byte start before within =
    let front : List ℕ = take place file in
    let long : length front ≡ place = length-take-le place file (omega (arith, before, within)) in
    let sum : start + 1 ≡ length front + suc (start - place) = omega (arith, before, long) in
    ap (λ (v : ℕ). drop v (with_byte place byte file)) sum
    ∙ drop-append-add front (byte ∷ drop place file) (suc (start - place))
    ∙ drop-drop (start - place) place file ∙ ap (λ (v : ℕ). drop v file) (omega (arith, before))

pub byte_more : (file : List ℕ) (place byte : ℕ) → length (with_byte place byte file) ≡ length file + 1
byte_more file place byte =
    let cut : length (take place file) + length (drop place file) ≡ length file =
    sym (length-append (take place file) (drop place file)) ∙ ap length (take-append-drop place file) in
    let all : length (with_byte place byte file) ≡ length (take place file) + suc (length (drop place file)) =
    length-append (take place file) (byte ∷ drop place file) in
    omega (arith, cut, all)

or_true : (b : Bool) → (b || true) ≡ true
or_true true = refl
or_true false = refl

-- the front of a file that reaches behind the byte has it
reaches : (file : List ℕ) (place count : ℕ) → place ≤ length file → place < count
    → list_any is_end_mark (take count (with_byte place end_mark file)) ≡ true
reaches file place count within behind =
    let front : List ℕ = take place file in
    let long : length front ≡ place = length-take-le place file within in
    let sum : count ≡ length front + suc (count - place - 1) = omega (arith, behind, long) in
    let cut : take count (with_byte place end_mark file) ≡
    front ++ end_mark ∷ take (count - place - 1) (drop place file) =
    ap (λ (v : ℕ). take v (with_byte place end_mark file)) sum
    ∙ take-append-add front (end_mark ∷ drop place file) (suc (count - place - 1)) in
    ap (list_any is_end_mark) cut
    ∙ list_any-append is_end_mark front (end_mark ∷ take (count - place - 1) (drop place file))
    ∙ or_true (list_any is_end_mark front)

module _ (file : List ℕ) (long : 128 ≤ length file) where
  abbrev place : ℕ
  place = length (body_in file)

  abbrev marked : List ℕ
  marked = with_byte place end_mark file

  abbrev start : ℕ
  start = length file - 128

  front_length : length (front_in file) ≡ start
  front_length = length-take-le start file (omega arith)

  place_is : place ≡ start - block_size (comment_count (record_in file))
  place_is =
      length-take-le (length (front_in file) - block_size (comment_count (record_in file))) (front_in file)
      (omega arith) ∙ ap (λ (v : ℕ). v - block_size (comment_count (record_in file))) front_length

  same_record : record_in marked ≡ record_in file
  same_record =
      let more = byte_more file place end_mark in
      let le : length marked - 128 ≡ start + 1 = omega (arith, more, long) in
      ap (λ (v : ℕ). drop v marked) le ∙ last_stay file place end_mark start (omega (arith, place_is)) (omega arith)

  -- the body of the marked file reaches behind the mark
  marked_body : (parts : FileParts) → Laid marked parts → list_any is_end_mark parts.body ≡ true
  marked_body parts laid =
      let more = byte_more file place end_mark in
      let lengths = laid_lengths marked parts laid in
      let front : length (front_in marked) ≡ start + 1 =
      length-take-le (length marked - 128) marked (omega arith) ∙ omega (arith, more, long) in
      let block : block_size (comment_count parts.record_bytes) ≡ block_size (comment_count (record_in file)) =
      ap (λ (v : List ℕ). block_size (comment_count v)) (sym (laid_record marked parts laid) ∙ same_record) in
      let whole : parts.body ≡ take (length parts.body) marked =
      sym (ap (take (length parts.body)) laid.whole ∙ take-append_seam parts.body (comment_block (comment_count
      parts.record_bytes) parts.comment_bytes ++ parts.record_bytes)) in
      elim (cases_lt place (length parts.body)) [
        | inl reached ↦
            ap (list_any is_end_mark) whole
            ∙ reaches file place (length parts.body) (omega (arith, place_is)) reached
        | inr short ↦
            let none : length parts.body ≡ 0 =
            omega (arith, short, place_is, lengths, front, block) in
            let at_once : place ≡ 0 = omega (arith, short, place_is, lengths, front, block, none) in
            absurd (begins_otherwise parts laid none at_once (sym front ∙ lengths))
      ]
    where
      begins_otherwise : (parts : FileParts) → Laid marked parts → length parts.body ≡ 0 → place ≡ 0
          → start + 1 ≡ length parts.body + block_size (comment_count parts.record_bytes) → ⊥
      begins_otherwise parts laid none at_once sizes = go (comment_count parts.record_bytes == 0) refl
        where
          block : List ℕ
          block = comment_block (comment_count parts.record_bytes) parts.comment_bytes

          mark_first : slice_index marked 0 ≡ 0x1A
          mark_first = ap (λ (v : ℕ). slice_index (with_byte v end_mark file) 0) at_once

          block_first : slice_index marked 0 ≡ slice_index (block ++ parts.record_bytes) 0
          block_first =
              ap (λ (v : List ℕ). slice_index v 0) laid.whole
              ∙ ap (λ (v : List ℕ). slice_index (v ++ (block ++ parts.record_bytes)) 0)
              (nil_from_length parts.body none)

          go : (uncounted : Bool) → (comment_count parts.record_bytes == 0) ≡ uncounted → ⊥
          go true is =
              let no_block : block_size (comment_count parts.record_bytes) ≡ 0 = rw is refl in
              omega (arith, sizes, none, no_block)
          go false is =
              let is_block : block ≡ codes "COMNT" ++ parts.comment_bytes = rw is refl in
              let c_first : slice_index (block ++ parts.record_bytes) 0 ≡ 0x43 =
              ap (λ (v : List ℕ). slice_index (v ++ parts.record_bytes) 0) is_block in
              let same : 0x43 ≡ 0x1A = sym c_first ∙ sym block_first ∙ mark_first in
              omega (arith, same)

-- a file that is laid out so has an end mark in its body, once one was put behind its content
pub ended : (file : List ℕ) (parts : FileParts) → Laid (with_end_mark file) parts
    → list_any is_end_mark parts.body ≡ true
ended file parts laid = go (lacks_end_mark file) refl laid
  where
    has : (recorded marks : Bool) → (recorded && not marks) ≡ false → recorded ≡ true → marks ≡ true
    has true true is on = refl
    has true false is on = absurd (true≢false is)
    has false marks is on = absurd (true≢false (sym on))

    first : (a b c : Bool) → ((a && b) && c) ≡ true → a ≡ true
    first true b c is = refl
    first false b c is = absurd (true≢false (sym is))

    go : (lacks : Bool) → lacks_end_mark file ≡ lacks
        → Laid (if lacks then with_byte (length (body_in file)) end_mark file else file) parts
        → list_any is_end_mark parts.body ≡ true
    go false is laid =
        ap (list_any is_end_mark) (sym (laid_body file parts laid))
        ∙ has (has_record file) (list_any is_end_mark (body_in file)) is (laid_has_record file parts laid)
    go true is laid =
        let long : 128 ≤ length file = leb-true 128 (length file)
        (first (nat_le 128 (length file)) (bytes_eq (take 5 (record_in file)) (codes "SAUCE"))
        (not (list_any is_end_mark (body_in file))) is) in
        marked_body file long parts laid
