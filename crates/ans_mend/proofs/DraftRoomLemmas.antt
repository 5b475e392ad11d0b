-- What is put into a draft fits in.
use Rattle.std.proofs.Common.{◌≡◌, ℕ, ◌+◌, ◌-◌, ◌*◌, ◌≤◌, Bool, true, false, List, ◌∷◌, length, take, drop, min}
use Rattle.std.proofs.Common.{◌∙◌, ap, ap₂, arith, Option, subst₂, sym}
use Rattle.std.specs.Prelude.{if◌then◌else◌}
use Rattle.std.proofs.lemmas.List.{length-append, length-take-le, take-append-drop}
use Rattle.ans_model.specs.Bytes.{end_mark, longest_file}
use Rattle.ans_model.specs.declared.mends.Mends.{Mends}
use Rattle.ans_sauce.specs.Found.{body_in, front_in, record_in}
use Rattle.ans_sauce.specs.Fields.{four_bytes, with_file_size, with_record}
use Rattle.ans_mend.specs.Drafts.{DraftView, draft_of, memory_of, with_byte}
use Rattle.ans_mend.specs.EndMark.{lacks_end_mark, with_end_mark}
use Rattle.ans_sauce.proofs.Overwriting.{recorded_length as same_length}
use Rattle.ans_mend.specs.Mending.{asked_for, lined, opened, recorded}
use Rattle.ans_mend.specs.MendingRoom.{most_added, most_names, most_put, most_returns}
use Rattle.ans_mend.specs.Tail.{IsTailCut}
use Rattle.ans_mend.proofs.MendRoomLemmas.{few_returns, recorded_length}
use Rattle.ans_mend.proofs.MendedLemmas.{lined_length, opened_front, opened_length}

mark_length : (file : List ℕ) → length (with_end_mark file) ≤ length file + 1
mark_length file = go (lacks_end_mark file)
  where
    place : ℕ
    place = length (body_in file)

    go : (lacks : Bool) → length (if lacks then with_byte place end_mark file else file) ≤ length file + 1
    go false = omega arith
    go true =
        let sum = length-append (take place file) (end_mark ∷ drop place file) in
        let all = length-append (take place file) (drop place file) in
        let whole = ap length (take-append-drop place file) in
        omega (arith, sum, all, whole)

pub sized_length : (size : ℕ) (file : List ℕ) → 128 ≤ length file
    → length (with_record (with_file_size size (record_in file)) file) ≡ length file
sized_length size file long = same_length 90 (four_bytes size) file long (omega arith)

-- ---- of a file with its record, on the lines that are stated first

module _ (asked : Mends) (file : List ℕ) (room : ℕ) (first : DraftView)
    (is : first ≡ draft_of (opened asked file) room) (fits : most_added asked file + 1 ≤ room) where
  same_added : most_added asked first.file ≡ most_added asked file
  same_added =
      ap (λ (d : DraftView). most_added asked d.file) is
      ∙ ap₂ (λ (front : List ℕ) (long : ℕ). most_returns asked front + most_names asked long (length front))
      (opened_front asked file) (opened_length asked file)

  pub added_fits : most_added asked first.file ≤ first.room
  added_fits =
      let same = same_added in
      let as_many = ap (λ (d : DraftView). d.room) is in
      omega (arith, fits, same, as_many)

  -- with the content changed, and the lines settled
  module _ (edited last : DraftView) (lines : Option ℕ) (memory : memory_of edited ≡ memory_of first)
      (longer : length edited.file ≤ length first.file + most_added asked first.file)
      (settled : last ≡ draft_of (lined lines edited.file) edited.room) where
    pub mark_fits : 1 ≤ last.room
    mark_fits =
        let added = added_fits in
        let same = same_added in
        let as_many = ap (λ (d : DraftView). d.room) is in
        let left = ap (λ (d : DraftView). d.room) settled in
        omega (arith, fits, same, as_many, left, memory, longer)

    pub not_longer : (marked : List ℕ) → 128 ≤ length edited.file → marked ≡ with_end_mark last.file
        → length marked ≤ length file + (most_added asked file + 1)
    not_longer marked long marked_is =
        let same = same_added in
        let as_long = opened_length asked file in
        let first_long = ap (λ (d : DraftView). length d.file) is in
        let lined_long = lined_length lines edited.file long in
        let last_long = ap (λ (d : DraftView). length d.file) settled in
        let mark_long = mark_length last.file in
        let marked_long = ap length marked_is in
        omega (arith, same, as_long, first_long, lined_long, last_long, mark_long, marked_long, longer)

-- ---- of the whole file

-- with names a file with a record is as long as they may make the whole one
names_within : (mends : Mends) (whole based front : ℕ) → based ≤ whole + 129 → front ≤ whole + 1
    → based + most_names mends based front ≤ whole + 129 + most_names mends whole (whole + 1)
names_within mends whole based front few short = go mends.name_colours
  where
    go : (asked : Bool) → based + (if asked then min (longest_file - based) (8 * front) else 0)
        ≤ whole + 129 + (if asked then min (longest_file - whole) (8 * (whole + 1)) else 0)
    go false = omega (arith, few)
    go true = omega (arith, few, short)

module _ (mends asked : Mends) (whole cut based : List ℕ) (is_cut : IsTailCut whole cut)
    (shorter : length cut ≤ length whole) (asked_is : asked ≡ asked_for mends cut)
    (based_is : based ≡ recorded mends cut)
  where
    all_fits : length based + (most_added asked based + 1) ≤ length whole + most_put mends whole
    all_fits =
        let given : List ℕ = recorded mends cut in
        let returns = few_returns mends whole cut is_cut in
        let long = recorded_length mends cut in
        let front : length (front_in given) ≡ length given - 128 =
        length-take-le (length given - 128) given (omega arith) in
        let names = names_within mends (length whole) (length given) (length (front_in given))
        (omega (arith, shorter, long)) (omega (arith, shorter, long, front)) in
        subst₂ (λ (m : Mends) (v : List ℕ). length v + (most_added m v + 1) ≤ length whole + most_put mends whole)
        (sym asked_is) (sym based_is) (omega (arith, shorter, returns, long, names))

    -- behind the record there is room for all that is put
    pub rest_fits : (whole_room based_room : ℕ) → length based + based_room ≡ length whole + whole_room
        → most_put mends whole ≤ whole_room → most_added asked based + 1 ≤ based_room
    rest_fits whole_room based_room memory fits = let all = all_fits in omega (arith, all, memory, fits)

    -- and it makes the file longer by no more than it may
    pub grows_so : (new : List ℕ) → length new ≤ length based + (most_added asked based + 1)
        → length new ≤ length whole + most_put mends whole
    grows_so new longer = let all = all_fits in omega (arith, all, longer)
