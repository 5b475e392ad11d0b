-- What the changes of a file leave of its record.
use Rattle.std.proofs.Common.{◌≡◌, ◌⊎◌, inl, ℕ, ◌+◌, ◌-◌, ◌%◌, ◌≤◌, Bool, true, false, List, [], ◌∷◌, length, take}
use Rattle.std.proofs.Common.{refl, sym, ap, ◌∙◌, arith, subst, Option, Some, None}
use Rattle.std.specs.Prelude.{if◌then◌else◌, ◌&&◌, MatchBool}
use Rattle.ans_model.specs.File.Refusals.{block_size, has_record}
use Rattle.ans_sauce.specs.Found.{front_in, record_in}
use Rattle.ans_sauce.specs.Contents.{content_in, with_content}
use Rattle.ans_sauce.specs.Fields.{overwritten, two_bytes, with_non_blink, with_record}
use Rattle.ans_sauce.proofs.Overwriting.{overwritten_length}
use Rattle.ans_sauce.proofs.RecordLemmas.{body_before, record_behind, record_length, recorded_long}
use Rattle.ans_mend.specs.Mending.{iced, lined}
use Rattle.ans_mend.specs.TakingOut.{TakesOutOf, flagged}
use Rattle.ans_mend.specs.declared.taking_out.Told.{Told}
use Rattle.ans_model.specs.declared.mends.Mends.{Mends}
use Rattle.ans_model.specs.File.Layout.{content}
use Rattle.ans_model.specs.File.Record.{flags, number}
use Rattle.ans_check_laws.proofs.CutFiles.{record_stays}
use Rattle.ans_check_laws.proofs.FieldsStay.{bytes_at, bytes_stay}

-- where a file without a record stays as it is, one that has a record after a change had it before
pub same_had : (file new : List ℕ) → (has_record file ≡ false → new ≡ file) → has_record new ≡ true
    → has_record file ≡ true
same_had file new same has = go (has_record file) refl
  where
    go : (recorded : Bool) → has_record file ≡ recorded → has_record file ≡ true
    go true is = is
    go false is = ap has_record (sym (same is)) ∙ has

-- it is as long as one
pub its_size : (file : List ℕ) → has_record file ≡ true → length (record_in file) ≡ 128
its_size file has = record_length file (recorded_long file has)

set_size : (place : ℕ) (put r : List ℕ) → length r ≡ 128 → place + length put ≤ 128
    → length (overwritten place put r) ≡ 128
set_size place put r size within = overwritten_length place put r (omega (arith, size, within)) ∙ size

-- what is set in a record is its record
pub set_record : (place : ℕ) (put file : List ℕ) → length (record_in file) ≡ 128 → place + length put ≤ 128
    → record_in (with_record (overwritten place put (record_in file)) file) ≡ overwritten place put (record_in file)
set_record place put file size within =
    record_behind (front_in file) (overwritten place put (record_in file))
    (set_size place put (record_in file) size within)

-- and the content stays, if that is not the number of comments
pub set_content : (place : ℕ) (put file : List ℕ) → length (record_in file) ≡ 128 → place + length put ≤ 128
    → (105 ≤ place) ⊎ (place + length put ≤ 104)
    → content_in (with_record (overwritten place put (record_in file)) file) ≡ content_in file
set_content place put file size within apart =
    let comments : bytes_at 104 1 (overwritten place put (record_in file)) ≡ bytes_at 104 1 (record_in file) =
    bytes_stay place put (record_in file) (omega (arith, size, within)) 104 1 apart in
    ap content (body_before (front_in file) (overwritten place put (record_in file))
    (set_size place put (record_in file) size within)
    ∙ ap (λ (v : List ℕ). take (length (front_in file) - block_size (number v)) (front_in file)) comments)

-- the byte of its flags, with the non-blink flag set or cleared
abbrev pub flag_byte : Bool → List ℕ → List ℕ
flag_byte on r = (flags r - flags r % 2 + (if on then 1 else 0)) ∷ []

-- the flag is no part of the content
pub iced_content : (mends : Mends) (file : List ℕ) → content_in (iced mends file) ≡ content_in file
iced_content mends file = go mends.ice (has_record file) refl
  where
    go : (ice recorded : Bool) → has_record file ≡ recorded
        → content_in (if ice && recorded then with_record (with_non_blink true (record_in file)) file else file)
        ≡ content_in file
    go true true has =
        set_content 105 (flag_byte true (record_in file)) file (its_size file has) (omega arith) (inl (omega arith))
    go true false has = refl
    go false recorded has = refl

pub iced_same : (mends : Mends) (file : List ℕ) → has_record file ≡ false → iced mends file ≡ file
iced_same mends file none =
    ap (λ (b : Bool). if mends.ice && b then with_record (with_non_blink true (record_in file)) file else file) none
    ∙ go mends.ice
  where
    go : (ice : Bool) → (if ice && false then with_record (with_non_blink true (record_in file)) file else file) ≡ file
    go true = refl
    go false = refl

-- a content that is changed, where that is asked for and there is a record
module _ (asked : Bool) (file new : List ℕ) (D : List ℕ → Type 0) (N M : Type 0)
    (h : MatchBool asked (MatchBool (has_record file) ((left : List ℕ) × D left × (new ≡ with_content left file))
    ((new ≡ file) × N)) ((new ≡ file) × M)) where
  pub step_same : has_record file ≡ false → new ≡ file
  step_same none = go asked h
    where
      go : (on : Bool) → MatchBool on (MatchBool (has_record file) ((left : List ℕ) × D left × (new ≡ with_content left
          file)) ((new ≡ file) × N)) ((new ≡ file) × M) → new ≡ file
      go true t =
          (subst (λ (v : Bool). MatchBool v ((left : List ℕ) × D left × (new ≡ with_content left file))
          ((new ≡ file) × N)) none t).0
      go false t = t.0

  pub step_record : has_record file ≡ true → record_in new ≡ record_in file
  step_record has = go asked h
    where
      go : (on : Bool) → MatchBool on (MatchBool (has_record file) ((left : List ℕ) × D left × (new ≡ with_content left
          file)) ((new ≡ file) × N)) ((new ≡ file) × M) → record_in new ≡ record_in file
      go true t =
          let there : (left : List ℕ) × D left × (new ≡ with_content left file) =
          subst (λ (v : Bool). MatchBool v ((left : List ℕ) × D left × (new ≡ with_content left file))
          ((new ≡ file) × N)) has t in
          ap record_in there.2 ∙ record_stays file has there.0
      go false t = ap record_in t.0

-- a field that is apart from what is set
module _ (offset size : ℕ) where
  abbrev pub field_in : List ℕ → List ℕ
  field_in file = bytes_at offset size (record_in file)

  pub set_field : (place : ℕ) (put file : List ℕ) → length (record_in file) ≡ 128 → place + length put ≤ 128
      → (offset + size ≤ place) ⊎ (place + length put ≤ offset)
      → field_in (with_record (overwritten place put (record_in file)) file) ≡ field_in file
  set_field place put file long within apart =
      ap (bytes_at offset size) (set_record place put file long within)
      ∙ bytes_stay place put (record_in file) (omega (arith, long, within)) offset size apart

  pub lined_field : (lines : Option ℕ) (file : List ℕ) → has_record file ≡ true
      → (offset + size ≤ 98) ⊎ (100 ≤ offset) → field_in (lined lines file) ≡ field_in file
  lined_field None file has apart = refl
  lined_field (Some n) file has apart = set_field 98 (two_bytes n) file (its_size file has) (omega arith) apart

  -- where that is done by a test
  pub set_if : (test : Bool) (place : ℕ) (put file : List ℕ) → has_record file ≡ true → place + length put ≤ 128
      → (offset + size ≤ place) ⊎ (place + length put ≤ offset)
      → field_in (if test then with_record (overwritten place put (record_in file)) file else file) ≡ field_in file
  set_if true place put file has within apart = set_field place put file (its_size file has) within apart
  set_if false place put file has within apart = refl

  pub flagged_field : (on : Option Bool) (file : List ℕ) → length (record_in file) ≡ 128
      → (offset + size ≤ 105) ⊎ (106 ≤ offset) → field_in (flagged on file) ≡ field_in file
  flagged_field None file long apart = refl
  flagged_field (Some on) file long apart = set_field 105 (flag_byte on (record_in file)) file long (omega arith) apart

  -- sequences that are taken out
  module _ (asked : Bool) (file new : List ℕ) (told : Told) (N M : Type 0)
      (h : MatchBool asked (MatchBool (has_record file) (TakesOutOf file new told) ((new ≡ file) × N))
      ((new ≡ file) × M)) where
    pub taken_same : has_record file ≡ false → new ≡ file
    taken_same none = go asked h
      where
        go : (on : Bool) → MatchBool on (MatchBool (has_record file) (TakesOutOf file new told) ((new ≡ file) × N))
            ((new ≡ file) × M) → new ≡ file
        go true t =
            (subst (λ (v : Bool). MatchBool v (TakesOutOf file new told) ((new ≡ file) × N)) none t).0
        go false t = t.0

    pub taken_field : has_record file ≡ true → (offset + size ≤ 105) ⊎ (106 ≤ offset)
        → field_in new ≡ field_in file
    taken_field has apart = go asked h
      where
        go : (on : Bool) → MatchBool on (MatchBool (has_record file) (TakesOutOf file new told) ((new ≡ file) × N))
            ((new ≡ file) × M) → field_in new ≡ field_in file
        go true t =
            let out : TakesOutOf file new told =
            subst (λ (v : Bool). MatchBool v (TakesOutOf file new told) ((new ≡ file) × N)) has t in
            let same : record_in (with_content out.left file) ≡ record_in file = record_stays file has out.left in
            ap field_in out.new_is
            ∙ flagged_field told.bright_backgrounds (with_content out.left file)
            (ap length same ∙ its_size file has) apart
            ∙ ap (bytes_at offset size) same
        go false t = ap field_in t.0
