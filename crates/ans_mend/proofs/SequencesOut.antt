-- Sequences that are taken out, one after the other.
use Rattle.std.proofs.Common.{◌≡◌, inl, inr, ℕ, ◌+◌, ◌-◌, ◌≤◌, ◌<◌, List, [], ◌∷◌, ◌++◌, length, take, drop, ap, ap₂}
use Rattle.std.proofs.Common.{sym, ◌∙◌, arith, append_assoc, Option, None, Some, refl, subst, subst₂, length-append}
use Rattle.std.proofs.Common.{slice_index_or, fold, Bool, true, false, codes, true≢false}
use Rattle.std.specs.Prelude.{IfSome, MatchBool, bytes_eq, nat_le, ◌&&◌}
use Rattle.std.proofs.lemmas.Bool.{cases_eq, leb-true}
use Rattle.std.proofs.lemmas.Grind.{get_or-set_at}
use Rattle.std.proofs.lemmas.List.{drop-drop, drop-take, get_or-set_other, length-drop, length-set, length-take-le}
use Rattle.std.proofs.lemmas.List.{take-take}
use Rattle.std.proofs.lemmas.List.Sums.{fold-append}
use Rattle.std.proofs.Math.Seq.{drop-append_seam, take-append_seam}
use Rattle.ans_forms.specs.Unwanted.{GoesFirst, IsNextGoing}
use Rattle.ans_forms.specs.declared.kinds.Before.{Before}
use Rattle.ans_forms.specs.declared.kinds.Going.{Going}
use Rattle.ans_forms.specs.declared.kinds.Unwanted.{Unwanted}
use Rattle.ans_forms.specs.declared.kinds.Unwanted.TheVariants as unwanted
use Rattle.ans_forms.specs.declared.kinds.TheConstants.Before as before
use Rattle.ans_mend.specs.TakingOut.{AreTakenOut, CountsWithin, Gone, TakesOut, TakesOutOf, flagged, gone_at, index_of}
use Rattle.ans_mend.specs.TakingOut.{counted_of, nothing_told, one_more, switched, told_of, told_with}
use Rattle.ans_mend.specs.declared.taking_out.TakenOut.{TakenOut}
use Rattle.ans_mend.specs.declared.taking_out.Told.{Told}
use Rattle.ans_model.specs.File.Refusals.{has_record}
use Rattle.ans_sauce.specs.Found.{record_in}
use Rattle.ans_sauce.specs.Contents.{content_in, with_content}
use Rattle.ans_sauce.proofs.RecordLemmas.{content_within}
use Rattle.ans_mend.proofs.ContentFront.{behind_kept, content_bytes}
use Rattle.ans_mend.proofs.RowEndsOut.{window}

-- ---- how many there are of a kind
index_within : (kind : Unwanted) → index_of kind < 9
index_within unwanted.BrightBackgrounds = omega arith
index_within unwanted.Switch = omega arith
index_within unwanted.Mode = omega arith
index_within unwanted.FontSelection = omega arith
index_within unwanted.Music = omega arith
index_within unwanted.TrueColour = omega arith
index_within unwanted.Report = omega arith
index_within unwanted.ReassignedKey = omega arith
index_within unwanted.Unfinished = omega arith

one_within : (taken : Option TakenOut) (g : Gone) (n : ℕ) → IfSome taken (λ t. t.times.count ≤ n)
    → (one_more taken g).times.count ≤ n + 1
one_within None g n h = omega arith
one_within (Some taken) g n h = omega (arith, h)

more_within : (taken : Option TakenOut) (n m : ℕ) → n ≤ m → IfSome taken (λ t. t.times.count ≤ n)
    → IfSome taken (λ t. t.times.count ≤ m)
more_within None n m le h = tt
more_within (Some taken) n m le h = omega (arith, le, h)

few_more : (told : Told) (g : Gone) (n : ℕ) → length told.kinds ≡ 9 → CountsWithin told n
    → CountsWithin (told_with told g) (n + 1)
few_more told g n nine h kind =
    let at : ℕ = index_of g.kind in
    let new : Option TakenOut = Some (one_more (slice_index_or told.kinds at None) g) in
    elim (cases_eq (index_of kind) at) [
      | inl same ↦
          subst (λ (o : Option TakenOut). IfSome o (λ t. t.times.count ≤ n + 1))
          (sym (get_or-set_at told.kinds at (index_of kind) new None same (rw nine (index_within g.kind))))
          (one_within (slice_index_or told.kinds at None) g n (h g.kind))
      | inr other ↦
          subst (λ (o : Option TakenOut). IfSome o (λ t. t.times.count ≤ n + 1))
          (sym (get_or-set_other told.kinds at (index_of kind) new None other))
          (more_within (slice_index_or told.kinds (index_of kind) None) n (n + 1) (omega arith) (h kind))
    ]

few_after : (told : Told) (n : ℕ) (gone : List Gone) → length told.kinds ≡ 9 → CountsWithin told n
    → CountsWithin (fold told_with told gone) (n + length gone)
few_after told n [] nine h = subst (CountsWithin told) (omega arith) h
few_after told n (g ∷ more) nine h =
    subst (CountsWithin (fold told_with (told_with told g) more)) (omega arith)
    (few_after (told_with told g) (n + 1) more (length-set told.kinds (index_of g.kind) _ ∙ nine)
    (few_more told g n nine h))

none_of : (kind : Unwanted) (n : ℕ) → IfSome (slice_index_or nothing_told.kinds (index_of kind) None) (λ t.
    t.times.count ≤ n)
none_of unwanted.BrightBackgrounds n = tt
none_of unwanted.Switch n = tt
none_of unwanted.Mode n = tt
none_of unwanted.FontSelection n = tt
none_of unwanted.Music n = tt
none_of unwanted.TrueColour n = tt
none_of unwanted.Report n = tt
none_of unwanted.ReassignedKey n = tt
none_of unwanted.Unfinished n = tt

-- no more than have gone
pub few_gone : (gone : List Gone) (most : ℕ) → length gone ≤ most → CountsWithin (counted_of gone) most
few_gone gone most le kind =
    more_within (slice_index_or (counted_of gone).kinds (index_of kind) None) (0 + length gone) most (omega (arith, le))
    (few_after nothing_told 0 gone refl (λ k. none_of k 0) kind)

-- ---- a turn of the loop
module _ (start memory : List ℕ) (count read : ℕ) (within : count ≤ length start) (order : read ≤ count)
    (same_length : length memory ≡ length start) (left : drop read memory ≡ drop read start) (old after : Before)
    (going : Going) (next : IsNextGoing old (take (count - read) (drop read memory)) going after) where
  abbrev bytes : List ℕ
  bytes = take (count - read) (drop read memory)

  abbrev place : ℕ
  place = read + going.place

  abbrev end : ℕ
  end = place + going.length

  bytes_are : bytes ≡ drop read (take count start)
  bytes_are = window memory start read count order within left

  bytes_long : length bytes ≡ count - read
  bytes_long =
      length-take-le (count - read) (drop read memory)
      (rw (length-drop read memory) (omega (arith, within, same_length)))

  pub end_within : end ≤ count
  end_within =
      let all : length bytes ≡ length next.kept + (length next.text + length next.rest) =
      ap length next.first.whole ∙ length-append next.kept (next.text ++ next.rest)
      ∙ ap (λ (n : ℕ). length next.kept + n) (length-append next.text next.rest) in
      let at = next.place_is in
      let long = next.length_is in
      omega (arith, all, at, long, bytes_long, order)

  pub kept_there : take (place - read) (drop read memory) ≡ next.kept
  kept_there =
      ap (λ (n : ℕ). take n (drop read memory)) (omega arith)
      ∙ sym (take-take going.place (count - read) (drop read memory) (let e = end_within in omega (arith, e)))
      ∙ ap₂ take next.place_is next.first.whole ∙ take-append_seam next.kept (next.text ++ next.rest)

  text_rest : drop going.place bytes ≡ next.text ++ next.rest
  text_rest = ap₂ drop next.place_is next.first.whole ∙ drop-append_seam next.kept (next.text ++ next.rest)

  pub text_there : take (end - place) (drop place memory) ≡ next.text
  text_there =
      let e = end_within in
      let more : ℕ = count - read - going.place in
      ap (λ (n : ℕ). take n (drop place memory)) (omega arith)
      ∙ sym (take-take going.length more (drop place memory) (omega (arith, e)))
      ∙ ap (λ (v : List ℕ). take going.length (take more v)) (sym (drop-drop going.place read memory))
      ∙ ap (take going.length) (sym (drop-take going.place more (drop read memory))
      ∙ ap (λ (n : ℕ). drop going.place (take n (drop read memory))) (omega (arith, e)) ∙ text_rest)
      ∙ ap (λ (n : ℕ). take n (next.text ++ next.rest)) next.length_is ∙ take-append_seam next.text next.rest

  pub rest_there : next.rest ≡ drop end (take count start)
  rest_there =
      sym (drop-append_seam next.text next.rest) ∙ ap (λ (n : ℕ). drop n (next.text ++ next.rest)) (sym next.length_is)
      ∙ ap (drop going.length) (sym text_rest ∙ ap (drop going.place) bytes_are
      ∙ drop-drop going.place read (take count start))
      ∙ drop-drop going.length place (take count start)

  -- what goes behind it, goes behind all before it
  pub goes_on : (now : Before) → now ≡ switched after going.kind next.text
      → (gone : List Gone) (total : List ℕ) (before_all : Before) (kept new : List ℕ) → new ≡ kept ++ next.kept
      → ((more : List Gone) (left : List ℕ) (last : Before)
      → TakesOut old read more (drop read (take count start)) left last
      → TakesOut before_all 0 (gone ++ more) total (kept ++ left) last)
      → (more : List Gone) (left : List ℕ) (last : Before)
      → TakesOut now end more (drop end (take count start)) left last
      → TakesOut before_all 0 ((gone ++ gone_at going.kind place next.text ∷ []) ++ more) total (new ++ left) last
  goes_on now now_is gone total before_all kept new is on more left last takes =
      let g : Gone = gone_at going.kind place next.text in
      let first : GoesFirst old (drop read (take count start)) next.kept going.kind next.text next.rest after =
      subst (λ (v : List ℕ). GoesFirst old v next.kept going.kind next.text next.rest after) bytes_are next.first in
      let at_end : end ≡ place + length next.text = ap (λ (n : ℕ). place + n) next.length_is in
      let rest_now : TakesOut now (place + length next.text) more next.rest left last =
      subst₂ (λ (n : ℕ) (v : List ℕ). TakesOut now n more v left last) at_end (sym rest_there) takes in
      let rest : TakesOut (switched after going.kind next.text) (place + length next.text) more next.rest left last =
      subst (λ (b : Before). TakesOut b (place + length next.text) more next.rest left last) now_is rest_now in
      subst₂ (λ (v : List Gone) (w : List ℕ). TakesOut before_all 0 v total w last)
      (sym (append_assoc gone (g ∷ []) more))
      (sym (append_assoc kept next.kept left) ∙ ap (λ (v : List ℕ). v ++ left) (sym is))
      (on (g ∷ more) (next.kept ++ left) last (
        next.kept,
        next.rest,
        left,
        after,
        first,
        ap (λ (n : ℕ). read + n) next.place_is,
        refl,
        rest,
      ))

pub told_more : (gone : List Gone) (g : Gone) → told_with (counted_of gone) g ≡ counted_of (gone ++ g ∷ [])
told_more gone g = sym (fold-append told_with nothing_told gone (g ∷ []))

-- ---- a file
-- sequences of a content in a memory of which the first bytes are the file
module _ (memory once file content : List ℕ) (used kept : ℕ) (told : Told) (has : has_record file ≡ true)
    (is : content ≡ content_in file) (within : used ≤ length memory) (are : file ≡ take used memory)
    (gone : List Gone) (end : Before)
    (takes : TakesOut before.NOTHING 0 gone (take (length content) memory) (take kept once) end)
    (told_is : told ≡ told_of gone end) (behind : drop (length content) once ≡ drop (length content) memory)
    (twice : List ℕ) (moved : twice ≡ take kept once ++ take (used - length content) (drop (length content) once)) where
  twice_is : twice ≡ with_content (take kept once) file
  twice_is = behind_kept memory used file within are once twice kept (rw is at behind) (rw is at moved)

  long : 128 ≤ length file
  long = leb-true 128 (length file) (both (nat_le 128 (length file))
      (bytes_eq (take 5 (record_in file)) (codes "SAUCE")) has)
    where
      both : (a b : Bool) → (a && b) ≡ true → a ≡ true
      both true b e = refl
      both false b e = absurd (true≢false (sym e))

  pub still_long : 128 ≤ length twice
  still_long =
      let few = content_within file long in
      let sum : length twice ≡ length (take kept once) + (length file - length (content_in file)) =
      ap length twice_is ∙ length-append (take kept once) (drop (length (content_in file)) file)
      ∙ ap (λ (n : ℕ). length (take kept once) + n) (length-drop (length (content_in file)) file) in
      omega (arith, few, sum)

  pub taken_out : (new : List ℕ) → new ≡ flagged told.bright_backgrounds twice → AreTakenOut file new told
  taken_out new new_is =
      subst (λ (b : Bool). MatchBool b (TakesOutOf file new told) ((new ≡ file) × (told ≡ nothing_told))) (sym has)
      (record {
        gone = gone;
        left = take kept once;
        end = end;
        takes_out = subst (λ (v : List ℕ). TakesOut before.NOTHING 0 gone v (take kept once) end)
            (ap (λ (v : List ℕ). take (length v) memory) is ∙ content_bytes memory used file within are) takes;
        told_is = told_is;
        new_is = new_is ∙ ap (flagged told.bright_backgrounds) twice_is;
      })
