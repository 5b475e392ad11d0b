-- What is told of the sequences that were taken out of a file are bytes of it.
use Rattle.std.proofs.Common.{◌≡◌, inl, inr, ℕ, ◌+◌, ◌-◌, ◌/◌, ◌%◌, Bool, true, false, refl, sym, subst, arith}
use Rattle.std.proofs.Common.{zero, suc, ◌<◌, ◌≤◌}
use Rattle.std.proofs.Common.{List, [], ◌∷◌, ◌++◌, length, take, drop, codes, Option, Some, None, All, replicate, fold}
use Rattle.std.specs.Prelude.{if◌then◌else◌, MatchBool, min, slice_index_or, nat_lt, ◌&&◌}
use Rattle.std.specs.List.{list_all}
use Rattle.std.specs.Option.{option_map_or}
use Rattle.std.proofs.lemmas.Bool.{and_parts, cases_lt, ltb-true}
use Rattle.std.proofs.lemmas.List.{get_or_past}
use Rattle.std.proofs.lemmas.List.Elements.{All-tail, All-head, All-nil, All-cons, All-append, All-take, All-drop}
use Rattle.std.proofs.lemmas.List.Elements.{All-set, All-replicate, All-get_or}
use Rattle.ans_model.specs.Bytes.{IsByte, blank, end_mark}
use Rattle.ans_model.specs.File.Layout.{content}
use Rattle.ans_model.specs.File.Record.{comment_count, number}
use Rattle.ans_model.specs.File.Refusals.{has_record}
use Rattle.ans_sauce.specs.Found.{after_end_mark, body_in, front_in, record_in}
use Rattle.ans_forms.specs.declared.kinds.Before.{Before}
use Rattle.ans_forms.specs.declared.kinds.TheConstants.Before as before
use Rattle.ans_sauce.specs.Contents.{content_in, with_content}
use Rattle.ans_sauce.specs.Fields.{overwritten, two_bytes, with_lines, with_record}
use Rattle.ans_mend.specs.LineEnds.{wants_returns, with_line_ends, with_returns}
use Rattle.ans_mend.specs.MendedText.{mended_text}
use Rattle.ans_mend.specs.NewRecord.{new_record, takes_record, with_new_record}
use Rattle.ans_mend.specs.Tail.{IsTailCut}
use Rattle.ans_mend.specs.TakingOut.{AreTakenOut, Gone, TakesOut, TakesOutOf, excerpt_of, index_of, nothing_told}
use Rattle.ans_mend.specs.TakingOut.{one_more, switched, told_with}
use Rattle.ans_mend.specs.declared.outcome.Mended.{Mended}
use Rattle.ans_mend.specs.declared.taking_out.TakenOut.{TakenOut}
use Rattle.ans_mend.specs.declared.taking_out.Told.{Told}
use Rattle.ans_model.specs.declared.mends.Mends.{Mends}
use Rattle.ans_mend.specs.Mending.{IsMended, first_lines, lacks_lines, opened, record_added, repaired}
use Rattle.ans_mend.specs.Mending.{returned, widened}
use Rattle.ans_mend.specs.Columns.{with_columns, with_width}
use Rattle.ans_mend.specs.OlderRecord.{has_older, older_place, without_older}
use Rattle.ans_mend.specs.Recounted.{blocks, blocks_from, comments_for, comments_in, is_block, recounted, with_comments}
use Rattle.ans_check_laws.specs.CleanTexts.{IsCleanText}
use Rattle.ans_check_laws.proofs.CleanPieces.{all_left, all_right}
use Rattle.ans_check_laws.proofs.CleanMended.{QuotesBytes, mended_clean}
use Rattle.ans_check_laws.proofs.ReturnsPut.{put_bytes}

-- ---- numbers and texts that are put

low_byte : (n : ℕ) → IsByte (n % 256)
low_byte n = omega arith

two_are_bytes : (n : ℕ) → All IsByte (two_bytes n)
two_are_bytes n =
    All-cons IsByte (n % 256) (n / 256 % 256 ∷ []) (low_byte n)
    (All-cons IsByte (n / 256 % 256) [] (low_byte (n / 256)) (All-nil IsByte))

low_are_bytes : (xs : List ℕ) → list_all (λ b. nat_lt b 256) xs ≡ true → All IsByte xs
low_are_bytes [] h = All-nil IsByte
low_are_bytes (b ∷ xs) h =
    let parts = and_parts (nat_lt b 256) (list_all (λ c. nat_lt c 256) xs) h in
    All-cons IsByte b xs (ltb-true b 256 parts.0) (low_are_bytes xs parts.1)

name_is_bytes : All IsByte (codes "SAUCE00")
name_is_bytes = low_are_bytes (codes "SAUCE00") refl

record_is_bytes : (width : ℕ) → All IsByte (new_record width)
record_is_bytes width =
    let kind : List ℕ = 0x01 ∷ 0x01 ∷ (two_bytes width ++ replicate 30 0x00) in
    let size : List ℕ = replicate 4 0x00 ++ kind in
    let date : List ℕ = codes "00000000" ++ size in
    All-append IsByte (codes "SAUCE00") (replicate 75 blank ++ date) name_is_bytes
    (All-append IsByte (replicate 75 blank) date (All-replicate IsByte 75 blank (omega arith))
    (All-append IsByte (codes "00000000") size (All-replicate IsByte 8 0x30 (omega arith))
    (All-append IsByte (replicate 4 0x00) kind (All-replicate IsByte 4 0x00 (omega arith))
    (All-cons IsByte 0x01 (0x01 ∷ (two_bytes width ++ replicate 30 0x00)) (omega arith)
    (All-cons IsByte 0x01 (two_bytes width ++ replicate 30 0x00) (omega arith)
    (All-append IsByte (two_bytes width) (replicate 30 0x00) (two_are_bytes width)
    (All-replicate IsByte 30 0x00 (omega arith))))))))

-- ---- files

cut_is_bytes : (file cut : List ℕ) → IsTailCut file cut → All IsByte file → All IsByte cut
cut_is_bytes file cut (inl (place, tail, is)) h =
    subst (λ (v : List ℕ). All IsByte v) (sym is) (All-take IsByte (place + 128) file h)
cut_is_bytes file cut (inr (none, is)) h = subst (λ (v : List ℕ). All IsByte v) (sym is) h

added_is_bytes : (width : Option ℕ) (file : List ℕ) → All IsByte file
    → All IsByte (option_map_or (λ w. with_new_record w file) width file)
added_is_bytes None file h = h
added_is_bytes (Some width) file h = go (takes_record file)
  where
    go : (takes : Bool) → All IsByte (if takes then content file ++ end_mark ∷ new_record width else file)
    go true =
        All-append IsByte (content file) (end_mark ∷ new_record width) (All-take IsByte _ file h)
        (All-cons IsByte end_mark (new_record width) (omega arith) (record_is_bytes width))
    go false = h

-- other bytes in a record
overwritten_is_bytes : (offset : ℕ) (bytes file : List ℕ) → All IsByte bytes → All IsByte file
    → All IsByte (with_record (overwritten offset bytes (record_in file)) file)
overwritten_is_bytes offset bytes file put h =
    let its : All IsByte (record_in file) = All-drop IsByte (length file - 128) file h in
    All-append IsByte (front_in file) (overwritten offset bytes (record_in file))
    (All-take IsByte (length file - 128) file h)
    (All-append IsByte (take offset (record_in file)) (bytes ++ drop (offset + length bytes) (record_in file))
    (All-take IsByte offset (record_in file) its)
    (All-append IsByte bytes (drop (offset + length bytes) (record_in file)) put
    (All-drop IsByte (offset + length bytes) (record_in file) its)))

widened_is_bytes : (mends : Mends) (file : List ℕ) → All IsByte file → All IsByte (widened mends file)
widened_is_bytes mends file h = go mends.columns
  where
    by_test : (width : ℕ) (has : Bool)
        → All IsByte (if has then with_record (with_width width (record_in file)) file else file)
    by_test width true = overwritten_is_bytes 96 (two_bytes width) file (two_are_bytes width) h
    by_test width false = h

    go : (width : Option ℕ) → All IsByte (option_map_or (λ w. with_columns w file) width file)
    go None = h
    go (Some width) = by_test width (has_record file)

-- the number of a block is a byte
blocks_are_bytes : (front : List ℕ) (number count : ℕ) → number + count ≤ 256
    → All IsByte (blocks_from front number count)
blocks_are_bytes front number zero within = All-nil IsByte
blocks_are_bytes front number (suc count) within =
    All-append IsByte (if is_block front number then number ∷ [] else []) (blocks_from front (number + 1) count)
    (here (is_block front number)) (blocks_are_bytes front (number + 1) count (omega (arith, within)))
  where
    here : (is : Bool) → All IsByte (if is then number ∷ [] else [])
    here true = All-cons IsByte number [] (omega (arith, within)) (All-nil IsByte)
    here false = All-nil IsByte

all_blocks : (front : List ℕ) → All IsByte (blocks front)
unfolding blocks
all_blocks front = blocks_are_bytes front 1 255 (omega arith)

comments_are_bytes : (count : ℕ) (numbers : List ℕ) → IsByte count → All IsByte numbers
    → IsByte (comments_for count numbers)
comments_are_bytes count [] byte h = omega arith
comments_are_bytes count (number ∷ []) byte h = All-head IsByte number [] h
comments_are_bytes count (number ∷ other ∷ more) byte h = byte

without_older_is_bytes : (file : List ℕ) → All IsByte file → All IsByte (without_older file)
without_older_is_bytes file h = go (has_older file)
  where
    end : ℕ
    end = older_place file + length (after_end_mark file)

    go : (has : Bool) → All IsByte (if has then take (older_place file) file ++ drop end file else file)
    go true =
        All-append IsByte (take (older_place file) file) (drop end file) (All-take IsByte (older_place file) file h)
        (All-drop IsByte end file h)
    go false = h

repaired_is_bytes : (mends : Mends) (file : List ℕ) → All IsByte file → All IsByte (repaired mends file)
repaired_is_bytes mends file h = go mends.repair_record
  where
    counted : IsByte (comment_count (record_in file))
    counted =
        one_byte (drop 104 (record_in file))
        (All-drop IsByte 104 (record_in file) (All-drop IsByte (length file - 128) file h))
      where
        one_byte : (bytes : List ℕ) → All IsByte bytes → number (take 1 bytes) < 256
        one_byte [] h = omega arith
        one_byte (b ∷ bytes) h = let byte : b < 256 = All-head IsByte b bytes h in omega (arith, byte)

    by_test : (has : Bool)
        → All IsByte (if has then with_record (with_comments (comments_in file) (record_in file)) file else file)
    by_test true =
        overwritten_is_bytes 104 (comments_in file ∷ []) file
        (All-cons IsByte (comments_in file) []
        (comments_are_bytes (comment_count (record_in file)) (blocks (front_in file)) counted
        (all_blocks (front_in file))) (All-nil IsByte)) h
    by_test false = h

    recounted_bytes : All IsByte (recounted file)
    recounted_bytes = by_test (has_record file)

    go : (repairs : Bool) → All IsByte (if repairs then without_older (recounted file) else file)
    go true = without_older_is_bytes (recounted file) recounted_bytes
    go false = h

opened_is_bytes : (asked : Mends) (file : List ℕ) → All IsByte file → All IsByte (opened asked file)
opened_is_bytes asked file h = go (lacks_lines asked file)
  where
    record_bytes : All IsByte (record_in file)
    record_bytes = All-drop IsByte (length file - 128) file h

    go : (lacks : Bool)
        → All IsByte (if lacks then with_record (with_lines (first_lines asked) (record_in file)) file else file)
    go true =
        All-append IsByte (front_in file) (with_lines (first_lines asked) (record_in file))
        (All-take IsByte (length file - 128) file h)
        (All-append IsByte (take 98 (record_in file))
        (two_bytes (first_lines asked) ++ drop 100 (record_in file))
        (All-take IsByte 98 (record_in file) record_bytes)
        (All-append IsByte (two_bytes (first_lines asked)) (drop 100 (record_in file))
        (two_are_bytes (first_lines asked)) (All-drop IsByte 100 (record_in file) record_bytes)))
    go false = h

content_is_bytes : (file : List ℕ) → All IsByte file → All IsByte (content_in file)
content_is_bytes file h =
    All-take IsByte _ (body_in file) (All-take IsByte _ (front_in file) (All-take IsByte (length file - 128) file h))

returned_is_bytes : (asked : Mends) (file : List ℕ) → All IsByte file → All IsByte (returned asked file)
returned_is_bytes asked file h = go asked.crlf
  where
    by_test : (wants : Bool)
        → All IsByte (if wants then with_content (with_returns 0 (content_in file)) file else file)
    by_test true =
        All-append IsByte (with_returns 0 (content_in file)) (drop (length (content_in file)) file)
        (put_bytes 0 (content_in file) (content_is_bytes file h))
        (All-drop IsByte (length (content_in file)) file h)
    by_test false = h

    go : (ends : Bool) → All IsByte (if ends then with_line_ends asked.mixed file else file)
    go true = by_test (has_record file && wants_returns asked.mixed (content_in file))
    go false = h

-- ---- what goes

abbrev HasBytes : Gone → Type 0
HasBytes g = All IsByte g.text

gone_are_bytes : (before : Before) (from : ℕ) (gone : List Gone) (bytes left : List ℕ) (end : Before)
    → All IsByte bytes → TakesOut before from gone bytes left end → All HasBytes gone
gone_are_bytes before from [] bytes left end h takes = All-nil HasBytes
gone_are_bytes before from (g ∷ more) bytes left end h (kept, rest, later, after, first, place, is, takes) =
    let whole : All IsByte (kept ++ (g.text ++ rest)) = subst (λ (v : List ℕ). All IsByte v) first.whole h in
    let behind : All IsByte (g.text ++ rest) = all_right IsByte kept (g.text ++ rest) whole in
    All-cons HasBytes g more (all_left IsByte g.text rest behind)
    (gone_are_bytes (switched after g.kind g.text) (g.place + length g.text) more rest later end
    (all_right IsByte g.text rest behind) takes)

excerpt_is_bytes : (text : List ℕ) → All IsByte text → All IsByte (excerpt_of text).bytes
excerpt_is_bytes text h =
    let count : ℕ = min (length text) 32 in
    All-append IsByte (take count text) (replicate (32 - count) 0) (All-take IsByte count text h)
    (All-replicate IsByte (32 - count) 0 (omega arith))

one_more_quotes : (taken : Option TakenOut) (g : Gone) → QuotesBytes taken → HasBytes g
    → QuotesBytes (Some (one_more taken g))
one_more_quotes None g h bytes = excerpt_is_bytes g.text bytes
one_more_quotes (Some taken) g h bytes = h

at_quotes : (kinds : List (Option TakenOut)) (i : ℕ) → All QuotesBytes kinds
    → QuotesBytes (slice_index_or kinds i None)
at_quotes kinds i h = elim (cases_lt i (length kinds)) [
  | inl within ↦ All-get_or QuotesBytes kinds i None within h
  | inr past ↦ subst QuotesBytes (sym (get_or_past kinds i None past)) tt
]

told_quotes : (told : Told) (gone : List Gone) → All QuotesBytes told.kinds → All HasBytes gone
    → All QuotesBytes (fold told_with told gone).kinds
told_quotes told [] h bytes = h
told_quotes told (g ∷ more) h bytes =
    told_quotes (told_with told g) more
    (All-set QuotesBytes told.kinds (index_of g.kind)
    (Some (one_more (slice_index_or told.kinds (index_of g.kind) None) g))
    (one_more_quotes (slice_index_or told.kinds (index_of g.kind) None) g
    (at_quotes told.kinds (index_of g.kind) h) (All-head HasBytes g more bytes)) h)
    (All-tail HasBytes g more bytes)

nothing_quotes : All QuotesBytes nothing_told.kinds
nothing_quotes = All-replicate QuotesBytes 9 None tt

-- ---- of a file that is mended
module _ (mends : Mends) (file draft : List ℕ) (mended : Mended) (bytes : All IsByte file)
    (h : IsMended mends file mended draft) where
  abbrev told : Told
  told = mended.edits.told

  abbrev looked_at : List ℕ
  looked_at = returned h.asked (opened h.asked h.based)

  based_is_bytes : All IsByte h.based
  based_is_bytes =
      subst (λ (v : List ℕ). All IsByte v) (sym h.based_is)
      (repaired_is_bytes mends (widened mends (record_added mends h.cut))
      (widened_is_bytes mends (record_added mends h.cut)
      (added_is_bytes mends.add_record h.cut (cut_is_bytes file h.cut h.is_cut bytes))))

  looked_at_is_bytes : All IsByte looked_at
  looked_at_is_bytes =
      returned_is_bytes h.asked (opened h.asked h.based) (opened_is_bytes h.asked h.based based_is_bytes)

  -- what is left of its sequences, before its flag is set
  abbrev taken : List ℕ
  taken = h.steps.is_edited.sequences.0

  none_quotes : told ≡ nothing_told → All QuotesBytes told.kinds
  none_quotes is = subst (λ (v : Told). All QuotesBytes v.kinds) (sym is) nothing_quotes

  some_quote : TakesOutOf looked_at taken told → All QuotesBytes told.kinds
  some_quote t =
      subst (λ (v : Told). All QuotesBytes v.kinds) (sym t.told_is)
      (told_quotes nothing_told t.gone nothing_quotes
      (gone_are_bytes before.NOTHING 0 t.gone (content_in looked_at) t.left t.end
      (content_is_bytes looked_at looked_at_is_bytes) t.takes_out))

  pub told_bytes : All QuotesBytes told.kinds
  told_bytes = go h.asked.take_out h.steps.is_edited.sequences.1
    where
      of_file : (recorded : Bool)
          → MatchBool recorded (TakesOutOf looked_at taken told)
          ((taken ≡ looked_at) × (told ≡ nothing_told))
          → All QuotesBytes told.kinds
      of_file true t = some_quote t
      of_file false t = none_quotes t.1

      go : (takes : Bool) → MatchBool takes (AreTakenOut looked_at taken told)
          ((taken ≡ looked_at) × (told ≡ nothing_told)) → All QuotesBytes told.kinds
      go true t = of_file (has_record looked_at) t
      go false t = none_quotes t.1

-- So what is said of its changes is clean.
pub changes_clean : (mends : Mends) (file draft : List ℕ) (mended : Mended) → All IsByte file
    → IsMended mends file mended draft → IsCleanText (mended_text mended)
changes_clean mends file draft mended bytes h = mended_clean mended (told_bytes mends file draft mended bytes h)
