-- A file that was mended is settled as it is, where it is mended again in the same way.
use Rattle.std.proofs.Common.{◌≡◌, inl, inr, ℕ, ◌==◌, Bool, true, false, List, ◌∷◌, ◌++◌, length, refl, sym, take, drop}
use Rattle.std.proofs.Common.{ap, ap₂, ◌∙◌, arith, append_assoc, subst, subst₂, true≢false, Option, None, Some}
use Rattle.std.specs.Prelude.{if◌then◌else◌, ◌&&◌, not, MatchBool}
use Rattle.std.specs.List.{list_all, position_or_len}
use Rattle.std.specs.Option.{option_map_or}
use Rattle.std.proofs.lemmas.Bool.{ne_eqb}
use Rattle.std.proofs.lemmas.List.{take-append-drop}
use Rattle.std.proofs.Math.Seq.{drop-append_seam}
use Rattle.ans_model.specs.File.Layout.{FileParts, after_content, comment_block, content, is_end_mark}
use Rattle.ans_model.specs.File.Record.{comment_count, stated_lines, stated_size}
use Rattle.ans_model.specs.File.Refusals.{Accepts, has_record}
use Rattle.ans_model.specs.Screen.State.{Size}
use Rattle.ans_model.specs.Screen.StartClass.{all_known, none_known}
use Rattle.ans_model.specs.Verdict.Good.{GoodWith, Picture}
use Rattle.ans_model.proofs.ClassLemmas.{covers_good, none_known_covers}
use Rattle.ans_sauce.specs.Found.{record_in}
use Rattle.ans_sauce.proofs.LaidParts.{laid_body, laid_has_record, laid_record}
use Rattle.ans_forms.specs.declared.kinds.TheConstants.Before as before
use Rattle.ans_pens.specs.declared.times.Times.{Times}
use Rattle.ans_sauce.specs.Contents.{content_in, with_content}
use Rattle.ans_mend.specs.EndMark.{with_end_mark}
use Rattle.ans_sauce.specs.Fields.{with_lines, with_record}
use Rattle.ans_mend.specs.LastEnds.{AreLastEndsOut, HasFewerEnds}
use Rattle.ans_mend.specs.LineEnds.{wants_returns, with_line_ends, with_returns}
use Rattle.ans_mend.specs.NamedColours.{AreColoursNamed, HasNamedColours}
use Rattle.ans_mend.specs.NewRecord.{holds_sauce, new_record, with_new_record}
use Rattle.ans_mend.specs.Tail.{is_tail_byte}
use Rattle.ans_mend.specs.TakingOut.{AreTakenOut, TakesOutOf, flagged, nothing_told}
use Rattle.ans_mend.specs.declared.taking_out.Told.{Told}
use Rattle.ans_mend.specs.declared.outcome.Mended.{Mended}
use Rattle.ans_model.specs.declared.mends.Mends.{Mends}
use Rattle.ans_mend.specs.Mending.{AreLastEndsGone, AreLinesFor, AreNamed, AreSequencesOut, IsEditedAsStated}
use Rattle.ans_mend.specs.Mending.{IsMended, PassesAsStated, asks_for_lines, first_lines, lacks_lines, lined}
use Rattle.ans_mend.specs.Mending.{TakesLines, iced, opened, recorded, repaired, returned, widened}
use Rattle.ans_mend.specs.OlderRecord.{without_older}
use Rattle.ans_mend.specs.Recounted.{recounted}
use Rattle.ans_forms.specs.declared.kinds.Before.{Before}
use Rattle.ans_check_laws.proofs.NothingGone.{all_left, nothing_gone, says_nothing}
use Rattle.ans_check_laws.proofs.WholeFiles.{nothing_cut}

-- where nothing is asked for, nothing changes
pub off : {P : Type 0} (b : Bool) (A : Type 0) → b ≡ false → MatchBool b A P → P
off {P} b A is h = subst (λ (v : Bool). MatchBool v A P) is h

-- and where it is, what is asked for
pub on : {A : Type 0} (b : Bool) (P : Type 0) → b ≡ true → MatchBool b A P → A
on {A} b P is h = subst (λ (v : Bool). MatchBool v A P) is h

never_and : (a b c : Bool) → b ≡ false → (a && (b && c)) ≡ false
never_and true true c is = absurd (true≢false is)
never_and true false c is = refl
never_and false b c is = refl

and_never : (a b : Bool) → b ≡ false → (a && b) ≡ false
and_never true b is = is
and_never false b is = refl

-- the content of a file, in its own place
module _ (file : List ℕ) (apart : FileParts) (accepts : Accepts file apart) where
  abbrev behind : List ℕ
  behind = comment_block (comment_count apart.record_bytes) apart.comment_bytes ++ apart.record_bytes

  same_content : with_content (content_in file) file ≡ file
  same_content =
      let c : List ℕ = content apart.body in
      let rest : List ℕ = after_content apart.body ++ behind in
      let n : ℕ = position_or_len is_end_mark apart.body in
      let is : content_in file ≡ c = ap content (laid_body file apart accepts.laid) in
      let parts : apart.body ≡ c ++ after_content apart.body = body_parts apart.body n in
      let whole : file ≡ c ++ rest =
      accepts.laid.whole ∙ ap (λ (v : List ℕ). v ++ behind) parts
      ∙ append_assoc c (after_content apart.body) behind in
      ap₂ (λ (v w : List ℕ). v ++ drop (length v) w) is whole
      ∙ ap (λ (v : List ℕ). c ++ v) (drop-append_seam c rest) ∙ sym whole
    where
      body_parts : (body : List ℕ) (n : ℕ) → body ≡ take n body ++ drop (length (take n body)) body
      body_parts body n =
          let is : body ≡ take n body ++ drop n body = sym (take-append-drop n body) in
          let rest : drop (length (take n body)) body ≡ drop n body =
          ap (drop (length (take n body))) is ∙ drop-append_seam (take n body) (drop n body) in
          is ∙ ap (λ (v : List ℕ). take n body ++ v) (sym rest)

module _ (mends : Mends) (no_rows : mends.join_rows ≡ false) (no_repair : mends.repair_record ≡ false)
    (file : List ℕ) (apart : FileParts)
    (accepts : Accepts file apart) (picture : Picture)
    (good : GoodWith (stated_size apart.record_bytes) none_known (content apart.body) picture)
    (no_returns : mends.crlf ≡ true → wants_returns mends.mixed (content apart.body) ≡ false)
    (names_stay : mends.name_colours ≡ true → (left : List ℕ) (times : Option Times)
    → AreColoursNamed (content_in file) left times → left ≡ content_in file)
    (width_stays : widened mends file ≡ file) (ice_stays : iced mends file ≡ file)
    (again : Mended) (draft : List ℕ) (k : IsMended mends file again draft) where
  has : has_record file ≡ true
  has = laid_has_record file apart accepts.laid

  its_record : record_in file ≡ apart.record_bytes
  its_record = laid_record file apart accepts.laid

  its_content : content_in file ≡ content apart.body
  its_content = ap content (laid_body file apart accepts.laid)

  file_good : GoodWith (stated_size (record_in file)) all_known (content_in file) picture
  file_good =
      covers_good (stated_size (record_in file)) none_known all_known (content_in file) picture
      (none_known_covers all_known)
      (subst₂ (λ (sauce bytes : List ℕ). GoodWith (stated_size sauce) none_known bytes picture) (sym its_record)
      (sym its_content) good)

  -- ---- no record is given, and lines are stated
  not_recorded : (width : Option ℕ) → option_map_or (λ w. with_new_record w file) width file ≡ file
  not_recorded None = refl
  not_recorded (Some w) =
      ap (λ (b : Bool). if not b && (not (holds_sauce file) && list_all is_tail_byte (after_content file))
      then content file ++ 0x1A ∷ new_record w else file) has

  based_stays : k.based ≡ file
  based_stays =
      k.based_is ∙ ap (recorded mends) (nothing_cut file apart accepts k.cut k.is_cut)
      ∙ ap (λ (v : List ℕ). repaired mends (widened mends v)) (not_recorded mends.add_record)
      ∙ ap (repaired mends) width_stays
      ∙ ap (λ (b : Bool). if b then without_older (recounted file) else file) no_repair

  none_lacking : (m : Mends) → lacks_lines m file ≡ false
  none_lacking m =
      let lines : stated_lines (record_in file) ≡ stated_lines apart.record_bytes = ap stated_lines its_record in
      let some = accepts.lines_stated in
      never_and (has_record file) (stated_lines (record_in file) == 0) (asks_for_lines m)
      (ne_eqb (stated_lines (record_in file)) 0 (λ e. omega (arith, lines, some, e)))

  lacks_none : lacks_lines k.asked k.based ≡ false
  lacks_none = ap (lacks_lines k.asked) based_stays ∙ none_lacking k.asked

  pub opened_stays : opened k.asked k.based ≡ file
  opened_stays =
      ap (opened k.asked) based_stays
      ∙ ap (λ (lacks : Bool). if lacks
      then with_record (with_lines (first_lines k.asked) (record_in file)) file else file) (none_lacking k.asked)

  -- ---- nothing is changed of the content
  abbrev z : Size
  z = stated_size (record_in file)

  edited_again : IsEditedAsStated k.asked file k.steps.edited again.edits
  edited_again =
      subst (λ (v : List ℕ). IsEditedAsStated k.asked v k.steps.edited again.edits) opened_stays k.steps.is_edited

  returned_stays : returned k.asked file ≡ file
  returned_stays = go k.asked.crlf (sym (ap (λ (m : Mends). m.crlf) k.asked_is))
    where
      mixed_is : k.asked.mixed ≡ mends.mixed
      mixed_is = ap (λ (m : Mends). m.mixed) k.asked_is

      go : (ends : Bool) → mends.crlf ≡ ends → (if ends then with_line_ends k.asked.mixed file else file) ≡ file
      go true is =
          let none : wants_returns k.asked.mixed (content_in file) ≡ false =
          ap₂ (λ (b : Bool) (v : List ℕ). wants_returns b v) mixed_is its_content ∙ no_returns is in
          ap (λ (b : Bool). if b then with_content (with_returns 0 (content_in file)) file else file)
          (and_never (has_record file) (wants_returns k.asked.mixed (content_in file)) none)
      go false is = refl

  none_taken : (new : List ℕ) (told : Told) → TakesOutOf file new told → new ≡ file
  none_taken new told t =
      let nothing = nothing_gone z all_known (content_in file) picture file_good before.NOTHING 0 t.gone t.left
      t.end t.takes_out in
      let none : told.bright_backgrounds ≡ None =
      ap (λ (v : Told). v.bright_backgrounds) t.told_is ∙ ap (λ (b : Before). b.bright) nothing.3
      ∙ says_nothing nothing.2 before.NOTHING refl refl in
      t.new_is ∙ ap₂ (λ (o : Option Bool) (left : List ℕ). flagged o (with_content left file)) none nothing.1
      ∙ same_content file apart accepts

  out_stays : edited_again.out ≡ file
  out_stays =
      sequences.2 ∙ ap (iced k.asked) (go k.asked.take_out sequences.1)
      ∙ ap (λ (m : Mends). iced m file) k.asked_is ∙ ice_stays
    where
      sequences : AreSequencesOut k.asked file edited_again.out again.edits.told
      sequences =
          subst (λ (v : List ℕ). AreSequencesOut k.asked v edited_again.out again.edits.told) returned_stays
          edited_again.sequences

      of_file : (recorded : Bool) → has_record file ≡ recorded
          → MatchBool recorded (TakesOutOf file sequences.0 again.edits.told)
          ((sequences.0 ≡ file) × (again.edits.told ≡ nothing_told))
          → sequences.0 ≡ file
      of_file true is t = none_taken sequences.0 again.edits.told t
      of_file false is t = t.0

      go : (takes : Bool) → MatchBool takes (AreTakenOut file sequences.0 again.edits.told)
          ((sequences.0 ≡ file) × (again.edits.told ≡ nothing_told)) → sequences.0 ≡ file
      go true t = of_file (has_record file) refl t
      go false t = t.0

  joined_stays : edited_again.joined ≡ file
  joined_stays =
      let rows_off : k.asked.join_rows ≡ false = ap (λ (m : Mends). m.join_rows) k.asked_is ∙ no_rows in
      (off k.asked.join_rows _ rows_off edited_again.rows).0 ∙ out_stays

  none_fewer : (left : List ℕ) (times : Option Times) → AreLastEndsOut z (content_in file) left times
      → left ≡ content_in file
  none_fewer left times (inl t) =
      t.left_is ∙ all_left z (content_in file) t.count (picture, file_good) t.leaves
  none_fewer left times (inr (never, is, none)) = is

  ended_stays : edited_again.ended ≡ file
  ended_stays =
      go k.asked.take_out
      (subst (λ (v : List ℕ). AreLastEndsGone k.asked z v edited_again.ended again.edits.last_ends) joined_stays
      edited_again.ends)
    where
      of_file : (recorded : Bool)
          → MatchBool recorded ((left : List ℕ) × AreLastEndsOut z (content_in file) left again.edits.last_ends
          × (edited_again.ended ≡ with_content left file))
          ((edited_again.ended ≡ file) × (again.edits.last_ends ≡ None))
          → edited_again.ended ≡ file
      of_file true (left, out, is) =
          is ∙ ap (λ (v : List ℕ). with_content v file) (none_fewer left again.edits.last_ends out)
          ∙ same_content file apart accepts
      of_file false t = t.0

      go : (takes : Bool) → MatchBool takes (HasFewerEnds z file edited_again.ended again.edits.last_ends)
          ((edited_again.ended ≡ file) × (again.edits.last_ends ≡ None)) → edited_again.ended ≡ file
      go true t = of_file (has_record file) t
      go false t = t.0

  pub edited_stays : k.steps.edited ≡ file
  edited_stays =
      go k.asked.name_colours (sym (ap (λ (m : Mends). m.name_colours) k.asked_is))
      (subst (λ (v : List ℕ). AreNamed k.asked v k.steps.edited again.edits.named_colours) ended_stays
      edited_again.named)
    where
      of_file : (recorded : Bool) → mends.name_colours ≡ true
          → MatchBool recorded ((left : List ℕ) × AreColoursNamed (content_in file) left again.edits.named_colours
          × (k.steps.edited ≡ with_content left file))
          ((k.steps.edited ≡ file) × (again.edits.named_colours ≡ None))
          → k.steps.edited ≡ file
      of_file true asks (left, named, is) =
          is ∙ ap (λ (v : List ℕ). with_content v file) (names_stay asks left again.edits.named_colours named)
          ∙ same_content file apart accepts
      of_file false asks t = t.0

      go : (names : Bool) → mends.name_colours ≡ names
          → MatchBool names (HasNamedColours file k.steps.edited again.edits.named_colours)
          ((k.steps.edited ≡ file) × (again.edits.named_colours ≡ None)) → k.steps.edited ≡ file
      go true asks t = of_file (has_record file) asks t
      go false none t = t.0

  -- ---- nor of its lines
  edited_good : PassesAsStated (record_in k.steps.edited) (content_in k.steps.edited)
  edited_good =
      subst (λ (v : List ℕ). PassesAsStated (record_in v) (content_in v)) (sym edited_stays) (picture, file_good)

  lined_stays : lined k.steps.lines k.steps.edited ≡ file
  lined_stays = go k.steps.lines k.steps.are_lines
    where
      none_taken_for : (lines : ℕ)
          → TakesLines k.asked (lacks_lines k.asked k.based) (record_in k.steps.edited) (content_in k.steps.edited)
          lines → ⊥
      none_taken_for lines (inl lacks, asked) = true≢false (sym lacks ∙ lacks_none)
      none_taken_for lines (inr bad, asked) = bad edited_good

      go : (lines : Option ℕ) → AreLinesFor k.asked (lacks_lines k.asked k.based) k.steps.edited lines
          → lined lines k.steps.edited ≡ file
      go None h = edited_stays
      go (Some lines) h = absurd (none_taken_for lines h)

  pub settled_stays : k.settled ≡ with_end_mark file
  settled_stays = k.steps.settled_is ∙ ap with_end_mark lined_stays
