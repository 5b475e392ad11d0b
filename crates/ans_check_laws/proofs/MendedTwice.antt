-- A file that is mended is not changed by being mended again in the same way.
use Rattle.std.proofs.Common.{◌⊎◌, ◌∷◌, ◌%◌}
use Rattle.std.proofs.Common.{◌≡◌, inl, inr, ℕ, ◌+◌, ◌-◌, ◌≤◌, ◌<◌, ◌==◌, Bool, true, false, List, [], ◌++◌}
use Rattle.std.proofs.Common.{length, take, drop, refl, sym, ap, ap₂, ◌∙◌, arith, append_assoc, subst, subst₂}
use Rattle.std.proofs.Common.{true≢false}
use Rattle.std.specs.Prelude.{if◌then◌else◌, IsTrue, ◌↔◌, ◌&&◌, bytes_eq, codes, Option, Some, None, MatchBool}
use Rattle.std.proofs.lemmas.Bool.{cases_lt, eq-eqb, ne_eqb}
use Rattle.std.proofs.lemmas.List.{length-append, length-drop, length-take-le, take-append-drop}
use Rattle.ans_model.specs.Bytes.{longest_file, most_lines}
use Rattle.ans_model.specs.File.Layout.{content}
use Rattle.ans_model.specs.File.Record.{file_size, flags, number, stated_lines, stated_size}
use Rattle.ans_model.specs.File.Refusals.{has_record}
use Rattle.ans_model.specs.Screen.State.{Size, State, sized}
use Rattle.ans_model.specs.Sequence.TokenKind.{TokenKind}
use Rattle.ans_model.specs.Sequence.Reads.{Reads}
use Rattle.ans_players.specs.Situations.{spelled}
use Rattle.ans_sauce.specs.Found.{body_in, front_in, record_in}
use Rattle.ans_sauce.proofs.LaidParts.{laid_body, laid_record}
use Rattle.ans_sauce.specs.Fields.{four_bytes, overwritten, two_bytes, with_file_size, with_lines}
use Rattle.ans_sauce.specs.Fields.{with_non_blink, with_record}
use Rattle.ans_sauce.proofs.ResizedFiles.{its_length, resized_again, resized_file_size}
use Rattle.ans_sauce.proofs.ContentLemmas.{content_unmarked}
use Rattle.ans_sauce.proofs.RecordLemmas.{content_before, front_shorter, has_by, length_front, record_behind}
use Rattle.ans_sauce.proofs.RecordLemmas.{record_length}
use Rattle.ans_model.specs.Screen.Beginning.{mending}
use Rattle.ans_pens.specs.declared.times.Times.{Times}
use Rattle.ans_kinds.specs.SaidOfPlayers.{IsSameWhereCleared}
use Rattle.ans_kinds.proofs.NamedPlayers.{mended_is_same_where_cleared}
use Rattle.ans_sauce.specs.Contents.{content_in, with_content}
use Rattle.ans_mend.specs.EndMark.{with_end_mark}
use Rattle.ans_mend.specs.LineEnds.{wants_returns, with_line_ends, with_returns}
use Rattle.ans_mend.specs.NamedColours.{AreColoursNamed, HasNamedColours, NamesColours, begins_unnamed, named_content}
use Rattle.ans_mend.specs.declared.outcome.Mended.{Mended}
use Rattle.ans_model.specs.declared.mends.Mends.{Mends}
use Rattle.ans_mend.specs.Mending.{BeginsUnnamed, IsMended, WantsMending, end_mark_counted, front_bytes}
use Rattle.ans_mend.specs.Mending.{asks_for_lines, first_lines, iced, lacks_lines, lined, opened, record_added}
use Rattle.ans_mend.specs.Mending.{returned, widened}
use Rattle.ans_mend.specs.OlderRecord.{without_older}
use Rattle.ans_mend.specs.Recounted.{recounted}
use Rattle.ans_mend.specs.FullRows.{AreRowEndsOut}
use Rattle.ans_mend.specs.LastEnds.{AreLastEndsOut}
use Rattle.ans_mend.specs.TakingOut.{nothing_told}
use Rattle.ans_mend.specs.declared.outcome.Edits.{Edits}
use Rattle.ans_check_laws.proofs.FieldsStay.{bytes_at, bytes_put, bytes_stay, put_same}
use Rattle.ans_check_laws.proofs.RecordsKept.{field_in, flag_byte, iced_content, iced_same, its_size}
use Rattle.ans_check_laws.proofs.RecordsKept.{lined_field, same_had}
use Rattle.ans_check_laws.proofs.RecordsKept.{set_if, set_record, step_record, step_same, taken_field, taken_same}
use Rattle.ans_mend.specs.Columns.{with_columns, with_width}
use Rattle.std.specs.Option.{option_map_or}
use Rattle.ans_names_laws.specs.NameLaws.{NeverOwn, NoneOwnIsLeft}
use Rattle.ans_check_laws.proofs.WholeFiles.{accepted_long}
use Rattle.ans_check_laws.proofs.MarkedContents.{marked_stays}
use Rattle.ans_check_laws.proofs.CutFiles.{front_of_front, lines_had, lines_kept, mark_had, mark_kept, mark_record}
use Rattle.ans_check_laws.proofs.CutFiles.{content_put, record_stays, returned_wants_none}
use Rattle.ans_check_laws.proofs.MendedAgain.{off, on, opened_stays, settled_stays}
use Rattle.ans_check_laws.proofs.MendedItself.{same_size, settled_content}
use Rattle.ans_check_laws.proofs.NamedAgain.{NamingLaws, begins_named, named_again, own_gone}
use Rattle.ans_check_laws.proofs.NamedBytes.{named_wants, named_unmarked, nothing_named}
use Rattle.ans_check_laws.proofs.ReturnsPut.{wants_behind}
use Rattle.ans_check_laws.specs.KeptReturns.{KeepsReturns}

-- ---- numbers

-- what counts the end mark once counts it again
counts_again : (counted : Bool) (size n : ℕ) → size ≡ n + (if counted then 1 else 0)
    → n + (if size == n + 1 then 1 else 0) ≡ size
counts_again true size n is =
    ap (λ (b : Bool). n + (if b then 1 else 0)) (eq-eqb size (n + 1) is) ∙ sym is
counts_again false size n is =
    ap (λ (b : Bool). n + (if b then 1 else 0)) (ne_eqb size (n + 1) (λ e. other e)) ∙ sym is
  where
    other : size ≡ n + 1 → ⊥
    other e = omega (arith, is, e)

counted_once : (counted : Bool) → (if counted then 1 else 0) ≤ 1
counted_once true = omega arith
counted_once false = omega arith

-- ---- a FileSize that is set again

resized_length : (n : ℕ) (r : List ℕ)
    → length (with_file_size n r) ≡ length (take 90 r) + (4 + length (drop 94 r))
resized_length n r =
    length-append (take 90 r) (four_bytes n ++ drop 94 r)
    ∙ ap (λ (v : ℕ). length (take 90 r) + v) (length-append (four_bytes n) (drop 94 r))

-- ---- what is written
module _ (mends : Mends) (file : List ℕ) (mended : Mended) (draft : List ℕ) (h : IsMended mends file mended draft) where
  abbrev written : List ℕ
  written = front_bytes mended.front ++ draft

  abbrev size : ℕ
  size = mended.file_size.is

  -- the file as its record is read, of which the end mark is counted or not
  abbrev was : List ℕ
  was = opened h.asked h.based

  abbrev z : Size
  z = stated_size h.apart.record_bytes

  abbrev shown : List ℕ
  shown = content h.apart.body

  abbrev resized : List ℕ
  resized = with_file_size size (record_in h.settled)

  -- the settled file has a record of its own
  settled_long : 128 ≤ length h.settled
  settled_long = elim (cases_lt (length h.settled) 128) [
    | inl short ↦
        let r : List ℕ = record_in h.settled in
        let long : 128 ≤ length written = accepted_long written h.apart h.accepts in
        let before : length (content_in written) ≤ length (front_in written) = content_before written in
        let cut : length (front_in written) ≡ length written - 128 =
        length-take-le (length written - 128) written (omega arith) in
        let its : length (content_in written) ≡ length shown =
        ap (λ (v : List ℕ). length (content v)) (laid_body written h.apart h.accepts.laid) in
        let parts : length shown ≡ length (front_bytes mended.front) + length (content_in h.settled) =
        ap length h.content_is ∙ length-append (front_bytes mended.front) (content_in h.settled) in
        let all : length written ≡ length (front_bytes mended.front) + length draft =
        length-append (front_bytes mended.front) draft in
        let drafted : length draft ≡ length (front_in h.settled) + length resized =
        ap length h.draft_is ∙ length-append (front_in h.settled) resized in
        let none : length (front_in h.settled) ≡ length h.settled - 128 =
        length-take-le (length h.settled - 128) h.settled (omega arith) in
        let record_long : length r ≡ length h.settled - (length h.settled - 128) =
        length-drop (length h.settled - 128) h.settled in
        let first = length_front r 90 in
        let last : length (drop 94 r) ≡ length r - 94 = length-drop 94 r in
        let sum = resized_length size r in
        absurd (too_short (length (take 90 r)) (length (drop 94 r)) (length r) (length h.settled) (length draft)
        short (record_long ∙ omega (arith, short)) first last
        (omega (arith, drafted, none, short, sum)) (omega (arith, long, before, cut, its, parts, all)))
    | inr long ↦ long
  ]
    where
      too_short : (a b r s d : ℕ) → s < 128 → r ≡ s → a + (r - 90) ≡ r → b ≡ r - 94 → d ≡ a + (4 + b) → 128 ≤ d → ⊥
      too_short a b r s d short same first last all long = omega (arith, short, same, first, last, all, long)

  record_size : length (record_in h.settled) ≡ 128
  record_size = record_length h.settled settled_long

  -- its record states the FileSize
  resized_size : length resized ≡ 128
  resized_size = its_length (record_in h.settled) record_size size

  pub its_record : h.apart.record_bytes ≡ resized
  its_record =
      let whole : written ≡ (front_bytes mended.front ++ front_in h.settled) ++ resized =
      ap (λ (v : List ℕ). front_bytes mended.front ++ v) h.draft_is
      ∙ sym (append_assoc (front_bytes mended.front) (front_in h.settled) resized) in
      sym (laid_record written h.apart h.accepts.laid) ∙ ap record_in whole
      ∙ record_behind (front_bytes mended.front ++ front_in h.settled) resized resized_size

  -- which is set to the same again
  same_again : with_file_size size h.apart.record_bytes ≡ h.apart.record_bytes
  same_again =
      ap (with_file_size size) its_record ∙ resized_again size size (record_in h.settled) record_size
      ∙ sym its_record

  -- which fits into four bytes
  size_fits : size < 4294967296
  size_fits =
      let before : length (content_in written) ≤ length (front_in written) = content_before written in
      let front : length (front_in written) ≤ length written = front_shorter written (length written - 128) in
      let its : length (content_in written) ≡ length shown =
      ap (λ (v : List ℕ). length (content v)) (laid_body written h.apart h.accepts.laid) in
      let once : end_mark_counted was ≤ 1 =
      counted_once (file_size (record_in was) == length (content_in was) + 1) in
      let room : length written ≤ longest_file = h.room in
      let is : size ≡ length shown + end_mark_counted was = h.fits in
      omega (arith, before, front, its, once, room, is)

  states_size : size < 4294967296 → file_size h.apart.record_bytes ≡ size
  states_size room =
      sym (ap file_size same_again) ∙ resized_file_size [] refl size written h.apart h.accepts room

  -- from every start it is as from the cleared one
  pub still : ¬ ¬ IsSameWhereCleared z shown
  still wants = go mended.front h.front h.content_is
    where
      go : (front : Bool) → IsTrue front ↔ WantsMending h.asked z (content_in h.settled)
          → shown ≡ front_bytes front ++ content_in h.settled → ⊥
      go true tells is =
          wants (subst (λ (v : List ℕ). IsSameWhereCleared z v) (sym is)
          (mended_is_same_where_cleared z (content_in h.settled) (h.picture, h.from_cleared)))
      go false tells is = true≢false (sym (tells.1 (inl (λ same. wants (subst (λ (v : List ℕ). IsSameWhereCleared z v)
          (sym is) same)))))

  -- so it wants no mending, and nor for names: it begins in named colours behind the mending, or did so without it
  calm : (asked : Mends) → asked.name_colours ≡ h.asked.name_colours → ¬ WantsMending asked z shown
  calm asked same (inl wants) = still wants
  calm asked same (inr (asks, tokens, reads, begins)) = go mended.front h.front h.content_is
    where
      unnamed : BeginsUnnamed h.asked shown
      unnamed = (sym same ∙ asks, tokens, reads, begins)

      begins_not : BeginsUnnamed h.asked (mending ++ content_in h.settled) → ⊥
      begins_not (asks, tokens, reads, begins) =
          true≢false (sym begins
          ∙ begins_named (content_in h.settled) h.from_cleared.tokens tokens h.from_cleared.reads reads)

      go : (front : Bool) → IsTrue front ↔ WantsMending h.asked z (content_in h.settled)
          → shown ≡ front_bytes front ++ content_in h.settled → ⊥
      go true tells is = begins_not (subst (λ (v : List ℕ). BeginsUnnamed h.asked v) is unnamed)
      go false tells is =
          true≢false (sym (tells.1 (inr (subst (λ (v : List ℕ). BeginsUnnamed h.asked v) is unnamed))))

  -- ---- its record
  settled_id : bytes_eq (take 5 (record_in h.settled)) (codes "SAUCE") ≡ true
  settled_id =
      let r : List ℕ = record_in h.settled in
      let first : take 5 resized ≡ take 5 r =
      front_of_front 5 90 r (four_bytes size ++ drop 94 r) (omega arith) (omega (arith, record_size)) in
      ap (λ (v : List ℕ). bytes_eq v (codes "SAUCE"))
      (sym first ∙ ap (take 5) (sym its_record) ∙ h.accepts.laid.id)

  abbrev with_its_lines : List ℕ
  with_its_lines = lined h.steps.lines h.steps.edited

  has_lined : has_record with_its_lines ≡ true
  has_lined =
      mark_had with_its_lines (ap has_record (sym h.steps.settled_is) ∙ has_by h.settled settled_long settled_id)

  had : (lines : Option ℕ) → has_record (lined lines h.steps.edited) ≡ true → has_record h.steps.edited ≡ true
  had None has = has
  had (Some n) has = lines_had n h.steps.edited has

  kept : (lines : Option ℕ) → has_record h.steps.edited ≡ true
      → content_in (lined lines h.steps.edited) ≡ content_in h.steps.edited
  kept None has = refl
  kept (Some n) has = lines_kept n h.steps.edited has

  has_edited : has_record h.steps.edited ≡ true
  has_edited = had h.steps.lines has_lined

  same_content : content_in h.settled ≡ content_in h.steps.edited
  same_content = ap content_in h.steps.settled_is ∙ mark_kept with_its_lines has_lined ∙ kept h.steps.lines has_edited

  -- ---- its names

  -- the file before its colours are named
  abbrev ended : List ℕ
  ended = h.steps.is_edited.ended

  abbrev times : Option Times
  times = mended.edits.named_colours

  has_ended : has_record ended ≡ true
  has_ended = go (has_record ended) refl
    where
      same : (names : Bool) → has_record ended ≡ false
          → MatchBool names (HasNamedColours ended h.steps.edited times) ((h.steps.edited ≡ ended) × (times ≡ None))
          → h.steps.edited ≡ ended
      same true is t = (off (has_record ended) _ is t).0
      same false is t = t.0

      go : (recorded : Bool) → has_record ended ≡ recorded → has_record ended ≡ true
      go true is = is
      go false is = ap has_record (sym (same h.asked.name_colours is h.steps.is_edited.named)) ∙ has_edited

  -- ---- its record, step by step
  abbrev joined : List ℕ
  joined = h.steps.is_edited.joined

  abbrev out : List ℕ
  out = h.steps.is_edited.out

  abbrev taken : List ℕ
  taken = h.steps.is_edited.sequences.0

  abbrev put_in : List ℕ
  put_in = returned h.asked was

  abbrev edits : Edits
  edits = mended.edits

  abbrev read_size : Size
  read_size = stated_size (record_in was)

  abbrev Ended : List ℕ → Type 0
  Ended left = AreLastEndsOut read_size (content_in joined) left edits.last_ends

  abbrev Joined : List ℕ → Type 0
  Joined left =
      AreRowEndsOut h.asked.mixed (sized read_size.width most_lines) (content_in out) left edits.row_ends

  has_joined : has_record joined ≡ true
  has_joined =
      same_had joined ended (step_same h.asked.take_out joined ended Ended (edits.last_ends ≡ None)
      (edits.last_ends ≡ None) h.steps.is_edited.ends) has_ended

  has_out : has_record out ≡ true
  has_out =
      same_had out joined (step_same h.asked.join_rows out joined Joined (edits.row_ends ≡ None)
      (edits.row_ends ≡ None) h.steps.is_edited.rows) has_joined

  has_taken : has_record taken ≡ true
  has_taken =
      same_had taken out (λ none. h.steps.is_edited.sequences.2 ∙ iced_same h.asked taken none) has_out

  has_put : has_record put_in ≡ true
  has_put =
      same_had put_in taken (taken_same 0 0 h.asked.take_out put_in taken edits.told (edits.told ≡ nothing_told)
      (edits.told ≡ nothing_told) h.steps.is_edited.sequences.1) has_taken

  put_same_if : (ends : Bool) → has_record was ≡ false
      → (if ends then with_line_ends h.asked.mixed was else was) ≡ was
  put_same_if true none =
      ap (λ (b : Bool). if b && wants_returns h.asked.mixed (content_in was)
      then with_content (with_returns 0 (content_in was)) was else was) none
  put_same_if false none = refl

  has_was : has_record was ≡ true
  has_was = same_had was put_in (put_same_if h.asked.crlf) has_put

  has_based : has_record h.based ≡ true
  has_based =
      same_had h.based was (λ none. ap (λ (b : Bool). if b && (stated_lines (record_in h.based) == 0
      && asks_for_lines h.asked) then with_record (with_lines (first_lines h.asked) (record_in h.based)) h.based
      else h.based) none) has_was

  -- a field that is apart from those that are set
  module _ (offset bytes : ℕ) (no_size : (offset + bytes ≤ 90) ⊎ (94 ≤ offset))
      (no_lines : (offset + bytes ≤ 98) ⊎ (100 ≤ offset)) where
    field_of_out : bytes_at offset bytes (record_in written) ≡ field_in offset bytes out
    field_of_out =
        ap (bytes_at offset bytes) (laid_record written h.apart h.accepts.laid ∙ its_record)
        ∙ bytes_stay 90 (four_bytes size) (record_in h.settled) (omega (arith, record_size)) offset bytes no_size
        ∙ ap (field_in offset bytes) h.steps.settled_is
        ∙ ap (bytes_at offset bytes) (mark_record with_its_lines has_lined)
        ∙ lined_field offset bytes h.steps.lines h.steps.edited has_edited no_lines
        ∙ ap (bytes_at offset bytes)
        (step_record h.asked.name_colours ended h.steps.edited
        (λ left. AreColoursNamed (content_in ended) left times) (times ≡ None) (times ≡ None)
        h.steps.is_edited.named has_ended
        ∙ step_record h.asked.take_out joined ended Ended (edits.last_ends ≡ None)
        (edits.last_ends ≡ None) h.steps.is_edited.ends has_joined
        ∙ step_record h.asked.join_rows out joined Joined (edits.row_ends ≡ None)
        (edits.row_ends ≡ None) h.steps.is_edited.rows has_out)

    module _ (no_flag : (offset + bytes ≤ 105) ⊎ (106 ≤ offset)) where
      returned_field : (ends : Bool)
          → field_in offset bytes (if ends then with_line_ends h.asked.mixed was else was)
          ≡ field_in offset bytes was
      returned_field true = go (has_record was && wants_returns h.asked.mixed (content_in was))
        where
          go : (puts : Bool) → field_in offset bytes
              (if puts then with_content (with_returns 0 (content_in was)) was else was)
              ≡ field_in offset bytes was
          go true = ap (bytes_at offset bytes) (record_stays was has_was (with_returns 0 (content_in was)))
          go false = refl
      returned_field false = refl

      field_of_based : bytes_at offset bytes (record_in written) ≡ field_in offset bytes h.based
      field_of_based =
          field_of_out ∙ ap (field_in offset bytes) h.steps.is_edited.sequences.2
          ∙ set_if offset bytes (h.asked.ice && has_record taken) 105 (flag_byte true (record_in taken)) taken has_taken
          (omega arith) no_flag
          ∙ taken_field offset bytes h.asked.take_out put_in taken edits.told (edits.told ≡ nothing_told)
          (edits.told ≡ nothing_told) h.steps.is_edited.sequences.1 has_put no_flag
          ∙ returned_field h.asked.crlf
          ∙ set_if offset bytes (lacks_lines h.asked h.based) 98 (two_bytes (first_lines h.asked)) h.based has_based
          (omega arith) no_lines

  -- where bytes of the record are there, setting them changes nothing
  set_again : (place : ℕ) (set : List ℕ) → bytes_at place (length set) (record_in written) ≡ set
      → with_record (overwritten place set (record_in written)) written ≡ written
  set_again place set is =
      ap (λ (v : List ℕ). front_in written ++ v) (put_same place set (record_in written) is)
      ∙ take-append-drop (length written - 128) written

  -- the width that is asked for is there
  width_stays : mends.repair_record ≡ false → widened mends written ≡ written
  width_stays no_repair = go mends.columns refl
    where
      by_test : (width : ℕ) (has : Bool) → bytes_at 96 2 (record_in written) ≡ two_bytes width
          → (if has then with_record (with_width width (record_in written)) written else written) ≡ written
      by_test width true is = set_again 96 (two_bytes width) is
      by_test width false is = refl

      go : (columns : Option ℕ) → mends.columns ≡ columns
          → option_map_or (λ width. with_columns width written) columns written ≡ written
      go None is = refl
      go (Some width) is =
          by_test width (has_record written)
          (field_of_based 96 2 (inr (omega arith)) (inl (omega arith)) (inl (omega arith))
          ∙ ap (field_in 96 2) based_at ∙ ap (bytes_at 96 2) its
          ∙ bytes_put 96 (two_bytes width) (record_in added) (omega (arith, long)))
        where
          added : List ℕ
          added = record_added mends h.cut

          based_at : h.based ≡ with_columns width added
          based_at =
              h.based_is
              ∙ ap (λ (b : Bool). if b then without_older (recounted (widened mends added)) else widened mends added)
              no_repair
              ∙ ap (λ (columns : Option ℕ). option_map_or (λ w. with_columns w added) columns added) is

          has_added : has_record added ≡ true
          has_added =
              same_had added h.based (λ none. based_at ∙ ap (λ (b : Bool). if b
              then with_record (with_width width (record_in added)) added else added) none) has_based

          long : length (record_in added) ≡ 128
          long = its_size added has_added

          its : record_in (with_columns width added) ≡ with_width width (record_in added)
          its =
              ap (λ (b : Bool). record_in (if b then with_record (with_width width (record_in added)) added
              else added)) has_added
              ∙ set_record 96 (two_bytes width) added long (omega arith)

  -- and so is the flag
  ice_stays : iced mends written ≡ written
  ice_stays = go mends.ice refl
    where
      flag_again : (r s : List ℕ) (n : ℕ) → bytes_at 105 1 s ≡ (n - n % 2 + 1) ∷ []
          → bytes_at 105 1 s ≡ (flags s - flags s % 2 + 1) ∷ []
      flag_again r s n is =
          let value : flags s ≡ n - n % 2 + 1 = ap number is ∙ omega arith in
          is ∙ ap (λ (v : ℕ). v ∷ []) (omega (arith, value))

      by_test : (has : Bool) → bytes_at 105 1 (record_in written)
          ≡ (flags (record_in written) - flags (record_in written) % 2 + 1) ∷ []
          → (if has then with_record (with_non_blink true (record_in written)) written else written) ≡ written
      by_test true is = set_again 105 (flag_byte true (record_in written)) is
      by_test false is = refl

      go : (ice : Bool) → mends.ice ≡ ice → (if ice && has_record written
          then with_record (with_non_blink true (record_in written)) written else written) ≡ written
      go false is = refl
      go true is =
          by_test (has_record written)
          (flag_again (record_in taken) (record_in written) (flags (record_in taken))
          (field_of_out 105 1 (inr (omega arith)) (inr (omega arith))
          ∙ ap (field_in 105 1) (h.steps.is_edited.sequences.2 ∙ on_taken)
          ∙ ap (bytes_at 105 1)
          (set_record 105 (flag_byte true (record_in taken)) taken (its_size taken has_taken) (omega arith))
          ∙ bytes_put 105 (flag_byte true (record_in taken)) (record_in taken)
          (omega (arith, its_size taken has_taken))))
        where
          on_taken : iced h.asked taken ≡ with_record (with_non_blink true (record_in taken)) taken
          on_taken =
              let ice_on : h.asked.ice ≡ true = ap (λ (m : Mends). m.ice) h.asked_is ∙ is in
              ap₂ (λ (a b : Bool). if a && b then with_record (with_non_blink true (record_in taken)) taken
              else taken) ice_on has_taken

  -- where names are asked for
  module _ (asks : mends.name_colours ≡ true) where
    pub put : (left : List ℕ) × AreColoursNamed (content_in ended) left times
        × (h.steps.edited ≡ with_content left ended)
    put =
        let names_on : h.asked.name_colours ≡ true = ap (λ (m : Mends). m.name_colours) h.asked_is ∙ asks in
        on (has_record ended) _ has_ended (on h.asked.name_colours _ names_on h.steps.is_edited.named)

    pub left_is : content_in h.settled ≡ put.0
    left_is =
        same_content ∙ ap content_in put.2
        ∙ content_put ended has_ended put.0
        (named_unmarked (content_in ended) put.0 times put.1 (content_unmarked (body_in ended)))
        (nothing_named (content_in ended) put.0 times put.1)

    -- where no lines are taken, the record is as it was
    pub record_is : lined h.steps.lines h.steps.edited ≡ h.steps.edited → record_in h.settled ≡ record_in ended
    record_is same =
        ap record_in h.steps.settled_is ∙ ap (λ (v : List ℕ). record_in (with_end_mark v)) same
        ∙ mark_record h.steps.edited has_edited ∙ ap record_in put.2 ∙ record_stays ended has_ended put.0

    -- what passes can be read
    pub was_named : NamesColours (content_in ended) put.0 times
    was_named = go put.1
      where
        go : AreColoursNamed (content_in ended) put.0 times → NamesColours (content_in ended) put.0 times
        go (inl t) = t
        go (inr (never, is, none)) =
            absurd (never h.from_cleared.tokens (subst (λ (v : List ℕ). Reads v h.from_cleared.tokens) (left_is ∙ is)
            h.from_cleared.reads))

    abbrev named_written : List ℕ
    named_written = front_bytes mended.front ++ named_content (spelled was_named.tokens was_named.reads.0)

    named_is : shown ≡ named_written
    named_is =
        h.content_is ∙ ap (λ (v : List ℕ). front_bytes mended.front ++ v) (left_is ∙ was_named.left_is)

    names_stay : NamingLaws → (left : List ℕ) (again : Option Times) → AreColoursNamed (content_in written) left again
        → left ≡ content_in written
    names_stay laws left again =
        subst (λ (v : List ℕ). AreColoursNamed v left again → left ≡ v)
        (sym (ap content (laid_body written h.apart h.accepts.laid) ∙ named_is)) go
      where
        go : AreColoursNamed named_written left again → left ≡ named_written
        go (inl t) =
            t.left_is
            ∙ named_again laws (content_in ended) was_named.tokens was_named.reads mended.front t.tokens t.reads
        go (inr (never, is, none)) = is

  -- ---- its returns

  -- where returns are put and none is taken out, none is wanted
  module _ (no_rows : mends.join_rows ≡ false) (keeps : KeepsReturns mends) (puts : mends.crlf ≡ true) where
    keeps_all : h.asked.take_out ≡ false
    keeps_all =
        ap (λ (m : Mends). m.take_out) h.asked_is
        ∙ sym (ap (λ (b : Bool). b && mends.take_out) puts) ∙ keeps

    mixed_is : h.asked.mixed ≡ mends.mixed
    mixed_is = ap (λ (m : Mends). m.mixed) h.asked_is

    ended_is : ended ≡ iced h.asked (with_line_ends h.asked.mixed was)
    ended_is =
        let rows_off : h.asked.join_rows ≡ false =
        ap (λ (m : Mends). m.join_rows) h.asked_is ∙ no_rows in
        let ends_on : h.asked.crlf ≡ true = ap (λ (m : Mends). m.crlf) h.asked_is ∙ puts in
        (off h.asked.take_out _ keeps_all h.steps.is_edited.ends).0
        ∙ (off h.asked.join_rows _ rows_off h.steps.is_edited.rows).0
        ∙ h.steps.is_edited.sequences.2
        ∙ ap (iced h.asked) ((off h.asked.take_out _ keeps_all h.steps.is_edited.sequences.1).0
        ∙ ap (λ (b : Bool). if b then with_line_ends h.asked.mixed was else was) ends_on)

    ended_wants_none : wants_returns h.asked.mixed (content_in ended) ≡ false
    ended_wants_none =
        ap (wants_returns h.asked.mixed)
        (ap content_in ended_is ∙ iced_content h.asked (with_line_ends h.asked.mixed was))
        ∙ returned_wants_none was has_was h.asked.mixed

    settled_wants_none : wants_returns h.asked.mixed (content_in h.settled) ≡ false
    settled_wants_none = go mends.name_colours refl
      where
        go : (names : Bool) → mends.name_colours ≡ names → wants_returns h.asked.mixed (content_in h.settled) ≡ false
        go true asks =
            let named = put asks in
            ap (wants_returns h.asked.mixed) (left_is asks)
            ∙ named_wants (content_in ended) named.0 times named.1 h.asked.mixed ended_wants_none
        go false none =
            let names_off : h.asked.name_colours ≡ false =
            ap (λ (m : Mends). m.name_colours) h.asked_is ∙ none in
            ap (wants_returns h.asked.mixed) (same_content
            ∙ ap content_in (off h.asked.name_colours _ names_off h.steps.is_edited.named).0)
            ∙ ended_wants_none

    shown_wants_none : wants_returns mends.mixed shown ≡ false
    shown_wants_none =
        ap₂ (λ (b : Bool) (v : List ℕ). wants_returns b v) (sym mixed_is) h.content_is ∙ go mended.front
      where
        go : (front : Bool) → wants_returns h.asked.mixed (front_bytes front ++ content_in h.settled) ≡ false
        go true = wants_behind h.asked.mixed mending (content_in h.settled) refl refl ∙ settled_wants_none
        go false = settled_wants_none

  -- ---- mended again
  module _ (laws : NamingLaws) (no_rows : mends.join_rows ≡ false) (no_repair : mends.repair_record ≡ false)
      (keeps : KeepsReturns mends) (again : Mended)
      (draft_again : List ℕ) (k : IsMended mends written again draft_again) where
    stays : k.settled ≡ with_end_mark written
    stays =
        settled_stays mends no_rows no_repair written h.apart h.accepts h.picture h.from_every
        (shown_wants_none no_rows keeps) (λ asks. names_stay asks laws) (width_stays no_repair) ice_stays again
        draft_again k

    settled_is_written : k.settled ≡ written
    settled_is_written = stays ∙ marked_stays written h.apart h.accepts.laid h.ended

    content_stays : content_in k.settled ≡ shown
    content_stays = settled_content mends written again draft_again k h.apart h.accepts stays

    no_front : again.front ≡ false
    no_front = go again.front k.front
      where
        same_names : k.asked.name_colours ≡ h.asked.name_colours
        same_names =
            ap (λ (m : Mends). m.name_colours) k.asked_is ∙ sym (ap (λ (m : Mends). m.name_colours) h.asked_is)

        go : (front : Bool)
            → IsTrue front ↔ WantsMending k.asked (stated_size k.apart.record_bytes) (content_in k.settled)
            → front ≡ false
        go true tells =
            absurd (calm k.asked same_names (subst₂ (λ (v : Size) (bytes : List ℕ). WantsMending k.asked v bytes)
            (same_size mends written again draft_again k h.apart h.accepts stays) content_stays (tells.0 refl)))
        go false tells = refl

    same_file_size : size < 4294967296 → again.file_size.is ≡ size
    same_file_size room =
        let content_again : content k.apart.body ≡ shown =
        k.content_is ∙ ap₂ (λ (b : Bool) (v : List ℕ). front_bytes b ++ v) no_front content_stays in
        let opened_again : opened k.asked k.based ≡ written =
        opened_stays mends no_rows no_repair written h.apart h.accepts h.picture h.from_every
        (shown_wants_none no_rows keeps) (λ asks. names_stay asks laws) (width_stays no_repair) ice_stays again
        draft_again k in
        let stated : file_size (record_in written) ≡ size =
        ap file_size (laid_record written h.apart h.accepts.laid) ∙ states_size room in
        let counted : length (content_in written) ≡ length shown =
        ap (λ (v : List ℕ). length (content v)) (laid_body written h.apart h.accepts.laid) in
        let count_again : end_mark_counted (opened k.asked k.based) ≡ (if size == length shown + 1 then 1 else 0) =
        ap end_mark_counted opened_again
        ∙ ap₂ (λ (v w : ℕ). if v == w + 1 then 1 else 0) stated counted in
        k.fits ∙ ap₂ (λ (v : List ℕ) (w : ℕ). length v + w) content_again count_again
        ∙ counts_again (file_size (record_in was) == length (content_in was) + 1) size (length shown) h.fits

    pub twice_as_once : size < 4294967296 → front_bytes again.front ++ draft_again ≡ written
    twice_as_once room =
        let its : record_in written ≡ h.apart.record_bytes = laid_record written h.apart h.accepts.laid in
        let record_again : with_file_size again.file_size.is (record_in k.settled) ≡ record_in written =
        ap₂ (λ (n : ℕ) (v : List ℕ). with_file_size n v) (same_file_size room) (ap record_in settled_is_written ∙ its)
        ∙ same_again ∙ sym its in
        ap (λ (b : Bool). front_bytes b ++ draft_again) no_front ∙ k.draft_is
        ∙ ap₂ (λ (v w : List ℕ). front_in v ++ w) settled_is_written record_again
        ∙ take-append-drop (length written - 128) written

pub mending_twice : NamingLaws → (mends : Mends) (file draft draft_again : List ℕ) (mended again : Mended)
    → mends.join_rows ≡ false → mends.repair_record ≡ false
    → KeepsReturns mends → IsMended mends file mended draft
    → IsMended mends (front_bytes mended.front ++ draft) again draft_again
    → front_bytes again.front ++ draft_again ≡ front_bytes mended.front ++ draft
mending_twice laws mends file draft draft_again mended again no_rows no_repair keeps h k =
    twice_as_once mends file mended draft h laws no_rows no_repair keeps again draft_again k
    (size_fits mends file mended draft h)

-- ---- own colours

-- of a file that is written with its colours named, own colours show nowhere
pub own_colours_gone : NamingLaws → NoneOwnIsLeft → (mends : Mends) (file draft : List ℕ) (mended : Mended)
    → IsTrue mends.name_colours
    → (h : IsMended mends file mended draft) (z : Size) (s : State)
    → NeverOwn z s (spelled h.from_every.tokens h.from_every.reads.0)
own_colours_gone laws none_own mends file draft mended asks h z s =
    let was = was_named mends file mended draft h asks in
    let is = named_is mends file mended draft h asks in
    subst (λ (v : List ℕ). (tokens : List TokenKind) (reads : Reads v tokens)
    → (mended.front ≡ false → begins_unnamed (spelled tokens reads.0) ≡ false)
    → NeverOwn z s (spelled tokens reads.0)) (sym is)
    (own_gone laws (content_in h.steps.is_edited.ended) was.tokens was.reads none_own z s mended.front)
    h.from_every.tokens
    h.from_every.reads (begins mended.front h.front h.content_is)
  where
    begins : (front : Bool)
        → IsTrue front ↔ WantsMending h.asked (stated_size h.apart.record_bytes) (content_in h.settled)
        → content h.apart.body ≡ front_bytes front ++ content_in h.settled
        → front ≡ false → begins_unnamed (spelled h.from_every.tokens h.from_every.reads.0) ≡ false
    begins true tells is none = absurd (true≢false none)
    begins false tells is none = go (begins_unnamed (spelled h.from_every.tokens h.from_every.reads.0)) refl
      where
        go : (unnamed : Bool) → begins_unnamed (spelled h.from_every.tokens h.from_every.reads.0) ≡ unnamed
            → unnamed ≡ false
        go false e = refl
        go true e =
            let names_on : h.asked.name_colours ≡ true = ap (λ (m : Mends). m.name_colours) h.asked_is ∙ asks in
            let unnamed : BeginsUnnamed h.asked (content h.apart.body) =
            (names_on, h.from_every.tokens, h.from_every.reads, e) in
            absurd (true≢false (sym (tells.1 (inr (subst (λ (v : List ℕ). BeginsUnnamed h.asked v) is unnamed)))))
