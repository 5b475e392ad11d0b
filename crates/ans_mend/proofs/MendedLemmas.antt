-- A file that is mended passes from every start.
use Rattle.std.proofs.Common.{◌≡◌, inl, inr, ℕ, ◌+◌, ◌-◌, ◌≤◌, ◌==◌, Bool, true, false, List, ◌++◌}
use Rattle.std.proofs.Common.{length, refl, sym, ap, ap₂, ◌∙◌, arith, subst, subst₂}
use Rattle.std.proofs.Common.{append_assoc, Result, Err}
use Rattle.std.specs.Prelude.{if◌then◌else◌, ◌&&◌, ◌||◌, IfErr, Option, None, Some}
use Rattle.std.specs.Prelude.{is_some, option_and_then}
use Rattle.std.specs.List.{list_any}
use Rattle.std.proofs.lemmas.Bool.{and_parts, eqb-true}
use Rattle.std.proofs.lemmas.List.{length-append, length-drop, length-take-le}
use Rattle.std.proofs.lemmas.List.Folds.{list_any-append}
use Rattle.ans_model.specs.Bytes.{longest_file}
use Rattle.ans_model.specs.File.Layout.{FileParts, Laid, after_content, comment_block, content, is_end_mark, laid_file}
use Rattle.ans_model.specs.File.Record.{comment_count, stated_lines, stated_size}
use Rattle.ans_model.specs.File.Refusals.{Accepts, block_size, has_record}
use Rattle.ans_model.specs.Screen.State.{Size}
use Rattle.ans_model.specs.Screen.StartClass.{all_known, none_known}
use Rattle.ans_model.specs.Verdict.Good.{Picture, GoodWith, IsGood}
use Rattle.ans_model.proofs.ClassLemmas.{covers_all_known, covers_good}
use Rattle.ans_sauce.specs.Found.{front_in, record_in}
use Rattle.ans_sauce.proofs.Overwriting.{overwritten_length, recorded_length}
use Rattle.ans_sauce.proofs.RecordLemmas.{front_before, recorded_long}
use Rattle.ans_sauce.proofs.LaidParts.{laid_body, laid_front, laid_has_record, laid_lengths, laid_record}
use Rattle.ans_sauce.specs.Fields.{resized_parts, with_file_size}
use Rattle.ans_kinds.proofs.Mended.{makes_good}
use Rattle.ans_sauce.proofs.ResizedFiles.{resized_accepted, resized_comments, resized_content, resized_size}
use Rattle.ans_sauce.specs.Fields.{two_bytes, with_lines, with_record}
use Rattle.ans_mend.specs.declared.outcome.Mended.{Mended}
use Rattle.ans_sauce.specs.Contents.{content_in}
use Rattle.ans_mend.specs.NewRecord.{takes_record}
use Rattle.ans_mend.specs.declared.outcome.GivenRecord.{GivenRecord}
use Rattle.ans_mend.specs.declared.outcome.Unmended.{Unmended}
use Rattle.ans_mend.specs.declared.outcome.Unmended.TheVariants.{Refused, TooLong}
use Rattle.ans_mend.proofs.EndMarks.{ended}
use Rattle.ans_model.specs.declared.mends.Mends.{Mends}
use Rattle.std.specs.Prelude.{IsTrue, ◌↔◌}
use Rattle.ans_mend.specs.Mending.{HasSettled, IfNotMended, IsMended, IsRead, IsReason, IsReasonFor, IsReasonOfContent}
use Rattle.ans_mend.specs.Mending.{IsSettled, WantsMending, asked_for, asks_for_lines, end_mark_counted, first_lines}
use Rattle.ans_mend.specs.Mending.{front_bytes, gives_record, lacks_lines, lined, opened, record_put, recorded}
use Rattle.ans_mend.specs.Mending.{comments_put, older_put, width_set}
use Rattle.ans_sauce.specs.declared.writing.Reset.{Reset}
use Rattle.ans_mend.specs.MendingRoom.{LacksScreenFor, LacksScreenInTheEnd}
use Rattle.ans_mend.specs.MendingSteps.{IsEditedTooLong, IsJudgement, IsRefused, IsSized, IsTooLong, reading_in}
use Rattle.ans_mend.specs.LastEnds.{times_at}
use Rattle.ans_mend.specs.Tail.{IsTailCut}
use Rattle.ans_mend.specs.declared.judging.Judgement.{Judgement}
use Rattle.ans_mend.specs.declared.judging.Reading.{Reading}
use Rattle.ans_mend.specs.declared.outcome.Edits.{Edits}
use Rattle.ans_mend.specs.declared.outcome.MendError.{MendError}
use Rattle.ans_mend.specs.declared.outcome.MendError.TheVariants.{Memory, NotMended}
use Rattle.ans_pens.specs.declared.times.Times.{Times}

-- ---- the record that is put

pub put_where_given : (mends : Mends) (cut : List ℕ) → is_some (record_put mends cut) ≡ gives_record mends cut
put_where_given mends cut = go mends.add_record (takes_record cut)
  where
    given : ℕ → GivenRecord
    given width = record { width = width; place = length (content cut); cut = length (after_content cut) }

    go : (width : Option ℕ) (takes : Bool)
        → is_some (option_and_then (λ w. if takes then Some (given w) else None) width) ≡ (is_some width && takes)
    go None takes = refl
    go (Some width) true = refl
    go (Some width) false = refl

-- what is then asked for
pub asked_where_given : (mends : Mends) (cut : List ℕ) (put : Option GivenRecord) (is_put : Bool) (asked : Mends)
    → put ≡ record_put mends cut → is_put ≡ is_some put
    → asked ≡ record mends { least_lines = mends.least_lines || is_put } → asked ≡ asked_for mends cut
asked_where_given mends cut put is_put asked put_is some asked_is =
    asked_is
    ∙ ap (λ (b : Bool). record mends { least_lines = mends.least_lines || b })
    (some ∙ ap is_some put_is ∙ put_where_given mends cut)

-- ---- the opened file

-- the one that lacks lines has 128 bytes
long_of_lacking : (mends : Mends) (file : List ℕ) → lacks_lines mends file ≡ true → 128 ≤ length file
long_of_lacking mends file is =
    recorded_long file (and_parts (has_record file) (stated_lines (record_in file) == 0 && asks_for_lines mends) is).0

-- a record that states other lines has as many bytes
lines_record_length : (n : ℕ) (file : List ℕ) → 128 ≤ length file → length (with_lines n (record_in file)) ≡ 128
lines_record_length n file long =
    let record_long : length (record_in file) ≡ 128 = length-drop (length file - 128) file ∙ omega (arith, long) in
    overwritten_length 98 (two_bytes n) (record_in file) (omega (arith, record_long)) ∙ record_long

lines_length : (n : ℕ) (file : List ℕ) → 128 ≤ length file
    → length (with_record (with_lines n (record_in file)) file) ≡ length file
lines_length n file long = recorded_length 98 (two_bytes n) file long (omega arith)

pub opened_length : (mends : Mends) (file : List ℕ) → length (opened mends file) ≡ length file
opened_length mends file = go (lacks_lines mends file) refl
  where
    go : (lacks : Bool) → lacks_lines mends file ≡ lacks
        → length (if lacks then with_record (with_lines (first_lines mends) (record_in file)) file else file)
        ≡ length file
    go false is = refl
    go true is = lines_length (first_lines mends) file (long_of_lacking mends file is)

-- it begins as the file does
pub opened_front : (mends : Mends) (file : List ℕ) → front_in (opened mends file) ≡ front_in file
opened_front mends file = go (lacks_lines mends file) refl
  where
    go : (lacks : Bool) → lacks_lines mends file ≡ lacks
        → front_in (if lacks then with_record (with_lines (first_lines mends) (record_in file)) file else file)
        ≡ front_in file
    go false is = refl
    go true is =
        let long : 128 ≤ length file = long_of_lacking mends file is in
        front_before (front_in file) (with_lines (first_lines mends) (record_in file))
        (lines_record_length (first_lines mends) file long)

-- and so long is the file of which the lines are settled
pub lined_length : (lines : Option ℕ) (file : List ℕ) → 128 ≤ length file → length (lined lines file) ≡ length file
lined_length None file long = refl
lined_length (Some lines) file long = lines_length lines file long

-- it lacks lines where a number is asked for
pub lacking_asks : (mends : Mends) (file : List ℕ) → lacks_lines mends file ≡ true → asks_for_lines mends ≡ true
lacking_asks mends file is =
    (and_parts (stated_lines (record_in file) == 0) (asks_for_lines mends)
    (and_parts (has_record file) (stated_lines (record_in file) == 0 && asks_for_lines mends) is).1).1

-- the lines that were stated before
pub opened_stated : (mends : Mends) (file : List ℕ) (stated : ℕ)
    → stated ≡ (if lacks_lines mends file then 0 else stated_lines (record_in (opened mends file)))
    → stated ≡ stated_lines (record_in file)
opened_stated mends file stated = go (lacks_lines mends file) refl
  where
    go : (lacks : Bool) → lacks_lines mends file ≡ lacks
        → stated ≡ (if lacks then 0 else stated_lines (record_in (if lacks
        then with_record (with_lines (first_lines mends) (record_in file)) file else file)))
        → stated ≡ stated_lines (record_in file)
    go false is same = same
    go true is same =
        let inner = (and_parts (has_record file) (stated_lines (record_in file) == 0 && asks_for_lines mends) is).1 in
        let none : stated_lines (record_in file) ≡ 0 =
        eqb-true (stated_lines (record_in file)) 0
        (and_parts (stated_lines (record_in file) == 0) (asks_for_lines mends) inner).0 in
        same ∙ sym none

-- ---- the file that is written

unmarked : (front : Bool) → list_any is_end_mark (front_bytes front) ≡ false
unmarked true = refl
unmarked false = refl

any_behind : (xs ys : List ℕ) → list_any is_end_mark ys ≡ true → list_any is_end_mark (xs ++ ys) ≡ true
any_behind xs ys there =
    list_any-append is_end_mark xs ys ∙ ap (λ (b : Bool). list_any is_end_mark xs || b) there
    ∙ or_on (list_any is_end_mark xs)
  where
    or_on : (b : Bool) → (b || true) ≡ true
    or_on true = refl
    or_on false = refl

-- the bytes in front and the file with another FileSize are laid out as its parts are
laid_behind : (front : List ℕ) (none : list_any is_end_mark front ≡ false) (n : ℕ) (file : List ℕ) (apart : FileParts)
    (accepts : Accepts file apart)
    → front ++ with_record (with_file_size n (record_in file)) file ≡ laid_file (resized_parts front n apart)
laid_behind front none n file apart accepts =
    let r : List ℕ = with_file_size n apart.record_bytes in
    let block : List ℕ = comment_block (comment_count apart.record_bytes) apart.comment_bytes in
    let record_is : with_file_size n (record_in file) ≡ r =
    ap (with_file_size n) (laid_record file apart accepts.laid) in
    let same_block : comment_block (comment_count r) apart.comment_bytes ≡ block =
    ap (λ (v : ℕ). comment_block v apart.comment_bytes) (resized_comments front none n file apart accepts) in
    ap₂ (λ (f v : List ℕ). front ++ (f ++ v)) (laid_front file apart accepts.laid) record_is
    ∙ ap (λ (v : List ℕ). front ++ v) (append_assoc apart.body block r)
    ∙ sym (append_assoc front apart.body (block ++ r))
    ∙ ap (λ (v : List ℕ). (front ++ apart.body) ++ (v ++ r)) (sym same_block)

-- the length of a file by its parts
parts_length : (file : List ℕ) (apart : FileParts) → Accepts file apart
    → length file ≡ length apart.body + block_size (comment_count apart.record_bytes) + 128
parts_length file apart accepts =
    let long : 128 ≤ length file = recorded_long file (laid_has_record file apart accepts.laid) in
    let front : length (front_in file) ≡ length file - 128 =
    length-take-le (length file - 128) file (omega arith) in
    let parts = laid_lengths file apart accepts.laid in omega (arith, long, front, parts)

-- a content that passes from the cleared start passes from every start, behind the mending where it is wanted
record Passing (z : Size) (front : Bool) (bytes : List ℕ) : Type 0 where
  picture : Picture
  cleared : GoodWith z all_known bytes picture
  every : GoodWith z none_known (front_bytes front ++ bytes) picture

passing : (z : Size) (front : Bool) (bytes : List ℕ) → IsGood z all_known bytes
    → (front ≡ false → IsGood z none_known bytes) → Passing z front bytes
passing z true bytes good every = record {
  picture = good.0;
  cleared = good.1;
  every = makes_good z bytes good.0 good.1;
}
passing z false bytes good every =
    let from_every = every refl in
    record {
      picture = from_every.0;
      cleared = covers_good z none_known all_known bytes from_every.0 (covers_all_known none_known) from_every.1;
      every = from_every.1;
    }

-- what is told of it
abbrev pub told : Mends → Option Times → Option GivenRecord → Option Reset → Option Reset → Option Times → Edits
    → Option ℕ → Reading → Judgement → ℕ → Mended
told mends tail given width comments older edits mark was judgement size = record {
  asked = mends;
  tail = tail;
  given_record = given;
  width = width;
  comments = comments;
  older = older;
  edits = edits;
  non_blink = record { was = was.non_blink; is = judgement.reading.non_blink };
  lines = record { was = was.lines; is = judgement.reading.lines };
  end_mark = mark;
  front = judgement.front;
  file_size = record { was = was.file_size; is = size };
}

-- of a file whose tail is cut, which has a record if it gets one, and which is settled
module _ (mends : Mends) (file cut : List ℕ) (is_cut : IsTailCut file cut) (asked : Mends)
    (asked_is : asked ≡ asked_for mends cut) (based : List ℕ) (based_is : based ≡ recorded mends cut) where
  -- a reason then is one of the file
  pub reason_so : (reason : Unmended) → IsReasonFor asked based reason → IsReason mends file reason
  reason_so reason why =
      (cut, is_cut, subst₂ (λ (m : Mends) (v : List ℕ). IsReasonFor m v reason) asked_is based_is why)

  module _ (settled : List ℕ) (edits : Edits) (mark : Option ℕ) (steps : IsSettled asked based edits mark settled) where
    content_reason : (reason : Unmended) → IsReasonOfContent asked settled reason → IsReason mends file reason
    content_reason reason why = reason_so reason (inr (inr (inr (settled, edits, mark, steps, why))))

    -- a fault of the settled file is one
    pub refused : (reason : Unmended) → IsRefused settled reason → IsReason mends file reason
    refused reason (fault, is, faulty) =
        subst (λ (r : Unmended). IsReason mends file r) (sym is) (content_reason (Refused fault) faulty)

    -- and there is no screen for it in the end, where there is none for the settled file
    pub lacks_screen : (lacks : Size → Type 0) → LacksScreenFor lacks settled → LacksScreenInTheEnd lacks mends file
    lacks_screen lacks none = (
      cut,
      is_cut,
      subst₂ (λ (m : Mends) (v : List ℕ). HasSettled m v (LacksScreenFor lacks)) asked_is based_is
          (settled, edits, mark, steps, none),
    )

    module _ (judgement : Judgement) (judged : IsJudgement asked settled judgement) where
      abbrev apart : FileParts
      apart = judged.apart

      record_is : record_in settled ≡ apart.record_bytes
      record_is = laid_record settled apart judged.accepts.laid

      body_is : content_in settled ≡ content apart.body
      body_is = ap content (laid_body settled apart judged.accepts.laid)

      -- so is want of room for the mending
      pub too_long : (reason : Unmended) → IsTooLong judgement.front settled reason → IsReason mends file reason
      too_long reason is =
          let wants : WantsMending asked (stated_size (record_in settled)) (content_in settled) =
          subst₂ (λ (r b : List ℕ). WantsMending asked (stated_size r) b) (sym record_is) (sym body_is)
          (judged.wants.0 is.1) in
          let passes : IsGood (stated_size (record_in settled)) all_known (content_in settled) =
          subst₂ (λ (r b : List ℕ). IsGood (stated_size r) all_known b) (sym record_is) (sym body_is)
          judged.cleared in
          subst (λ (r : Unmended). IsReason mends file r) (sym is.0)
          (content_reason TooLong (inr (is.2, wants, passes)))

      pub mended : (was : Reading) (n : ℕ) (draft : List ℕ)
          → was ≡ reading_in (lacks_lines asked based) (opened asked based)
          → IsSized judgement.front judgement.reading.content was.counts_end_mark settled n draft
          → length based ≤ longest_file → length settled ≤ longest_file → (given : Option GivenRecord)
          → given ≡ record_put mends cut → (width : Option Reset) → width ≡ width_set mends cut
          → (comments : Option Reset) → comments ≡ comments_put mends cut → (older : Option Times)
          → older ≡ older_put mends cut → (tail : Option Times)
          → tail ≡ times_at (length file - length cut) (length cut)
          → IsMended mends file (told mends tail given width comments older edits mark was judgement n) draft
      mended was n draft was_is sized based_fits settled_fits given given_is width width_is comments comments_is older
          older_is tail tail_is =
          let front : List ℕ = front_bytes judgement.front in
          let none : list_any is_end_mark front ≡ false = unmarked judgement.front in
          let accepts : Accepts settled apart = judged.accepts in
          let whole : front ++ draft ≡ laid_file (resized_parts front n apart) =
          ap (λ (v : List ℕ). front ++ v) sized.draft_is ∙ laid_behind front none n settled apart accepts in
          let content_is : content (front ++ apart.body) ≡ front ++ content apart.body =
          resized_content front none n settled apart accepts in
          let size_is : stated_size (with_file_size n apart.record_bytes) ≡ stated_size apart.record_bytes =
          resized_size front none n settled apart accepts in
          let accepted : Accepts (front ++ draft) (resized_parts front n apart) =
          subst (λ (v : List ℕ). Accepts v (resized_parts front n apart)) (sym whole)
          (resized_accepted front none n settled apart accepts) in
          let passes : Passing (stated_size apart.record_bytes) judgement.front (content apart.body) =
          passing (stated_size apart.record_bytes) judgement.front (content apart.body) judged.cleared judged.every in
          record {
            cut = cut;
            is_cut = is_cut;
            asked = asked;
            asked_is = asked_is;
            based = based;
            based_is = based_is;
            based_fits = based_fits;
            settled = settled;
            steps = steps;
            settled_sound = ((apart, accepts), settled_fits);
            draft_is = sized.draft_is;
            apart = resized_parts front n apart;
            accepts = accepted;
            content_is = content_is ∙ ap (λ (v : List ℕ). front ++ v) (sym body_is);
            room =
                let now = parts_length (front ++ draft) (resized_parts front n apart) accepted in
                let was = parts_length settled apart accepts in
                let body = length-append front apart.body in
                let block = ap block_size (resized_comments front none n settled apart accepts) in
                let room = sized.room in omega (arith, now, was, body, block, room);
            fits =
                let all : length (content (front ++ apart.body)) ≡ length front + length (content apart.body) =
                ap length content_is ∙ length-append front (content apart.body) in
                let size = sized.size_is in
                let count : judgement.reading.content ≡ length (content apart.body) =
                ap (λ (r : Reading). r.content) judged.reading ∙ ap length body_is in
                let counted : (if was.counts_end_mark then 1 else 0) ≡ end_mark_counted (opened asked based) =
                ap (λ (r : Reading). if r.counts_end_mark then 1 else 0) was_is in
                omega (arith, all, size, count, counted);
            ended = any_behind front apart.body
                (ended (lined steps.lines steps.edited) apart
                (subst (λ (v : List ℕ). Laid v apart) steps.settled_is accepts.laid));
            picture = passes.picture;
            from_cleared = subst₂ (λ (z : Size) (bytes : List ℕ). GoodWith z all_known bytes passes.picture)
                (sym size_is) (sym body_is) passes.cleared;
            from_every = subst₂ (λ (z : Size) (bytes : List ℕ). GoodWith z none_known bytes passes.picture)
                (sym size_is) (sym content_is) passes.every;
            front = subst₂ (λ (z : Size) (bytes : List ℕ). IsTrue judgement.front ↔ WantsMending asked z bytes)
                (sym size_is) (sym body_is) judged.wants;
            flags = refl;
            tail = tail_is;
            given_record = given_is;
            width = width_is;
            comments = comments_is;
            older = older_is;
            flag_was = ap (λ (r : Reading). r.non_blink) was_is;
            flag_is = ap (λ (r : Reading). r.non_blink) judged.reading;
            lines_were = opened_stated asked based was.lines (ap (λ (r : Reading). r.lines) was_is);
            lines_are = ap (λ (r : Reading). r.lines) judged.reading;
            size_was = ap (λ (r : Reading). r.file_size) was_is;
          }

-- a file that is too long with its returns, or with its content changed, is not mended for that
pub too_long_edited : (asked : Mends) (based : List ℕ) (reason : Unmended) → IsRead (opened asked based)
    → IsEditedTooLong asked (stated_size (record_in (opened asked based))) (opened asked based) reason
    → IsReasonFor asked based reason
too_long_edited asked based reason read (is, why) = elim why [
  | inl long ↦ inl (is, inr long)
  | inr (edited, edits, is_edited, long) ↦ inr (inr (inl (read, edited, edits, is_edited, inl (is, long))))
]

-- what follows from what is so of a reason
pub weaker : (e : MendError) {P Q : Unmended → Type 0} → ((reason : Unmended) → P reason → Q reason)
    → IfNotMended e P → IfNotMended e Q
weaker Memory f p = tt
weaker (NotMended reason) f p = f reason p

-- an error that is no want of room has its reason
pub not_mended : {T : Type 0} (r : Result T MendError) (e : MendError) (reason : Unmended) (holds : Unmended → Type 0)
    → r ≡ Err e → e ≡ NotMended reason → holds reason → IfErr r (λ error. IfNotMended error holds)
not_mended r e reason holds at is true_of = rw (at, is) true_of

-- nor is there more than one
pub same_error : {T U E : Type 0} {a b : E} (r : Result T E) → r ≡ Err a → r ≡ Err b
    → ◌≡◌ {A = Result U E} (Err a) (Err b)
same_error {a = a} {b = b} r at told = let same : a ≡ b = (cc) in ap Err same
