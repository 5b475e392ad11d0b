-- Files that are dealt with one after the other.
use Rattle.std.proofs.Common.{◌≡◌, ◌∙◌, ◌↔◌, ℕ, ◌+◌, ◌<◌, ◌≤◌, Bool, true, false, List, [], ◌∷◌, ◌++◌, length}
use Rattle.std.proofs.Common.{take, get_or}
use Rattle.std.proofs.Common.{map, Option, Some, None, Result, Ok, Err, refl, sym, ap, subst, arith, append-nil}
use Rattle.std.proofs.Common.{inl, inr, true≢false}
use Rattle.std.specs.Borrow.{Bor}
use Rattle.std.specs.List.{flat_map}
use Rattle.std.specs.Prelude.{◌⊎◌, IsErr, IsTrue, OnErr, OnOk, codes, nat_le, nat_lt}
use Rattle.std.proofs.lemmas.Bool.Decides.{nat_tests}
use Rattle.std.proofs.lemmas.Grind.{flat_map-append}
use Rattle.std.specs.Io.KnownBytes.{Appends}
use Rattle.std.proofs.lemmas.List.{length-map, length-take, map-append, take_all, take_more}
use Rattle.std.proofs.lemmas.List.Sums.{count_by-le-length}
use Rattle.std.specs.Global.{Global}
use Rattle.std.specs.Prelude.{IfErr, IfOk, IfSome, IsErrOf, Vec}
use Rattle.std.specs.declared.io.ErrorKind.{ErrorKind}
use Rattle.ans_model.specs.Bytes.{longest_file}
use Rattle.ans_table.specs.declared.finding.Unread.{Unread}
use Rattle.ans_table.specs.declared.finding.Unread.TheVariants as why
use Rattle.ans_check.specs.Run.{HasRead, IsOfOpenFile}
use Rattle.clap.specs.Words.{Text}
use Rattle.ans_model.specs.Text.Words.{texts_of}
use Rattle.ans_save.specs.declared.saves.Saves.{Saves}
use Rattle.ans_write.specs.Puts.{HandsOn, Puts, device_failed, device_of, outbox_size, waiting_of}
use Rattle.ans_write.specs.Tried.{call_count, has_failed, inner_of}
use Rattle.ans_write.specs.Writes.{AppendsUnless}
use Rattle.ans_write.specs.declared.outbox.Outbox.{Outbox}
use Rattle.ans_write.specs.declared.tried.Tried.{Tried}
use Rattle.ans_write.proofs.PutsLemmas.{Appends-put, AppendsPrefix-put, HandsOn-put, HandsOn-then, Puts-nothing}
use Rattle.ans_written.specs.Outcomes.{counts_of, is_changed, is_not_done, is_not_read, is_not_written, is_to_write}
use Rattle.ans_written.specs.Outcomes.{is_unchanged}
use Rattle.ans_written.specs.declared.counts.FileCounts.{FileCounts}
use Rattle.ans_written.specs.declared.counts.FileOutcome.{FileOutcome}
use Rattle.ans_save.specs.Names.{Name}
use Rattle.ans_save.specs.declared.disk.Found.{Found}
use Rattle.ans_check.specs.Fates.{AreFiled, AreFiledIn, AreNotFiled, Begins, EachBecame, all_said, ending_of_files}
use Rattle.ans_check.specs.Fates.{FileTold, IsGivenByInput, SaysFate, given_of, inputs_named}
use Rattle.ans_check.specs.Said.{IsNamed, Tells}
use Rattle.ans_check.specs.Naming.{unnamed}
use Rattle.ans_check.specs.declared.errors.RunError.TheVariants as error
use Rattle.ans_check.specs.declared.exit_status.Ending.{Ending}
use Rattle.ans_check.specs.declared.exit_status.Ending.TheVariants as ends
use Rattle.ans_check.specs.declared.fates.Fate.{Fate}
use Rattle.ans_check.specs.declared.fates.Goal.{Goal}

abbrev names_of : List FileTold → List Text
names_of files = map (λ file. file.name) files

abbrev texts : List FileTold → List ℕ
texts files = flat_map (λ file. file.text) files

abbrev outcomes : List FileTold → List FileOutcome
outcomes files = map (λ file. file.result.outcome) files

module _ {D : Type 0} (became : Text → D → D → Saves → Saves → Fate → Type 0) (several : Bool) where
  -- one file more was dealt with
  pub each_more : (files : List FileTold) (file : FileTold) (a b c : D) (s t u : Saves)
      → EachBecame became several files a b s t → became file.name b c t u file.result
      → SaysFate several file.name file.result file.text → EachBecame became several (files ++ file ∷ []) a c s u
  each_more [] file a b c s t u h one says = (
    c,
    u,
    subst (λ (d : D). became file.name d c s u file.result) h.0
        (subst (λ (v : Saves). became file.name b c v u file.result) h.1 one),
    says,
    (refl, refl),
  )
  each_more (first ∷ files) file a b c s t u (next, between, did, told, rest) one says =
      (next, between, did, told, each_more files file next b c between t u rest one says)

module _ {D E : Type 0} (contents : E → Option (List ℕ)) (became : Text → D → D → Saves → Saves → Fate → Type 0)
    (names : List (Bor Text)) where
  -- the first i files were dealt with, and counted
  pub record FiledFirst (i : ℕ) (old new : D) (saves after : Saves) (out out_after : Outbox E) (counts : FileCounts)
      : Type 0 where
    pub files : List FileTold
    pub named : texts_of (take i names) ≡ names_of files
    pub each : EachBecame became (nat_lt 1 (length (texts_of names))) files old new saves after
    pub handed : HandsOn contents out out_after (texts files)
    pub counted : counts ≡ counts_of (outcomes files)

  pub none_filed : (disk : D) (saves : Saves) (out : Outbox E) (counts : FileCounts) → counts ≡ counts_of []
      → FiledFirst 0 disk disk saves saves out out counts
  none_filed disk saves out counts is = record {
    files = [];
    named = refl;
    each = (refl, refl);
    handed = (Puts-nothing {contents = contents} out).hands_on;
    counted = is;
  }

  -- no more were counted than there are names
  pub record FiledWithin (i : ℕ) (counts : FileCounts) : Type 0 where
    pub files : counts.files ≤ i
    pub changed : counts.changed ≤ counts.files
    pub unchanged : counts.unchanged ≤ counts.files
    pub not_done : counts.not_done ≤ counts.files
    pub not_written : counts.not_written ≤ counts.files
    pub not_read : counts.not_read ≤ counts.files
    pub to_write : counts.to_write ≤ counts.files

  pub filed_within : {i : ℕ} {old new : D} {saves after : Saves} {out out_after : Outbox E} {counts : FileCounts}
      → FiledFirst i old new saves after out out_after counts → FiledWithin i counts
  filed_within {i} {old} {new} {saves} {after} {out} {out_after} {counts} h =
      let came = outcomes h.files in
      let size = ap length h.named in
      rw h.counted (record {
        files = omega (
          arith,
          size,
          length-map h.files (λ (file : FileTold). file.name),
          length-map h.files (λ (file : FileTold). file.result.outcome),
          length-map (take i names) (λ (w : Bor Text). w.now),
          length-take i names,
        );
        changed = count_by-le-length is_changed came;
        unchanged = count_by-le-length is_unchanged came;
        not_done = count_by-le-length is_not_done came;
        not_written = count_by-le-length is_not_written came;
        not_read = count_by-le-length is_not_read came;
        to_write = count_by-le-length is_to_write came;
      })

  module _ (i : ℕ) (d : Bor Text) (lt : i < length names) where
    next_names : texts_of (take (i + 1) names) ≡ texts_of (take i names) ++ (get_or names i d).now ∷ []
    next_names = ap texts_of (take_more names i d lt) ∙ map-append _ (take i names) (get_or names i d ∷ [])

    -- one more was dealt with
    pub one_filed : {old between new : D} {saves then after : Saves} {out b c : Outbox E} {counts more : FileCounts}
        (result : Fate) (text : List ℕ) → FiledFirst i old between saves then out b counts
        → became (get_or names i d).now between new then after result
        → SaysFate (nat_lt 1 (length (texts_of names))) (get_or names i d).now result text → HandsOn contents b c text
        → ((before : List FileOutcome) → counts ≡ counts_of before
        → more ≡ counts_of (before ++ result.outcome ∷ []))
        → FiledFirst (i + 1) old new saves after out c more
    one_filed {old} {between} {new} {saves} {then} {after} {out} {b} {c} {counts} {more} result text h did says handed
        adds =
        let name = (get_or names i d).now in
        let file : FileTold = record { name = name; result = result; text = text } in
        let joined : texts (h.files ++ file ∷ []) ≡ texts h.files ++ text =
        flat_map-append (λ (f : FileTold). f.text) h.files (file ∷ [])
        ∙ ap (λ (v : List ℕ). texts h.files ++ v) (append-nil text) in
        record {
          files = h.files ++ file ∷ [];
          named = next_names ∙ ap (λ (v : List Text). v ++ name ∷ []) h.named
              ∙ sym (map-append (λ (f : FileTold). f.name) h.files (file ∷ []));
          each = each_more became _ h.files file old between new saves then after h.each did says;
          handed = subst (λ (v : List ℕ). HandsOn contents out c v) (sym joined) (HandsOn-then h.handed handed);
          counted = adds (outcomes h.files) h.counted
              ∙ sym (ap counts_of (map-append (λ (f : FileTold). f.result.outcome) h.files (file ∷ [])));
        }

  -- all were dealt with
  pub all_filed : {i : ℕ} {old new : D} {saves after : Saves} {out out_after : Outbox E} {counts : FileCounts}
      → length names ≤ i → FiledFirst i old new saves after out out_after counts
      → AreFiledIn contents became (texts_of names) old new saves after out out_after counts
  all_filed {i} all h = record {
    files = h.files;
    named = sym h.named ∙ ap texts_of (take_all i names all);
    each = h.each;
    handed = h.handed;
    counted = h.counted;
  }

-- what was handed on from an empty outbox and finished was taken
tells_unless : {E : Type 0} {contents : E → Option (List ℕ)} {a c : Outbox E} {text : List ℕ} {T F : Type 0}
    (r : Result T F) (failed : Bool) → device_failed c ≡ failed → waiting_of a ≡ [] → HandsOn contents a c text
    → IsErr r ↔ IsTrue failed → OnOk r (waiting_of c ≡ [])
    → AppendsUnless failed (contents (inner_of (device_of a))) (contents (inner_of (device_of c))) text
tells_unless r true at none handed device empty = AppendsPrefix-put none handed
tells_unless (Ok v) false at none handed device empty = Appends-put none handed at empty
tells_unless (Err e) false at none handed device empty = absurd (true≢false (sym (device.0 refl)))

pub tells_handed : {E : Type 0} {contents : E → Option (List ℕ)} {a c : Outbox E} {text : List ℕ} {T F : Type 0}
    (errors : Tried E) (r : Result T F) → device_of a ≡ errors → waiting_of a ≡ [] → HandsOn contents a c text
    → IsErr r ↔ IsTrue (device_failed c) → OnOk r (waiting_of c ≡ []) → Tells contents errors (device_of c) text
tells_handed {E} {contents} {a} {c} {text} errors r is none handed device empty =
    subst (λ (d : Tried E). Tells contents d (device_of c) text) is
    (tells_unless r (device_failed c) refl none handed device empty)

-- ---- what is read
module _ {R : Type 0} (remaining : R → Option (List ℕ)) (is_file : Text → R → Type 0) (is_standard : R → Type 0)
    (fails : Text → ErrorKind → Type 0) (name : Text) (reader after : Tried R) where
  -- what was read of an input that was opened
  pub given_input : (r : Result (Vec ℕ Global) Unread) → IsNamed is_file is_standard (Some name) (inner_of reader)
      → call_count reader ≡ 0
      → IfOk r (λ v. HasRead (remaining (inner_of reader)) (remaining (inner_of after)) v.items)
      → IfErr r IsOfOpenFile → IsErrOf r why.ReadFailed ↔ IsTrue (has_failed after)
      → IfSome (remaining (inner_of reader)) (λ xs. IfSome (remaining (inner_of after)) (λ ys.
      IsErrOf r why.TooLong ↔ (longest_file + length ys < length xs)))
      → IsGivenByInput remaining is_file is_standard fails name (given_of r)
  given_input (Ok file) input calls read reading device long =
      record { reader = reader; reader_after = after; input = input; unread = calls; gave = read }
  given_input (Err (why.Unopened reason)) input calls read reading device long = absurd reading
  given_input (Err why.NameNotText) input calls read reading device long = absurd reading
  given_input (Err why.ReadFailed) input calls read reading device long =
      record { reader = reader; reader_after = after; input = input; unread = calls; gave = device.0 refl }
  given_input (Err why.TooLong) input calls read reading device long =
      record {
        reader = reader;
        reader_after = after;
        input = input;
        unread = calls;
        gave = go (remaining (inner_of reader)) (remaining (inner_of after)) long;
      }
    where
      go : (a b : Option (List ℕ)) → IfSome a (λ xs. IfSome b (λ ys.
          IsErrOf {T = Vec ℕ Global} (Err why.TooLong) why.TooLong ↔ (longest_file + length ys < length xs)))
          → IfSome a (λ xs. IfSome b (λ ys. longest_file + length ys < length xs))
      go None b h = tt
      go (Some xs) None h = tt
      go (Some xs) (Some ys) h = h.0 refl
  given_input (Err why.Memory) input calls read reading device long =
      record { reader = reader; reader_after = after; input = input; unread = calls; gave = tt }

-- ---- names
-- the inputs are those that are named, if there are any
pub named_some : (names : List Text) → 1 ≤ length names → inputs_named names ≡ names
named_some [] some = absurd (omega arith)
named_some (name ∷ names) some = refl

-- and else standard input
pub named_none : (names : List Text) → length names ≤ 0 → inputs_named names ≡ codes "-" ∷ []
named_none [] none = refl
named_none (name ∷ names) none = absurd (omega arith)

-- ---- the end of all files
module _ {D E : Type 0} (sees : D → Name → Option Found → Type 0) (looks_fail : D → Name → ErrorKind → Type 0)
    (told : E → Option (List ℕ)) (became : Text → D → D → Saves → Saves → Fate → Type 0) (goal : Goal)
    (names : List Text) (old new : D) (errors errors_after : Tried E) (a b c d : Outbox E) {T F G : Type 0}
    (finished : Result T F)
    (ending : Ending) (device : device_of a ≡ errors) (empty : waiting_of a ≡ [])
    (puts : Puts told b c (all_said unnamed ending)) (handed : HandsOn told c d [])
    (failed : IsErr finished ↔ IsTrue (device_failed d)) (done : OnOk finished (waiting_of d ≡ []))
    (same : device_of d ≡ errors_after) where
  -- all files were dealt with, or there was no memory for their names
  pub filed_named : (r : Result FileCounts G) → ending ≡ ending_of_files r
      → IfOk r (λ counts. (saves : Saves) × (after : Saves) × Begins sees looks_fail goal names old saves
      × AreFiledIn told became names old new saves after a b counts)
      → OnErr r ((new ≡ old) × (b ≡ a))
      → AreFiled sees looks_fail told became goal names old new errors errors_after ending
      ⊎ AreNotFiled told old new errors errors_after ending
  filed_named (Ok counts) is (saves, after, begins, filed) none = inl (record {
    files = filed.files;
    named = filed.named;
    saves = saves;
    after = after;
    begins = begins;
    each = filed.each;
    ends = is ∙ ap ends.Filed filed.counted;
    says = subst
        (λ (e : Tried E). Tells told errors e (flat_map (λ file. file.text) filed.files ++ all_said unnamed ending))
        same
        (tells_handed errors finished device empty (HandsOn-then filed.handed (HandsOn-put puts handed)) failed done);
  })
  filed_named (Err e) is none (untouched, still) =
      let told_all : Puts told a c (all_said unnamed ending) =
      subst (λ (o : Outbox E). Puts told o c (all_said unnamed ending)) still puts in
      inr (record {
        untouched = untouched;
        ends = is;
        says = subst (λ (e : Tried E). Tells told errors e (all_said unnamed ending)) same
            (tells_handed errors finished device empty (HandsOn-put told_all handed) failed done);
      })

-- that ending is not a failed write
pub never_unwritten : {G : Type 0} (r : Result FileCounts G) (ending : Ending) → ending ≡ ending_of_files r
    → ending ≡ ends.Run (Err error.Write) → ⊥
never_unwritten (Ok counts) ending is e = cc
never_unwritten (Err g) ending is e = cc

-- ---- a text that waits
module _ {W : Type 0} {contents : W → Option (List ℕ)} (begun held : Outbox W) (text : List ℕ)
    (none : waiting_of begun ≡ []) (puts : Puts contents begun held text) where
  -- an outbox has no room for a text that made its device fail
  pub too_long : device_failed begun ≡ false → device_failed held ≡ true → nat_le (length text) outbox_size ≡ false
  too_long works failed = go (nat_le (length text) outbox_size) refl
    where
      go : (fits : Bool) → nat_le (length text) outbox_size ≡ fits → nat_le (length text) outbox_size ≡ false
      go false at = at
      go true at =
          let le : length text ≤ outbox_size = grind (arith, nat_tests, at) in
          let size : length (waiting_of begun) ≡ 0 = ap length none in
          let same : device_of held ≡ device_of begun = puts.spares works (omega (arith, size, le)) in
          absurd (true≢false (sym failed ∙ ap (λ (d : Tried W). has_failed d) same ∙ works))

  -- a text waits whole at a device that takes no byte
  pub waits_whole : ((w : W) → contents w ≡ Some []) → device_failed held ≡ false → waiting_of held ≡ text
  waits_whole takes_none works =
      let h = puts.hands_on in
      let appended : Appends (Some []) (Some []) h.taken =
      rw (takes_none (inner_of (device_of begun)), takes_none (inner_of (device_of held))) at h.appended in
      let taken : h.taken ≡ [] = sym appended in
      h.waits works ∙ ap (λ (v : List ℕ). v ++ h.rest) (sym taken) ∙ h.whole ∙ ap (λ (v : List ℕ). v ++ text) none
