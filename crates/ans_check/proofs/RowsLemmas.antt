-- Rows after rows, and the text before them.
use Rattle.std.proofs.Common.{◌≡◌, ◌∙◌, ℕ, ◌+◌, ◌≤◌, List, [], ◌∷◌, ◌++◌, length, take, All, Option, Some, None, Result}
use Rattle.std.proofs.Common.{Ok, Err, inr, true≢false, refl, sym, ap, subst, arith, append-nil, length-append}
use Rattle.std.proofs.Common.{◌<◌, drop, get_or, map}
use Rattle.std.specs.Borrow.{Bor}
use Rattle.std.specs.Io.KnownBytes.{Appends}
use Rattle.std.proofs.KnownBytes.{Appends-nil, Appends-trans}
use Rattle.std.proofs.lemmas.List.{length-map, length-take, take_all, take_more, take-append-drop, take-append-le}
use Rattle.std.proofs.lemmas.List.{map-append}
use Rattle.std.proofs.Math.Seq.{take-append-add}
use Rattle.std.proofs.lemmas.List.Elements.{All-nil, All-push}
use Rattle.std.proofs.lemmas.Grind.{flat_map-append}
use Rattle.clap.specs.Words.{Text}
use Rattle.ans_model.specs.Bytes.{longest_file}
use Rattle.ans_table.specs.declared.counts.Counts.{Counts}
use Rattle.ans_table.specs.declared.counts.Outcome.{Outcome}
use Rattle.ans_model.specs.Text.Words.{texts_of}
use Rattle.std.proofs.lemmas.List.Sums.{count_by-le-length}
use Rattle.ans_table.specs.Counting.{counts_of, is_cleared, counts_as_pass, is_refused, is_unread}
use Rattle.std.specs.Prelude.{Bool, IfSome, IsErr, IsErrOf, IsTrue, OnOk, Vec, false, true, ◌↔◌}
use Rattle.std.specs.Global.{Global}
use Rattle.ans_table.specs.declared.finding.Unread.TheVariants as why
use Rattle.std.specs.List.{flat_map}
use Rattle.ans_check.specs.declared.errors.RunError.{RunError}
use Rattle.ans_check.specs.declared.errors.RunError.TheVariants as error
use Rattle.ans_table.specs.declared.finding.Unread as unread
use Rattle.ans_check.specs.FileRows.{Given, IsGivenByName, MayEndRows, TellsNamed, Told, WritesRows}
use Rattle.ans_check.specs.Rows.{EndsRows, IsReady, WritesOut, WritesRow}
use Rattle.ans_check.specs.Run.{HasRead, IsOfOpenFile}
use Rattle.ans_write.specs.Tried.{call_count, has_failed, inner_of}
use Rattle.ans_write.specs.Puts.{HandsOn, Puts, device_failed, device_of, waiting_of}
use Rattle.ans_write.specs.Writes.{AppendsPrefix}
use Rattle.ans_write.specs.declared.outbox.Outbox.{Outbox}
use Rattle.ans_write.specs.declared.outbox.WriteFault.{WriteFault}
use Rattle.ans_write.proofs.PutsLemmas.{WritesText-finished}
use Rattle.ans_write.specs.declared.tried.Tried.{Tried}
use Rattle.std.specs.declared.io.ErrorKind.{ErrorKind}

-- ---- files
module _ {R : Type 0} (remaining : R → Option (List ℕ)) (is_file : Text → R → Type 0)
    (fails : Text → ErrorKind → Type 0) (name : Text) (reader after : Tried R) where
  -- a file that was read to its end
  pub was_read : (file : List ℕ) → is_file name (inner_of reader) → call_count reader ≡ 0
      → HasRead (remaining (inner_of reader)) (remaining (inner_of after)) file
      → IsGivenByName remaining is_file fails name (Ok file)
  was_read file input calls read =
      record { reader = reader; reader_after = after; input = input; unread = calls; gave = read }

  -- a file that was not read to its end
  pub not_read : (e : unread.Unread) → is_file name (inner_of reader) → call_count reader ≡ 0 → IsOfOpenFile e
      → IsErrOf {T = Vec ℕ Global} (Err e) why.ReadFailed ↔ IsTrue (has_failed after)
      → IfSome (remaining (inner_of reader)) (λ xs. IfSome (remaining (inner_of after)) (λ ys.
      IsErrOf {T = Vec ℕ Global} (Err e) why.TooLong ↔ (longest_file + length ys < length xs)))
      → IsGivenByName remaining is_file fails name (Err e)
  not_read (why.Unopened reason) input calls reading device long = absurd reading
  not_read why.NameNotText input calls reading device long = absurd reading
  not_read why.ReadFailed input calls reading device long =
      record { reader = reader; reader_after = after; input = input; unread = calls; gave = device.0 refl }
  not_read why.TooLong input calls reading device long =
      record {
        reader = reader;
        reader_after = after;
        input = input;
        unread = calls;
        gave = go (remaining (inner_of reader)) (remaining (inner_of after)) long;
      }
    where
      go : (a b : Option (List ℕ)) → IfSome a (λ xs. IfSome b (λ ys.
          IsErrOf {T = Vec ℕ Global} (Err why.TooLong) why.TooLong ↔ (longest_file + length ys < length xs)))
          → IfSome a (λ xs. IfSome b (λ ys. longest_file + length ys < length xs))
      go None b h = tt
      go (Some xs) None h = tt
      go (Some xs) (Some ys) h = h.0 refl
  not_read why.Memory input calls reading device long =
      record { reader = reader; reader_after = after; input = input; unread = calls; gave = tt }

-- ---- texts
-- a prefix of a text is one of a longer text
pub prefix_of_longer : (a b : Option (List ℕ)) (text more : List ℕ) → AppendsPrefix a b text
    → AppendsPrefix a b (text ++ more)
prefix_of_longer a b text more (n, within, h) = (
  n,
  omega (arith, within, length-append text more),
  subst (λ (v : List ℕ). Appends a b v) (sym (take-append-le n text more within)) h,
)

-- a prefix after a text that was written
pub prefix_behind : (a b c : Option (List ℕ)) (front text : List ℕ) → Appends a b front → AppendsPrefix b c text
    → AppendsPrefix a c (front ++ text)
prefix_behind a b c front text h (n, within, g) = (
  length front + n,
  omega (arith, within, length-append front text),
  subst (λ (v : List ℕ). Appends a c v) (sym (take-append-add front text n))
      (Appends-trans a b c front (take n text) h g),
)

-- ---- ends
-- a device has not failed where that would mean an error, and there is none
works_at_ok : (failed : Bool) → (false ≡ true) ↔ IsTrue failed → failed ≡ false
works_at_ok false device = refl
works_at_ok true device = absurd (true≢false (sym (device.1 refl)))

-- all is ready
pub ends_ok : {W T : Type 0} {MayEnd : RunError → Type 0} {old new : Outbox W} (v : T) → IsReady new
    → new.device.ghost_name ≡ old.device.ghost_name → EndsRows MayEnd old new (Ok v)
ends_ok v ready same = record {
  same_device = same;
  device = (λ e. absurd (cc), λ failed. absurd (true≢false (sym failed ∙ ready.1)));
  errors = tt;
  ready = ready;
}

-- what is one error of a result is one of another
pub err_as : {T U : Type 0} {e f : RunError} → IsErrOf {T = T} (Err e) f → IsErrOf {T = U} (Err e) f
err_as {T} {U} {e} {f} is = let same : e ≡ f = cc in rw same refl

-- one error ends what is around it too
pub ends_err : {W T U : Type 0} {MayEnd : RunError → Type 0} {old between new : Outbox W} {e : RunError}
    → between.device.ghost_name ≡ old.device.ghost_name → EndsRows {T = T} MayEnd between new (Err e)
    → EndsRows {T = U} MayEnd old new (Err e)
ends_err {W} {T} {U} {MayEnd} {old} {between} {new} {e} same h = record {
  same_device = h.same_device ∙ same;
  device = (λ is. h.device.0 (err_as is), λ failed. err_as (h.device.1 failed));
  errors = h.errors;
  ready = tt;
}

-- ---- rows
abbrev pub one_row : Text → Outcome → List ℕ → Told
one_row name outcome text = record { name = name; outcome = outcome; text = text }

abbrev pub texts : List Told → List ℕ
texts rows = flat_map (λ row. row.text) rows

abbrev pub row_names : List Told → List Text
row_names rows = map (λ row. row.name) rows

abbrev pub outcomes : List Told → List Outcome
outcomes rows = map (λ row. row.outcome) rows

module _ {W : Type 0} (contents : W → Option (List ℕ)) (tells : Text → Outcome → List ℕ → Type 0)
    (names : List (Bor Text)) where
  -- the rows of the first i names were written, and counted
  pub record TellsFirst (i : ℕ) (output output_after : Tried W) (counts : Counts) : Type 0 where
    pub rows : List Told
    pub each : All (λ row. tells row.name row.outcome row.text) rows
    pub written : Appends (contents (inner_of output)) (contents (inner_of output_after)) (texts rows)
    pub named : texts_of (take i names) ≡ row_names rows
    pub counted : counts ≡ counts_of (outcomes rows)

  pub none_told : (output : Tried W) (counts : Counts) → counts ≡ counts_of [] → TellsFirst 0 output output counts
  none_told output counts is = record {
    rows = [];
    each = All-nil (λ (row : Told). tells row.name row.outcome row.text);
    written = Appends-nil (contents (inner_of output));
    named = refl;
    counted = is;
  }

  -- no more were counted than there are names
  pub record CountedWithin (i : ℕ) (counts : Counts) : Type 0 where
    pub files : counts.files ≤ i
    pub pass : counts.pass ≤ counts.files
    pub cleared : counts.cleared ≤ counts.files
    pub refused : counts.refused ≤ counts.files
    pub unread : counts.unread ≤ counts.files

  pub counted_within : (i : ℕ) (output after : Tried W) (counts : Counts) → TellsFirst i output after counts
      → CountedWithin i counts
  counted_within i output after counts h =
      let came = outcomes h.rows in
      let size = ap length h.named in
      rw h.counted (record {
        files = omega (
          arith,
          size,
          length-map h.rows (λ (row : Told). row.name),
          length-map h.rows (λ (row : Told). row.outcome),
          length-map (take i names) (λ (w : Bor Text). w.now),
          length-take i names,
        );
        pass = count_by-le-length counts_as_pass came;
        cleared = count_by-le-length is_cleared came;
        refused = count_by-le-length is_refused came;
        unread = count_by-le-length is_unread came;
      })

  module _ (i : ℕ) (d : Bor Text) (output : Tried W) (between : Outbox W) (counts : Counts)
      (h : TellsFirst i output (device_of between) counts) (lt : i < length names) where
    next_names : texts_of (take (i + 1) names) ≡ texts_of (take i names) ++ (get_or names i d).now ∷ []
    next_names = ap texts_of (take_more names i d lt) ∙ map-append _ (take i names) (get_or names i d ∷ [])

    module _ (outcome : Outcome) (text : List ℕ) (told : tells (get_or names i d).now outcome text) where
      abbrev next : List Told
      next = h.rows ++ one_row (get_or names i d).now outcome text ∷ []

      next_each : All (λ row. tells row.name row.outcome row.text) next
      next_each = All-push (λ (row : Told). tells row.name row.outcome row.text) h.rows _ h.each told

      next_named : texts_of (take (i + 1) names) ≡ row_names next
      next_named = next_names ∙ ap (λ (v : List Text). v ++ (get_or names i d).now ∷ []) h.named
          ∙ sym (map-append (λ (row : Told). row.name) h.rows (one_row (get_or names i d).now outcome text ∷ []))

      next_outcomes : outcomes next ≡ outcomes h.rows ++ outcome ∷ []
      next_outcomes = map-append (λ (row : Told). row.outcome) h.rows _

      next_text : texts next ≡ texts h.rows ++ text
      next_text = flat_map-append (λ (row : Told). row.text) h.rows _
          ∙ ap (λ (v : List ℕ). texts h.rows ++ v) (append-nil text)

    -- one more row was written
    pub one_more : (MayEnd : RunError → Type 0) (after : Outbox W) (outcome : Outcome) (more : Counts)
        → WritesRow contents MayEnd (tells (get_or names i d).now) between after (Ok outcome)
        → ((before : List Outcome) → counts ≡ counts_of before → more ≡ counts_of (before ++ outcome ∷ []))
        → TellsFirst (i + 1) output (device_of after) more
    one_more MayEnd after outcome more w adds = record {
      rows = next w.outcome w.text w.told;
      each = next_each w.outcome w.text w.told;
      written = subst
          (λ (v : List ℕ). Appends (contents (inner_of output)) (contents (inner_of (device_of after))) v)
          (sym (next_text w.outcome w.text w.told))
          (Appends-trans _ _ _ (texts h.rows) w.text h.written
          w.row.written);
      named = next_named w.outcome w.text w.told;
      counted = adds (outcomes h.rows) h.counted
          ∙ ap (λ (o : Outcome). counts_of (outcomes h.rows ++ o ∷ [])) w.is
          ∙ sym (ap counts_of (next_outcomes w.outcome w.text w.told));
    }

    -- the device failed at one more
    pub cut_off : (MayEnd : RunError → Type 0) (after : Outbox W) (fault : RunError)
        → WritesRow contents MayEnd (tells (get_or names i d).now) between after (Err fault)
        → WritesRows contents tells [] (texts_of names) output (device_of after) (Err fault)
    cut_off MayEnd after fault w = record {
      rows = next w.outcome w.text w.told;
      each = next_each w.outcome w.text w.told;
      written = subst
          (λ (v : List ℕ). AppendsPrefix (contents (inner_of output)) (contents (inner_of (device_of after))) v)
          (sym (next_text w.outcome w.text w.told))
          (prefix_behind _ _ _ (texts h.rows) w.text h.written
          w.row.written);
      later = texts_of (drop (i + 1) names);
      named = sym (ap texts_of (take-append-drop (i + 1) names))
          ∙ map-append _ (take (i + 1) names) (drop (i + 1) names)
          ∙ ap (λ (v : List Text). v ++ texts_of (drop (i + 1) names)) (next_named w.outcome w.text w.told);
      all = tt;
    }

  -- all were written
  pub all_told : (i : ℕ) (output after : Tried W) (counts : Counts) → TellsFirst i output after counts
      → length names ≤ i → WritesRows contents tells [] (texts_of names) output after (Ok counts)
  all_told i output after counts h all = record {
    rows = h.rows;
    each = h.each;
    written = h.written;
    later = [];
    named = sym (ap texts_of (take_all i names all)) ∙ h.named ∙ sym (append-nil (row_names h.rows));
    all = (refl, h.counted);
  }

-- ---- the text before the rows
module _ {W : Type 0} (contents : W → Option (List ℕ)) (tells : Text → Outcome → List ℕ → Type 0)
    (text : List ℕ) (names : List Text) (output between after : Tried W) where
  pub rows_behind : (result : Result Counts RunError)
      → Appends (contents (inner_of output)) (contents (inner_of between)) text
      → WritesRows contents tells [] names between after result
      → WritesRows contents tells text names output after result
  rows_behind (Ok counts) h w = record {
    rows = w.rows;
    each = w.each;
    written = Appends-trans _ _ _ text (texts w.rows) h w.written;
    later = w.later;
    named = w.named;
    all = w.all;
  }
  rows_behind (Err fault) h w = record {
    rows = w.rows;
    each = w.each;
    written = prefix_behind _ _ _ text (texts w.rows) h w.written;
    later = w.later;
    named = w.named;
    all = tt;
  }

  -- the device failed at the text
  pub text_cut_off : (fault : RunError)
      → AppendsPrefix (contents (inner_of output)) (contents (inner_of after)) text
      → WritesRows contents tells text names output after (Err fault)
  text_cut_off fault h = record {
    rows = [];
    each = All-nil (λ (row : Told). tells row.name row.outcome row.text);
    written = prefix_of_longer _ _ text [] h;
    later = names;
    named = refl;
    all = tt;
  }

-- ---- what was put is written
module _ {W T : Type 0} {contents : W → Option (List ℕ)} {MayEnd : RunError → Type 0} {text : List ℕ}
    (a b c : Outbox W) (r : Result Unit WriteFault) (ready : IsReady a) (puts : Puts contents a b text)
    (handed : HandsOn contents b c []) (device : IsErr r ↔ IsTrue (device_failed c))
    (empty : OnOk r (waiting_of c ≡ [])) where
  pub out_whole : (v : T) (done : Unit {0}) → r ≡ Ok done → WritesOut contents MayEnd text a c (Ok v)
  out_whole v done is =
      let works : device_failed c ≡ false = works_at_ok (device_failed c) (rw is at device) in
      record {
        ends = ends_ok v (rw is at empty, works) (handed.same_device ∙ puts.hands_on.same_device);
        written = rw is at (WritesText-finished (device_of a) r refl ready.0 puts handed device empty);
      }

  pub out_in_part : (fault : WriteFault) → r ≡ Err fault → MayEnd error.Write
      → WritesOut {T = T} contents MayEnd text a c (Err error.Write)
  out_in_part fault is may =
      record {
        ends = record {
          same_device = handed.same_device ∙ puts.hands_on.same_device;
          device = (λ e. (rw is at device).0 refl, λ failed. refl);
          errors = may;
          ready = tt;
        };
        written = rw is at (WritesText-finished (device_of a) r refl ready.0 puts handed device empty);
      }

-- for want of memory nothing was
pub out_of_memory : {W T : Type 0} {contents : W → Option (List ℕ)} {may_lack : Type 0} {text : List ℕ}
    (a b : Outbox W) → IsReady a → may_lack → b ≡ a
    → WritesOut {T = T} contents (MayEndRows may_lack) text a b (Err error.Memory)
out_of_memory {W} {T} {contents} {may_lack} {text} a b ready may same = rw same (record {
  ends = record {
    same_device = refl;
    device = (λ e. absurd (cc), λ failed. absurd (true≢false (sym failed ∙ ready.1)));
    errors = inr (refl, may);
    ready = tt;
  };
  written = (0, omega arith, Appends-nil (contents (inner_of (device_of a))));
})

-- a text that was written of what was read of a file is written of the file of its name
pub row_of_named : {R W : Type 0} {remaining : R → Option (List ℕ)} {is_file : Text → R → Type 0}
    {fails : Text → ErrorKind → Type 0} {tells : Text → Given → Outcome → List ℕ → Type 0} {name : Text}
    {contents : W → Option (List ℕ)} {MayEnd : RunError → Type 0} {old new : Outbox W}
    {result : Result Outcome RunError}
    (given : Given) → IsGivenByName remaining is_file fails name given
    → WritesRow contents MayEnd (tells name given) old new result
    → WritesRow contents MayEnd (TellsNamed remaining is_file fails tells name) old new result
row_of_named given is_given w = record {
  outcome = w.outcome;
  text = w.text;
  told = record { given = given; is_given = is_given; told = w.told };
  row = w.row;
  is = w.is;
}
