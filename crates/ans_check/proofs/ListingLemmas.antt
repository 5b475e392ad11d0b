-- Names by the first that 00h ends, and the texts of their files.
use Rattle.std.proofs.Common.{◌≡◌, ◌∙◌, ℕ, ◌+◌, ◌≤◌, ◌<◌, Bool, true, false, not, cond, List, [], ◌∷◌, ◌++◌}
use Rattle.std.proofs.Common.{◌-◌, length, take, drop, get_or, map, All, Option, Some, None, refl, sym, ap, arith}
use Rattle.std.proofs.Common.{append-nil, append_assoc, length-append, subst, Ok, Err, Result, inl, inr, true≢false}
use Rattle.std.specs.Prelude.{◌↔◌, ◌&&◌, ◌==◌, IfErr, IfNone, OnOk, if◌then◌else◌, nat_lt}
use Rattle.std.specs.Io.KnownBytes.{Appends, Consumes}
use Rattle.std.proofs.KnownBytes.{Appends-nil, Appends-trans, Consumes-nil, Consumes-trans}
use Rattle.std.specs.List.{position, position_or_len, slice_split}
use Rattle.std.proofs.lemmas.Bool.Decides.{nat_tests}
use Rattle.std.proofs.lemmas.Grind.{common_steps, flat_map-append}
use Rattle.std.proofs.lemmas.List.{drop-drop, map-append, take_rest}
use Rattle.std.proofs.lemmas.List.Elements.{All-append, All-from_get_or, All-nil, All-push}
use Rattle.std.proofs.lemmas.List.Splits.{length-slice_split, slice_split_at, slice_split_none}
use Rattle.std.proofs.lemmas.List.Sums.{count_by-le-length}
use Rattle.std.proofs.lemmas.List.Sums.{fails_before_first, passes_at_first, prefix_len_passes, split_at_first}
use Rattle.std.proofs.lemmas.Result.{IfErr-weaker}
use Rattle.clap.specs.Words.{Text}
use Rattle.ans_table.specs.declared.counts.Outcome.{Outcome}
use Rattle.ans_table.specs.declared.counts.Counts.{Counts}
use Rattle.ans_table.specs.Counting.{counts_of, counts_as_pass, is_cleared, is_refused, is_unread}
use Rattle.ans_write.specs.Puts.{device_of}
use Rattle.ans_write.specs.Tried.{inner_of}
use Rattle.ans_write.specs.Writes.{AppendsPrefix}
use Rattle.ans_write.specs.declared.outbox.Outbox.{Outbox}
use Rattle.ans_write.specs.declared.tried.Tried.{Tried}
use Rattle.ans_check.specs.FileRows.{MayEndRows, Told, WritesRows}
use Rattle.ans_check.specs.Listing.{IsFirstName, IsPlain, IsSound, TakesIn, TakesOrEnds, ends_name, held_of, last_end}
use Rattle.ans_check.specs.Listing.{MayEndListing, WritesListed, counts_listed, named_by, names_in}
use Rattle.ans_check.specs.Rows.{EndsRows, IsReady, WritesRow}
use Rattle.ans_check.specs.declared.errors.RunError.{RunError}
use Rattle.ans_check.specs.declared.errors.RunError.TheVariants as error
use Rattle.ans_check.specs.declared.listing.Listed.{Listed}
use Rattle.ans_check.specs.declared.listing.Listing.{Listing}
use Rattle.ans_check.proofs.RowsLemmas.{ends_err, ends_ok, one_row, outcomes, prefix_behind, row_names, text_cut_off}
use Rattle.ans_check.proofs.RowsLemmas.{rows_behind, texts}

-- ---- the first byte 00h
not_found : (b : Bool) (n : ℕ) → cond b (Some n) None ≡ None → b ≡ false
not_found true n e = cc
not_found false n e = refl

found : (b : Bool) (n k : ℕ) → cond b (Some n) None ≡ Some k → (b ≡ true) × (n ≡ k)
found true n k e = (refl, cc)
found false n k e = cc

below : (i n m : ℕ) → nat_lt n m ≡ false → i < m → i < n
below i n m e lt = grind (arith, nat_tests)

less : (n m : ℕ) → nat_lt n m ≡ true → n < m
less n m e = grind (arith, nat_tests)

not_true : (b : Bool) → not b ≡ true → b ≡ false
not_true true e = cc
not_true false e = refl

zero_is : (b : ℕ) → ends_name b ≡ true → b ≡ 0x00
zero_is b e = grind (arith, nat_tests)

-- without it no name ends
pub no_zero : (bytes : List ℕ) → position ends_name bytes ≡ None → IsPlain bytes
no_zero bytes none = All-from_get_or (λ (b : ℕ). ends_name b ≡ false) bytes 0 no_place
  where
    no_place : (i : ℕ) → i < length bytes → ends_name (get_or bytes i 0) ≡ false
    no_place i lt =
        not_true (ends_name (get_or bytes i 0))
        (prefix_len_passes (λ (b : ℕ). not (ends_name b)) bytes i 0
        (below i (position_or_len ends_name bytes) (length bytes)
        (not_found (nat_lt (position_or_len ends_name bytes) (length bytes)) (position_or_len ends_name bytes) none)
        lt))

-- none ends before the first
plain_before : (bytes : List ℕ) → IsPlain (take (position_or_len ends_name bytes) bytes)
plain_before bytes =
    λ k e m.
    let before = fails_before_first ends_name bytes k e (grind (arith, common_steps)) in grind (arith, common_steps)

-- where it is, a name ends
pub zero_cut : (bytes front back : List ℕ) (end : ℕ) → position ends_name bytes ≡ Some end → front ≡ take end bytes
    → back ≡ drop end bytes → IsFirstName bytes front (take (length back - 1) (drop 1 back))
zero_cut bytes front back end at front_is back_is =
    let place = position_or_len ends_name bytes in
    let both = found (nat_lt place (length bytes)) place end at in
    let within : place < length bytes = less place (length bytes) both.0 in
    let more_is : take (length back - 1) (drop 1 back) ≡ drop (place + 1) bytes =
    take_rest back 1 ∙ ap (λ (v : List ℕ). drop 1 v) back_is ∙ drop-drop 1 end bytes
    ∙ ap (λ (n : ℕ). drop (n + 1) bytes) (sym both.1) in
    let name_is : front ≡ take place bytes = front_is ∙ ap (λ (n : ℕ). take n bytes) (sym both.1) in
    let zero : get_or bytes place 0 ≡ 0x00 =
    zero_is (get_or bytes place 0) (passes_at_first ends_name bytes 0 within) in
    let parts : bytes ≡ take place bytes ++ (0x00 ∷ drop (place + 1) bytes) =
    split_at_first ends_name bytes 0 within
    ∙ ap (λ (b : ℕ). take place bytes ++ (b ∷ drop (place + 1) bytes)) zero in
    rw (more_is, name_is) (record { parts = parts; plain = plain_before bytes })

pub if_none : {X : Type 0} (o : Option X) (P : Type 0) → P → IfNone o P
if_none None P p = p
if_none (Some x) P p = tt

-- ---- names
some_part : (bytes : List ℕ) → 1 ≤ length (slice_split ends_name bytes)
some_part bytes = rw (length-slice_split ends_name bytes) (omega arith)

first_named : (whole : Bool) (name : Text) (parts : List Text) → 1 ≤ length parts
    → named_by whole (name ∷ parts) ≡ name ∷ named_by whole parts
first_named whole name [] none = absurd (omega arith)
first_named whole name (next ∷ parts) some = refl

-- names before others
named_after : (whole : Bool) (names parts : List Text) → 1 ≤ length parts
    → named_by whole (names ++ parts) ≡ names ++ named_by whole parts
named_after whole [] parts some = refl
named_after whole (name ∷ names) parts some =
    first_named whole name (names ++ parts) (omega (arith, some, length-append names parts))
    ∙ ap (λ (v : List Text). name ∷ v) (named_after whole names parts some)

picked_end : (empty : Bool) → empty ≡ false → if◌then◌else◌ {A = List ℕ} empty [] (0x00 ∷ []) ≡ 0x00 ∷ []
picked_end false e = refl
picked_end true e = cc

picked_none : (empty : Bool) → empty ≡ true → if◌then◌else◌ {A = List ℕ} empty [] (0x00 ∷ []) ≡ []
picked_none true e = refl
picked_none false e = cc

picked_name : (empty : Bool) (name : Text) → empty ≡ false → (if true && not empty then name ∷ [] else []) ≡ name ∷ []
picked_name false name e = refl
picked_name true name e = cc

-- what is held is a name if the last byte 00h is put after it
held_named : (held : List ℕ) → IsPlain held
    → named_by false (slice_split ends_name (held ++ last_end held)) ≡ named_by true (slice_split ends_name held)
held_named [] plain = refl
held_named (b ∷ held) plain =
    let some : (length (b ∷ held) == 0) ≡ false = grind (arith, nat_tests) in
    ap (λ (v : List ℕ). named_by false (slice_split ends_name ((b ∷ held) ++ v)))
    (picked_end (length (b ∷ held) == 0) some)
    ∙ ap (named_by false) (slice_split_at ends_name (b ∷ held) 0x00 [] plain refl)
    ∙ sym (picked_name (length (b ∷ held) == 0) (b ∷ held) some)
    ∙ sym (ap (named_by true) (slice_split_none ends_name (b ∷ held) plain))

-- ---- texts
module _ {W : Type 0} (contents : W → Option (List ℕ)) (tells : Text → Outcome → List ℕ → Type 0) where
  -- nothing was taken in
  pub takes_nothing : (listing : Listing) (output : Tried W) → IsSound listing
      → TakesIn contents tells listing [] listing output output
  takes_nothing listing output sound = record {
    rows = [];
    each = All-nil (λ (row : Told). tells row.name row.outcome row.text);
    written = Appends-nil (contents (inner_of output));
    named = λ more. refl;
    counted = λ before is. is ∙ ap counts_of (sym (append-nil before));
    sound = sound;
  }

  -- bytes that end no name
  pub takes_plain : (old new : Listing) (bytes : List ℕ) (output : Tried W) → held_of new ≡ held_of old ++ bytes
      → new.counts ≡ old.counts → IsPlain bytes → IsSound old → TakesIn contents tells old bytes new output output
  takes_plain old new bytes output held same plain sound = record {
    rows = [];
    each = All-nil (λ (row : Told). tells row.name row.outcome row.text);
    written = Appends-nil (contents (inner_of output));
    named = λ more. ap (slice_split ends_name)
        (sym (append_assoc (held_of old) bytes more) ∙ ap (λ (v : List ℕ). v ++ more) (sym held));
    counted = λ before is. same ∙ is ∙ ap counts_of (sym (append-nil before));
    sound = record {
      plain = subst IsPlain (sym held)
          (All-append (λ (b : ℕ). ends_name b ≡ false) (held_of old) bytes sound.plain plain);
      outcomes = sound.outcomes;
      counted = same ∙ sound.counted;
    };
  }

  module _ (name : Text) (outcome : Outcome) (text : List ℕ) (told : tells name outcome text) where
    one_each : All (λ row. tells row.name row.outcome row.text) (one_row name outcome text ∷ [])
    one_each =
        All-push (λ (row : Told). tells row.name row.outcome row.text) [] (one_row name outcome text)
        (All-nil (λ (row : Told). tells row.name row.outcome row.text)) told

  -- the byte that ends what is held
  pub takes_end : {MayEnd : RunError → Type 0} (old new : Listing) (between after : Outbox W) (outcome : Outcome)
      → WritesRow contents MayEnd (tells (held_of old)) between after (Ok outcome) → held_of new ≡ []
      → ((before : List Outcome) → old.counts ≡ counts_of before → new.counts ≡ counts_of (before ++ outcome ∷ []))
      → IsSound old → TakesIn contents tells old (0x00 ∷ []) new (device_of between) (device_of after)
  takes_end old new between after outcome w held adds sound = record {
    rows = one_row (held_of old) w.outcome w.text ∷ [];
    each = one_each (held_of old) w.outcome w.text w.told;
    written = subst
        (λ (v : List ℕ). Appends (contents (inner_of (device_of between))) (contents (inner_of (device_of after))) v)
        (sym (append-nil w.text)) w.row.written;
    named = λ more. slice_split_at ends_name (held_of old) 0x00 more sound.plain refl
        ∙ ap (λ (v : List ℕ). held_of old ∷ slice_split ends_name (v ++ more)) (sym held);
    counted = λ before is. adds before is ∙ ap (λ (o : Outcome). counts_of (before ++ o ∷ [])) w.is;
    sound = record {
      plain = subst IsPlain (sym held) (All-nil (λ (b : ℕ). ends_name b ≡ false));
      outcomes = sound.outcomes ++ outcome ∷ [];
      counted = adds sound.outcomes sound.counted;
    };
  }

  -- the writing ended at its text
  pub ends_at : {MayEnd : RunError → Type 0} (old : Listing) (between after : Outbox W) (e : RunError)
      → WritesRow contents MayEnd (tells (held_of old)) between after (Err e) → IsSound old → (more : List ℕ)
      → WritesRows contents tells [] (names_in false (held_of old ++ ((0x00 ∷ []) ++ more))) (device_of between)
      (device_of after) (Err e)
  ends_at old between after e w sound more = record {
    rows = one_row (held_of old) w.outcome w.text ∷ [];
    each = one_each (held_of old) w.outcome w.text w.told;
    written = subst
        (λ (v : List ℕ). AppendsPrefix (contents (inner_of (device_of between)))
        (contents (inner_of (device_of after))) v)
        (sym (append-nil w.text)) w.row.written;
    later = names_in false more;
    named = ap (named_by false) (slice_split_at ends_name (held_of old) 0x00 more sound.plain refl)
        ∙ first_named false (held_of old) (slice_split ends_name more) (some_part more);
    all = tt;
  }

  -- it ended before anything was written
  pub ends_before : (names : List Text) (output : Tried W) (e : RunError)
      → WritesRows contents tells [] names output output (Err e)
  ends_before names output e =
      text_cut_off contents tells [] names output output output e
      (0, omega arith, Appends-nil (contents (inner_of output)))

  -- the same before bytes
  pub ends_before_bytes : (listing new : Listing) (bytes : List ℕ) (output : Tried W) (e : RunError)
      → TakesOrEnds contents tells listing bytes new output output (Err e)
  ends_before_bytes listing new bytes output e =
      λ more. ends_before (names_in false (held_of listing ++ (bytes ++ more))) output e

  -- nothing is held, so there is no last name
  pub takes_no_end : (listing : Listing) (output : Tried W) → length (held_of listing) ≤ 0 → IsSound listing
      → TakesIn contents tells listing (last_end (held_of listing)) listing output output
  takes_no_end listing output none sound =
      subst (λ (v : List ℕ). TakesIn contents tells listing v listing output output)
      (sym (picked_none (length (held_of listing) == 0) (grind (arith, nat_tests))))
      (takes_nothing listing output sound)

  -- what was tried to be held
  pub held_or_ends : (old new : Listing) (bytes : List ℕ) (output : Tried W) (r : Result (Unit {0}) RunError)
      → OnOk r (held_of new ≡ held_of old ++ bytes) → OnOk r (new.counts ≡ old.counts) → IsPlain bytes → IsSound old
      → TakesOrEnds contents tells old bytes new output output r
  held_or_ends old new bytes output (Ok done) held same plain sound =
      takes_plain old new bytes output held same plain sound
  held_or_ends old new bytes output (Err e) held same plain sound =
      λ more. ends_before (names_in false (held_of old ++ (bytes ++ more))) output e

  module _ (a b : Listing) (xs : List ℕ) (first second : Tried W) (h : TakesIn contents tells a xs b first second) where
    -- bytes after bytes
    pub takes_then : (c : Listing) (ys : List ℕ) (third : Tried W) → TakesIn contents tells b ys c second third
        → TakesIn contents tells a (xs ++ ys) c first third
    takes_then c ys third k = record {
      rows = h.rows ++ k.rows;
      each = All-append (λ (row : Told). tells row.name row.outcome row.text) h.rows k.rows h.each k.each;
      written = subst (λ (v : List ℕ). Appends (contents (inner_of first)) (contents (inner_of third)) v)
          (sym (flat_map-append (λ (row : Told). row.text) h.rows k.rows))
          (Appends-trans _ _ _ (texts h.rows) (texts k.rows) h.written k.written);
      named = λ more. ap (λ (v : List ℕ). slice_split ends_name (held_of a ++ v)) (append_assoc xs ys more)
          ∙ h.named (ys ++ more)
          ∙ ap (λ (v : List Text). row_names h.rows ++ v) (k.named more)
          ∙ sym (append_assoc (row_names h.rows) (row_names k.rows) (slice_split ends_name (held_of c ++ more)))
          ∙ ap (λ (v : List Text). v ++ slice_split ends_name (held_of c ++ more))
          (sym (map-append (λ (row : Told). row.name) h.rows k.rows));
      counted = λ before is. k.counted (before ++ outcomes h.rows) (h.counted before is)
          ∙ ap counts_of
          (append_assoc before (outcomes h.rows) (outcomes k.rows)
          ∙ ap (λ (v : List Outcome). before ++ v) (sym (map-append (λ (row : Told). row.outcome) h.rows k.rows)));
      sound = k.sound;
    }

    -- the names in them, and those in what comes after
    names_after : (whole : Bool) (ys : List ℕ) → names_in whole (held_of a ++ (xs ++ ys))
        ≡ row_names h.rows ++ names_in whole (held_of b ++ ys)
    names_after whole ys =
        ap (named_by whole) (h.named ys)
        ∙ named_after whole (row_names h.rows) (slice_split ends_name (held_of b ++ ys)) (some_part (held_of b ++ ys))

    -- and then the writing ended
    pub ends_then : (ys : List ℕ) (third : Tried W) (e : RunError)
        → WritesRows contents tells [] (names_in false (held_of b ++ ys)) second third (Err e)
        → WritesRows contents tells [] (names_in false (held_of a ++ (xs ++ ys))) first third (Err e)
    ends_then ys third e w = record {
      rows = h.rows ++ w.rows;
      each = All-append (λ (row : Told). tells row.name row.outcome row.text) h.rows w.rows h.each w.each;
      written = subst (λ (v : List ℕ). AppendsPrefix (contents (inner_of first)) (contents (inner_of third)) v)
          (sym (flat_map-append (λ (row : Told). row.text) h.rows w.rows))
          (prefix_behind _ _ _ (texts h.rows) (texts w.rows) h.written w.written);
      later = w.later;
      named = names_after false ys
          ∙ ap (λ (v : List Text). row_names h.rows ++ v) w.named
          ∙ sym (append_assoc (row_names h.rows) (row_names w.rows) w.later)
          ∙ ap (λ (v : List Text). v ++ w.later) (sym (map-append (λ (row : Told). row.name) h.rows w.rows));
      all = tt;
    }

    pub takes_or_ends_then : (c : Listing) (ys : List ℕ) (third : Tried W) (r : Result (Unit {0}) RunError)
        → TakesOrEnds contents tells b ys c second third r → TakesOrEnds contents tells a (xs ++ ys) c first third r
    takes_or_ends_then c ys third (Ok done) k = takes_then c ys third k
    takes_or_ends_then c ys third (Err e) k =
        λ more. subst
        (λ (v : List ℕ). WritesRows contents tells [] (names_in false (held_of a ++ v)) first third (Err e))
        (sym (append_assoc xs ys more)) (ends_then (ys ++ more) third e (k more))

  -- the same of a piece of which the first bytes were taken in
  pub piece_or_ends : (start listing new : Listing) (piece done left : List ℕ) (first second third : Tried W)
      (r : Result (Unit {0}) RunError) → piece ≡ done ++ left → TakesIn contents tells start done listing first second
      → TakesOrEnds contents tells listing left new second third r
      → TakesOrEnds contents tells start piece new first third r
  piece_or_ends start listing new piece done left first second third r is h k =
      subst (λ (v : List ℕ). TakesOrEnds contents tells start v new first third r) (sym is)
      (takes_or_ends_then start listing done first second h new left third r k)

  module _ (listing held : Listing) (left name rest : List ℕ) (cut : IsFirstName left name rest)
      (same_held : held_of held ≡ held_of listing ++ name) (same_counts : held.counts ≡ listing.counts) where
    -- a name was taken in, and the byte that ends it
    pub name_taken : (start next : Listing) (done : List ℕ) (first second third : Tried W)
        → TakesIn contents tells start done listing first second
        → TakesIn contents tells held (0x00 ∷ []) next second third
        → TakesIn contents tells start (done ++ (name ++ 0x00 ∷ [])) next first third
    name_taken start next done first second third h k =
        takes_then start listing done first second h next (name ++ 0x00 ∷ []) third
        (takes_then listing held name second second
        (takes_plain listing held name second same_held same_counts cut.plain h.sound) next (0x00 ∷ []) third k)

    -- the writing ended at its text
    pub name_ends : (new : Listing) (second third : Tried W) (e : RunError) → IsSound listing
        → TakesOrEnds contents tells held (0x00 ∷ []) new second third (Err e)
        → TakesOrEnds contents tells listing left new second third (Err e)
    name_ends new second third e sound k =
        piece_or_ends listing held new left name (0x00 ∷ rest) second second third (Err e) cut.parts
        (takes_plain listing held name second same_held same_counts cut.plain sound) (λ more. k (rest ++ more))

  -- All that an input gave so far was taken in.
  pub record TakesAll (bytes : List ℕ) (listing : Listing) (output output_after : Tried W) : Type 0 where
    pub start : Listing
    pub held : held_of start ≡ []
    pub counts : start.counts ≡ counts_of []
    pub takes : TakesIn contents tells start bytes listing output output_after

  pub none_taken : (listing : Listing) (output : Tried W) → held_of listing ≡ [] → listing.counts ≡ counts_of []
      → TakesAll [] listing output output
  none_taken listing output held counts = record {
    start = listing;
    held = held;
    counts = counts;
    takes = takes_nothing listing output (record {
      plain = subst IsPlain (sym held) (All-nil (λ (b : ℕ). ends_name b ≡ false));
      outcomes = [];
      counted = counts;
    });
  }

  module _ (bytes : List ℕ) (listing : Listing) (output between : Tried W)
      (h : TakesAll bytes listing output between) where
    pub taken_more : (more : List ℕ) (next : Listing) (after : Tried W)
        → TakesIn contents tells listing more next between after → TakesAll (bytes ++ more) next output after
    taken_more more next after k = record {
      start = h.start;
      held = h.held;
      counts = h.counts;
      takes = takes_then h.start listing bytes output between h.takes next more after k;
    }

    -- the names after all that was taken in
    names_so_far : (whole : Bool) (more : List ℕ) → names_in whole (bytes ++ more)
        ≡ row_names h.takes.rows ++ names_in whole (held_of listing ++ more)
    names_so_far whole more =
        ap (λ (v : List ℕ). names_in whole (v ++ (bytes ++ more))) (sym h.held)
        ∙ names_after h.start listing bytes output between h.takes whole more

    -- nothing more comes
    names_at_end : (whole : Bool) → names_in whole bytes
        ≡ row_names h.takes.rows ++ names_in whole (held_of listing)
    names_at_end whole =
        ap (names_in whole) (sym (append-nil bytes)) ∙ names_so_far whole []
        ∙ ap (λ (v : List ℕ). row_names h.takes.rows ++ names_in whole v) (append-nil (held_of listing))

    none_held : names_in false (held_of listing) ≡ []
    none_held = ap (named_by false) (slice_split_none ends_name (held_of listing) h.takes.sound.plain)

    pub all_taken : WritesRows contents tells [] (names_in false bytes) output between (Ok listing.counts)
    all_taken = record {
      rows = h.takes.rows;
      each = h.takes.each;
      written = h.takes.written;
      later = [];
      named = names_at_end false ∙ ap (λ (v : List Text). row_names h.takes.rows ++ v) none_held;
      all = (refl, h.takes.counted [] h.counts);
    }

    pub ends_all : (more : List ℕ) (after : Tried W) (e : RunError)
        → ((next : List ℕ)
        → WritesRows contents tells [] (names_in false (held_of listing ++ (more ++ next))) between after (Err e))
        → WritesRows contents tells [] (names_in false (bytes ++ more)) output after (Err e)
    ends_all more after e w =
        subst
        (λ (v : List ℕ). WritesRows contents tells [] (names_in false (v ++ (bytes ++ more))) output after (Err e))
        h.held
        (ends_then h.start listing bytes output between h.takes more after e
        (subst
        (λ (v : List ℕ). WritesRows contents tells [] (names_in false (held_of listing ++ v)) between after (Err e))
        (append-nil more) (w [])))

    -- the last name was not ended
    pub last_named : names_in false (bytes ++ last_end (held_of listing)) ≡ names_in true bytes
    last_named =
        names_so_far false (last_end (held_of listing))
        ∙ ap (λ (v : List Text). row_names h.takes.rows ++ v) (held_named (held_of listing) h.takes.sound.plain)
        ∙ sym (names_at_end true)

  module _ (bytes : List ℕ) (listing next : Listing) (output between after : Tried W)
      (h : TakesAll bytes listing output between) where
    -- the last name was taken in, or there is none
    pub all_last : TakesIn contents tells listing (last_end (held_of listing)) next between after
        → WritesRows contents tells [] (names_in true bytes) output after (Ok next.counts)
    all_last k =
        subst (λ (v : List Text). WritesRows contents tells [] v output after (Ok next.counts))
        (last_named bytes listing output between h)
        (all_taken (bytes ++ last_end (held_of listing)) next output after
        (taken_more bytes listing output between h (last_end (held_of listing)) next after k))

    -- the writing ended at its text
    pub ends_last : (e : RunError)
        → TakesOrEnds contents tells listing (last_end (held_of listing)) next between after (Err e)
        → WritesRows contents tells [] (names_in true bytes) output after (Err e)
    ends_last e k =
        subst (λ (v : List Text). WritesRows contents tells [] v output after (Err e))
        (last_named bytes listing output between h)
        (ends_all bytes listing output between h (last_end (held_of listing)) after e k)

  -- the writing ended before any more was
  pub ends_nothing : (bytes : List ℕ) (listing : Listing) (output between : Tried W) (e : RunError)
      → TakesAll bytes listing output between
      → WritesRows contents tells [] (names_in false bytes) output between (Err e)
  ends_nothing bytes listing output between e h =
      subst (λ (v : List ℕ). WritesRows contents tells [] (names_in false v) output between (Err e))
      (append-nil bytes)
      (ends_all bytes listing output between h [] between e
      (λ next. ends_before (names_in false (held_of listing ++ ([] ++ next))) between e))

-- ---- what an input gave
-- where a call did not fail, the device works
pub still_works : (b : Bool) → ((false ≡ true) ↔ (b ≡ true)) → b ≡ false
still_works true same = sym (same.1 refl)
still_works false same = refl

-- a read that gave nothing leaves what was read
pub none_more : (a b c : Option (List ℕ)) (bytes part : List ℕ) (n : ℕ) → Consumes a b bytes
    → Consumes b c (take n part) → n ≡ 0 → Consumes a c bytes
none_more a b c bytes part n before now none =
    subst (Consumes a c) (append-nil bytes)
    (Consumes-trans a b c bytes [] before (subst (λ (k : ℕ). Consumes b c (take k part)) none now))

-- ---- what may end it
pub ends_weaker : {W T : Type 0} {MayEnd MayEndToo : RunError → Type 0} {old new : Outbox W} {r : Result T RunError}
    → ((e : RunError) → MayEnd e → MayEndToo e) → EndsRows MayEnd old new r → EndsRows MayEndToo old new r
ends_weaker {W} {T} {MayEnd} {MayEndToo} {old} {new} {r} weaker h = record {
  same_device = h.same_device;
  device = h.device;
  errors = IfErr-weaker r MayEnd MayEndToo weaker h.errors;
  ready = h.ready;
}

-- memory ran out, and nothing was written
pub ends_unwritten : {W T : Type 0} {MayEnd : RunError → Type 0} (out : Outbox W) → IsReady out → MayEnd error.Memory
    → EndsRows {T = T} MayEnd out out (Err error.Memory)
ends_unwritten out ready may = record {
  same_device = refl;
  device = (λ e. absurd (cc), λ failed. absurd (true≢false (sym failed ∙ ready.1)));
  errors = may;
  ready = tt;
}

-- ---- counts
-- no more have one outcome than there are
pub record CountedRight (counts : Counts) : Type 0 where
  pub pass : counts.pass ≤ counts.files
  pub cleared : counts.cleared ≤ counts.files
  pub refused : counts.refused ≤ counts.files
  pub unread : counts.unread ≤ counts.files

pub counted_right : (listing : Listing) → IsSound listing → CountedRight listing.counts
counted_right listing sound =
    rw sound.counted (record {
      pass = count_by-le-length counts_as_pass sound.outcomes;
      cleared = count_by-le-length is_cleared sound.outcomes;
      refused = count_by-le-length is_refused sound.outcomes;
      unread = count_by-le-length is_unread sound.outcomes;
    })

-- a name is cut off at the front of what is left of a piece
pub name_cut : (piece done left name rest : List ℕ) → piece ≡ done ++ left → IsFirstName left name rest
    → piece ≡ (done ++ (name ++ 0x00 ∷ [])) ++ rest
name_cut piece done left name rest is cut =
    is ∙ ap (λ (v : List ℕ). done ++ v) cut.parts
    ∙ sym
    (append_assoc done (name ++ 0x00 ∷ []) rest ∙ ap (λ (v : List ℕ). done ++ v) (append_assoc name (0x00 ∷ []) rest))

pub name_shorter : (left name rest : List ℕ) → IsFirstName left name rest → length rest < length left
name_shorter left name rest cut =
    omega (arith, ap (λ (v : List ℕ). length v) cut.parts, length-append name (0x00 ∷ rest))

-- the front of one name is held still
pub held_sound : (listing held : Listing) (name : List ℕ) → held_of held ≡ held_of listing ++ name
    → held.counts ≡ listing.counts → IsPlain name → IsSound listing → IsSound held
held_sound listing held name same_held same_counts plain sound = record {
  plain = subst IsPlain (sym same_held)
      (All-append (λ (b : ℕ). ends_name b ≡ false) (held_of listing) name sound.plain plain);
  outcomes = sound.outcomes;
  counted = same_counts ∙ sound.counted;
}

-- memory ran out to hold more
pub ends_of_memory : {W T : Type 0} {old : Outbox W} (out : Outbox W) (e : RunError) → e ≡ error.Memory → IsReady out
    → out.device.ghost_name ≡ old.device.ghost_name → EndsRows {T = T} MayEndListing old out (Err e)
ends_of_memory {W} {T} {old} out e is ready same =
    rw is (ends_err {T = T} {between = out} same (ends_unwritten {T = T} out ready (inr refl)))

pub ends_held : {W : Type 0} {old : Outbox W} (out : Outbox W) (r : Result (Unit {0}) RunError)
    → IfErr r (λ e. e ≡ error.Memory) → IsReady out → out.device.ghost_name ≡ old.device.ghost_name
    → EndsRows MayEndListing old out r
ends_held out (Ok done) memory ready same = ends_ok done ready same
ends_held out (Err e) memory ready same = ends_of_memory out e memory ready same

-- ---- the head of a table
pub may_end_listing : {may_lack : Type 0} (e : RunError) → MayEndRows may_lack e → MayEndListing e
may_end_listing e (inl write) = inl write
may_end_listing e (inr memory) = inr memory.0

module _ {R W : Type 0} (contents : W → Option (List ℕ)) (remaining : R → Option (List ℕ))
    (tells : Text → Outcome → List ℕ → Type 0) (text : List ℕ) (reader : Tried R) where
  -- texts after the head
  pub listed_behind : (reader_after : Tried R) (output between after : Tried W) (result : Result Listed RunError)
      → Appends (contents (inner_of output)) (contents (inner_of between)) text
      → WritesListed contents remaining tells [] reader reader_after between after result
      → WritesListed contents remaining tells text reader reader_after output after result
  listed_behind reader_after output between after result h w = record {
    bytes = w.bytes;
    read = w.read;
    whole = w.whole;
    came = w.came;
    rows = rows_behind contents tells text (names_in w.whole w.bytes) output between after (counts_listed result) h
        w.rows;
    told = w.told;
  }

  -- the writing ended in the head
  pub listed_cut_off : (output after : Tried W) (e : RunError)
      → AppendsPrefix (contents (inner_of output)) (contents (inner_of after)) text
      → WritesListed contents remaining tells text reader reader output after (Err e)
  listed_cut_off output after e h = record {
    bytes = [];
    read = Consumes-nil (remaining (inner_of reader));
    whole = false;
    came = tt;
    rows = text_cut_off contents tells text (names_in false []) output output after e h;
    told = tt;
  }
