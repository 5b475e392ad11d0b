-- The matches of a command's arguments hold what those are called: of no other id have they a row.
use Rattle.std.proofs.Common.{◌≡◌, ℕ, zero, suc, Bool, true, false, List, [], ◌∷◌, ◌++◌, Option, Some, None, refl}
use Rattle.std.proofs.lemmas.Bool.{or_parts}
use Rattle.std.proofs.Common.{◌∙◌, ◌+◌, ◌&&◌, ◌||◌, not, cond, length, drop, min, is_some, ap}
use Rattle.std.specs.Prelude.{IfSome, find, fold, if◌then◌else◌, option_and_then, slice_get, encode_utf8, codes}
use Rattle.std.specs.List.{list_any}
use Rattle.std.specs.Option.{option_map_or}
use Rattle.std.specs.Str.{bytes_eq, chars}
use Rattle.std.proofs.lemmas.List.Folds.{list_any-append}
use Rattle.clap.specs.Lexer.{long_of, short_of}
use Rattle.clap.specs.Matches.{count_text}
use Rattle.clap.specs.Walk.{Held, Names, Outcome, Row, Rule, Step, Text, Waiting, Walk, done, idle, next, option, plain}
use Rattle.clap.specs.Walk.{positional, refused, subcommand, trailing, value, waits, action_of, after_flag, after_step}
use Rattle.clap.specs.Walk.{arg_by_id, arg_by_index, arg_by_long, arg_by_short, at_row, attached_value, bundle}
use Rattle.clap.specs.Walk.{bundle_met, bundle_step, count_of, counted, default_rows, flag_met, has_long, has_row}
use Rattle.clap.specs.Walk.{has_short, is_pending, long_met, long_or_other, long_word, more_values, new_count}
use Rattle.clap.specs.Walk.{nothing_held, option_met, option_word, plain_word, positional_held, reacted, reading_by}
use Rattle.clap.specs.Walk.{row_text, rows_after, settled, first_of, settled_rows, short_met, short_or_plain}
use Rattle.clap.specs.Walk.{short_word, subcommand_met, subcommand_or_other, takes_several, takes_values, to_positional}
use Rattle.clap.specs.Walk.{used, used_as, used_by_id, values_or_missing, walk, walk_from, walked, walked_from}
use Rattle.clap.specs.Walk.{with_count, with_default, with_values, without, word_met}
use Rattle.clap.specs.declared.builder.action.ArgAction.{ArgAction}
use Rattle.clap.specs.declared.builder.action.ArgAction.TheVariants.{Set, Append, SetTrue, SetFalse, Count}
use Rattle.clap.specs.declared.builder.value_parser.Reading.{Reading}
use Rattle.clap.specs.declared.parser.matches.ValueSource.{ValueSource}
use Rattle.clap.specs.declared.parser.matches.ValueSource.TheVariants.{DefaultValue, CommandLine}
use Rattle.ans_options.specs.CommandLine.{holds_flag}

-- no row has this id
abbrev pub Lacks : Text → List Row → Type 0
Lacks id rows = has_row id rows ≡ false

-- the rule has another id
abbrev IsOther : Text → Rule → Type 0
IsOther id a = bytes_eq a.id id ≡ false

-- no rule has this id
abbrev NoneHas : Text → List Rule → Type 0
NoneHas id rules = list_any (λ a. bytes_eq a.id id) rules ≡ false

-- an `or` is false where both sides are
pub nor : (a b : Bool) → a ≡ false → b ≡ false → (a || b) ≡ false
nor true b e f = cc
nor false b e f = f

-- of an id that has no row none is found
not_found : (id : Text) (rows : List Row) → Lacks id rows → find (λ x. bytes_eq x.id id) rows ≡ None
not_found id [] lacks = refl
not_found id (r ∷ rows) lacks =
    let parts = or_parts (bytes_eq r.id id) (has_row id rows) lacks in
    go (bytes_eq r.id id) parts.0 (not_found id rows parts.1)
  where
    go : (b : Bool) → b ≡ false → find (λ x. bytes_eq x.id id) rows ≡ None
        → cond b (Some r) (find (λ x. bytes_eq x.id id) rows) ≡ None
    go true e rest = cc
    go false e rest = rest

-- so a flag that has no row is not held
pub unheld : (id : Text) (rows : List Row) → Lacks id rows → holds_flag id rows ≡ false
unheld id rows lacks =
    ap (λ (o : Option Row). option_map_or (λ t. bytes_eq t (codes "true")) (option_and_then row_text o) false)
    (not_found id rows lacks)

-- and an argument that has no row has no value
pub unfound : (id : Text) (rows : List Row) → Lacks id rows → first_of id rows ≡ None
unfound id rows lacks =
    ap (λ (o : Option Row). option_and_then (λ x. slice_get x.values 0) o) (not_found id rows lacks)

-- ---- the rows of one use

-- a change of the row of one id brings no row of another
at_row-lacks : (id own : Text) (change : Row → List Row) (missing rows : List Row)
    → ((r : Row) → bytes_eq r.id id ≡ false → Lacks id (change r)) → Lacks id missing → Lacks id rows
    → Lacks id (at_row own change missing rows)
at_row-lacks id own change missing [] keeps new lacks = new
at_row-lacks id own change missing (r ∷ rows) keeps new lacks =
    let parts = or_parts (bytes_eq r.id id) (has_row id rows) lacks in
    go (bytes_eq r.id own) parts.0 parts.1 (at_row-lacks id own change missing rows keeps new parts.1)
  where
    go : (b : Bool) → bytes_eq r.id id ≡ false → Lacks id rows → Lacks id (at_row own change missing rows)
        → Lacks id (if b then change r ++ rows else r ∷ at_row own change missing rows)
    go true other rest changed = list_any-append (λ x. bytes_eq x.id id) (change r) rows
        ∙ nor (has_row id (change r)) (has_row id rows) (keeps r other) rest
    go false other rest changed = nor (bytes_eq r.id id) (has_row id (at_row own change missing rows)) other changed

without-lacks : (id own : Text) (rows : List Row) → Lacks id rows → Lacks id (without own rows)
without-lacks id own rows lacks = at_row-lacks id own (λ _. []) [] rows (λ r other. refl) refl lacks

with_values-lacks : (id own : Text) (how : Reading) (s : ValueSource) (values : List Text) (rows : List Row)
    → bytes_eq own id ≡ false → Lacks id rows → Lacks id (with_values own how s values rows)
with_values-lacks id own how s values rows other lacks =
    let fresh : List Row = record { id = own; values = values; count = None; source = Some s; reading = how } ∷ [] in
    at_row-lacks id own (more_values s values) fresh rows (λ r e. nor (bytes_eq r.id id) false e refl)
    (nor (bytes_eq own id) false other refl) lacks

with_count-lacks : (id own : Text) (how : Reading) (s : ValueSource) (n : ℕ) (rows : List Row)
    → bytes_eq own id ≡ false → Lacks id rows → Lacks id (with_count own how s n rows)
with_count-lacks id own how s n rows other lacks =
    let fresh : List Row = record {
      id = own;
      values = count_text n ∷ [];
      count = Some n;
      source = Some s;
      reading = how;
    } ∷ [] in
    at_row-lacks id own (new_count s n) fresh rows (λ r e. nor (bytes_eq r.id id) false e refl)
    (nor (bytes_eq own id) false other refl) lacks

counted-lacks : (id own : Text) (how : Reading) (values : List Text) (rows : List Row)
    → bytes_eq own id ≡ false → Lacks id rows → Lacks id (counted own how values rows)
counted-lacks id own how [] rows other lacks =
    with_count-lacks id own how CommandLine (min (count_of own rows + 1) 255) (without own rows) other
    (without-lacks id own rows lacks)
counted-lacks id own how (v ∷ vs) rows other lacks =
    with_values-lacks id own how CommandLine (v ∷ vs) (without own rows) other (without-lacks id own rows lacks)

used_as-lacks : (x : ArgAction) (id own : Text) (how : Reading) (values : List Text) (rows : List Row)
    → bytes_eq own id ≡ false → Lacks id rows → Lacks id (used_as x own how values rows)
used_as-lacks Set id own how values rows other lacks =
    with_values-lacks id own how CommandLine values (without own rows) other (without-lacks id own rows lacks)
used_as-lacks SetTrue id own how values rows other lacks =
    with_values-lacks id own how CommandLine values (without own rows) other (without-lacks id own rows lacks)
used_as-lacks SetFalse id own how values rows other lacks =
    with_values-lacks id own how CommandLine values (without own rows) other (without-lacks id own rows lacks)
used_as-lacks Append id own how values rows other lacks =
    with_values-lacks id own how CommandLine values rows other lacks
used_as-lacks Count id own how values rows other lacks = counted-lacks id own how values rows other lacks
used_as-lacks _ id own how values rows other lacks = lacks

used-lacks : (id : Text) (a : Rule) (values : List Text) (rows : List Row) → IsOther id a → Lacks id rows
    → Lacks id (used a values rows)
used-lacks id a values rows other lacks =
    used_as-lacks (action_of a) id a.id (reading_by a) (values_or_missing a values) rows other lacks

-- a rule that is found among others is another
found_other : (id : Text) (p : Rule → Bool) (rules : List Rule) → NoneHas id rules
    → IfSome (find p rules) (λ a. IsOther id a)
found_other id p [] none = tt
found_other id p (a ∷ rest) none =
    let parts = or_parts (bytes_eq a.id id) (list_any (λ r. bytes_eq r.id id) rest) none in
    go (p a) parts.0 (found_other id p rest parts.1)
  where
    go : (b : Bool) → IsOther id a → IfSome (find p rest) (λ r. IsOther id r)
        → IfSome (cond b (Some a) (find p rest)) (λ r. IsOther id r)
    go true other later = other
    go false other later = later

used_by_id-lacks : (id : Text) (found : Option Rule) (values : List Text) (rows : List Row)
    → IfSome found (λ a. IsOther id a) → Lacks id rows → Lacks id (used_by_id found values rows)
used_by_id-lacks id None values rows other lacks = lacks
used_by_id-lacks id (Some a) values rows other lacks = used-lacks id a values rows other lacks

-- ---- the walk over the words, by rules of other ids

module _ (id : Text) (c : List Rule) (others : NoneHas id c) where
  by_id : (own : Text) → IfSome (arg_by_id c own) (λ a. IsOther id a)
  by_id own = found_other id (λ a. bytes_eq a.id own) c others

  by_long : (name : Text) → IfSome (arg_by_long c name) (λ a. IsOther id a)
  by_long name = found_other id (λ a. not (is_some a.index) && has_long a name) c others

  by_short : (x : ℕ) → IfSome (arg_by_short c x) (λ a. IsOther id a)
  by_short x = found_other id (λ a. not (is_some a.index) && has_short a x) c others

  settled_rows-lacks : (p : Option (Text × List Text)) (rows : List Row) → Lacks id rows
      → Lacks id (settled_rows c p rows)
  settled_rows-lacks None rows lacks = lacks
  settled_rows-lacks (Some p) rows lacks = used_by_id-lacks id (arg_by_id c p.0) p.1 rows (by_id p.0) lacks

  settled-lacks : (h : Held) → Lacks id h.rows → Lacks id (settled c h).rows
  settled-lacks h lacks = settled_rows-lacks h.pending h.rows lacks

  reacted-lacks : (a : Rule) (values : List Text) (h : Held) → IsOther id a → Lacks id h.rows
      → Lacks id (reacted c a values h).rows
  reacted-lacks a values h other lacks = used-lacks id a values (settled c h).rows other (settled-lacks h lacks)

  option_met-lacks : (a : Rule) (v : Option Text) (h : Held) → IsOther id a → Lacks id h.rows
      → Lacks id (option_met c a v h).0.rows
  option_met-lacks a (Some v) h other lacks = reacted-lacks a (v ∷ []) h other lacks
  option_met-lacks a None h other lacks = settled-lacks h lacks

  flag_met-lacks : (a : Rule) (v : Option Text) (h : Held) → IsOther id a → Lacks id h.rows
      → Lacks id (flag_met c a v h).0.rows
  flag_met-lacks a (Some v) h other lacks = lacks
  flag_met-lacks a None h other lacks = reacted-lacks a [] h other lacks

  long_met-lacks : (found : Option Rule) (v : Option Text) (h : Held) → IfSome found (λ a. IsOther id a)
      → Lacks id h.rows → Lacks id (long_met c found v h).0.rows
  long_met-lacks None v h other lacks = lacks
  long_met-lacks (Some a) v h other lacks = go (takes_values a)
    where
      go : (b : Bool) → Lacks id (if b then option_met c a v h else flag_met c a v h).0.rows
      go true = option_met-lacks a v h other lacks
      go false = flag_met-lacks a v h other lacks

  short_met-lacks : (found : Option Rule) (rest : Text) (h : Held) (after : Held → Held × Outcome)
      → IfSome found (λ a. IsOther id a) → ((k : Held) → Lacks id k.rows → Lacks id (after k).0.rows)
      → Lacks id h.rows → Lacks id (short_met c found rest h after).0.rows
  short_met-lacks None rest h after other later lacks = lacks
  short_met-lacks (Some a) rest h after other later lacks = go (takes_values a)
    where
      go : (b : Bool)
          → Lacks id (if b then option_met c a (attached_value rest) h else after (reacted c a [] h)).0.rows
      go true = option_met-lacks a (attached_value rest) h other lacks
      go false = later (reacted c a [] h) (reacted-lacks a [] h other lacks)

  bundle_step-lacks : (x : Option ℕ) (flags : Text) (skip : ℕ) (so_far : Outcome) (h : Held)
      (after : Text → ℕ → Outcome → Held → Held × Outcome)
      → ((t : Text) (n : ℕ) (o : Outcome) (k : Held) → Lacks id k.rows → Lacks id (after t n o k).0.rows)
      → Lacks id h.rows → Lacks id (bundle_step c x flags skip so_far h after).0.rows
  bundle_step-lacks None flags skip so_far h after later lacks = lacks
  bundle_step-lacks (Some x) flags zero so_far h after later lacks =
      let rest = drop (length (encode_utf8 x)) flags in
      short_met-lacks (arg_by_short c x) rest h (after rest 0 done) (by_short x) (λ k none. later rest 0 done k none)
      lacks
  bundle_step-lacks (Some x) flags (suc skip) so_far h after later lacks =
      later (drop (length (encode_utf8 x)) flags) skip so_far h lacks

  bundle_met-lacks : (k : ℕ) (flags : Text) (skip : ℕ) (so_far : Outcome) (h : Held) → Lacks id h.rows
      → Lacks id (bundle_met c k flags skip so_far h).0.rows
  unfolding bundle_met
  bundle_met-lacks zero flags skip so_far h lacks = lacks
  bundle_met-lacks (suc k) flags skip so_far h lacks =
      bundle_step-lacks (slice_get (chars flags) 0) flags skip so_far h (bundle_met c k) (bundle_met-lacks k) lacks

  option_word-lacks : (found : Option Rule) (own word : Text) (h : Held) → Lacks id h.rows
      → Lacks id (option_word found own word h).0.rows
  option_word-lacks None own word h lacks = lacks
  option_word-lacks (Some a) own word h lacks = lacks

  plain_word-lacks : (w : Waiting) (word : Text) (h : Held) → Lacks id h.rows
      → Lacks id (plain_word c w word h).0.rows
  plain_word-lacks idle word h lacks = lacks
  plain_word-lacks (option own) word h lacks = option_word-lacks (arg_by_id c own) own word h lacks
  plain_word-lacks positional word h lacks = lacks

  after_flag-lacks : (w : Waiting) (word : Text) (h : Held) (o : Outcome) → Lacks id h.rows
      → Lacks id (after_flag c w word h o).0.rows
  after_flag-lacks w word h done lacks = lacks
  after_flag-lacks w word h (waits own) lacks = lacks
  after_flag-lacks w word h plain lacks = plain_word-lacks w word h lacks
  after_flag-lacks w word h refused lacks = plain_word-lacks w word h lacks

  long_word-lacks : (w : Waiting) (word name : Text) (v : Option Text) (h : Held) → Lacks id h.rows
      → Lacks id (long_word c w word name v h).0.rows
  long_word-lacks w word name v h lacks =
      let met = long_met c (arg_by_long c name) v h in
      after_flag-lacks w word met.0 met.1 (long_met-lacks (arg_by_long c name) v h (by_long name) lacks)

  short_word-lacks : (w : Waiting) (word flags : Text) (h : Held) → Lacks id h.rows
      → Lacks id (short_word c w word flags h).0.rows
  short_word-lacks w word flags h lacks =
      let met = bundle c flags h in
      after_flag-lacks w word met.0 met.1
      (bundle_met-lacks (length flags) flags h.skip plain (record h { skip = 0 }) lacks)

  short_or_plain-lacks : (w : Waiting) (word : Text) (flags : Option Text) (h : Held) → Lacks id h.rows
      → Lacks id (short_or_plain c w word flags h).0.rows
  short_or_plain-lacks w word (Some flags) h lacks = short_word-lacks w word flags h lacks
  short_or_plain-lacks w word None h lacks = plain_word-lacks w word h lacks

  long_or_other-lacks : (w : Waiting) (word : Text) (long : Option (Text × Option Text)) (h : Held)
      → Lacks id h.rows → Lacks id (long_or_other c w word long h).0.rows
  long_or_other-lacks w word (Some p) h lacks = long_word-lacks w word p.0 p.1 h lacks
  long_or_other-lacks w word None h lacks = short_or_plain-lacks w word (short_of word) h lacks

  subcommand_or_other-lacks : (name : Option Text) (w : Waiting) (position : ℕ) (word : Text) (h : Held)
      → Lacks id h.rows → Lacks id (subcommand_or_other c name w position word h).0.rows
  subcommand_or_other-lacks (Some name) w position word h lacks = lacks
  subcommand_or_other-lacks None w position word h lacks = go (bytes_eq word (45 ∷ 45 ∷ []))
    where
      go : (b : Bool)
          → Lacks id (if b then (h, trailing position) else long_or_other c w word (long_of word) h).0.rows
      go true = lacks
      go false = long_or_other-lacks w word (long_of word) h lacks

  word_met-lacks : (names : Names) (is_trailing : Bool) (w : Waiting) (position : ℕ) (word : Text) (h : Held)
      → Lacks id h.rows → Lacks id (word_met c names is_trailing w position word h).0.rows
  word_met-lacks names true w position word h lacks = lacks
  word_met-lacks names false w position word h lacks =
      subcommand_or_other-lacks (subcommand_met names w word) w position word h lacks

  positional_held-lacks : (a : Rule) (word : Text) (h : Held) → Lacks id h.rows
      → Lacks id (positional_held c a word h).rows
  positional_held-lacks a word h lacks = go (is_pending a h.pending && takes_several a)
    where
      go : (b : Bool) → Lacks id (if b then h else settled c h).rows
      go true = lacks
      go false = settled-lacks h lacks

  to_positional-lacks : (found : Option Rule) (word : Text) (w : Walk) (h : Held) → Lacks id h.rows
      → Lacks id (to_positional c found word w h).held.rows
  to_positional-lacks None word w h lacks = lacks
  to_positional-lacks (Some a) word w h lacks = positional_held-lacks a word h lacks

  after_step-lacks : (word : Text) (w : Walk) (h : Held) (s : Step) → Lacks id h.rows
      → Lacks id (after_step c word w h s).held.rows
  after_step-lacks word w h (next waiting) lacks = lacks
  after_step-lacks word w h (trailing position) lacks = lacks
  after_step-lacks word w h (subcommand name) lacks = lacks
  after_step-lacks word w h value lacks = to_positional-lacks (arg_by_index c w.position) word w h lacks

  walked_from-lacks : (names : Names) (stop : Option (Text × List Text)) (w : Walk) (word : Text)
      → Lacks id w.held.rows → Lacks id (walked_from c names stop w word).held.rows
  walked_from-lacks names (Some p) w word lacks = lacks
  walked_from-lacks names None w word lacks =
      let met = word_met c names w.is_trailing w.waiting w.position word w.held in
      after_step-lacks word w met.0 met.1
      (word_met-lacks names w.is_trailing w.waiting w.position word w.held lacks)

  walked-lacks : (names : Names) (w : Walk) (word : Text) → Lacks id w.held.rows
      → Lacks id (walked c names w word).held.rows
  unfolding walked
  walked-lacks names w word lacks = walked_from-lacks names w.stopped w word lacks

  walk-lacks : (names : Names) (words : List Text) (w : Walk) → Lacks id w.held.rows
      → Lacks id (fold (walked c names) w words).held.rows
  walk-lacks names [] w lacks = lacks
  walk-lacks names (word ∷ words) w lacks =
      walk-lacks names words (walked c names w word) (walked-lacks names w word lacks)

-- ---- the defaults after the walk

default_rows-lacks : (id own : Text) (how : Reading) (values : List Text) (rows : List Row)
    → bytes_eq own id ≡ false → Lacks id rows → Lacks id (default_rows own how values rows)
default_rows-lacks id own how [] rows other lacks = lacks
default_rows-lacks id own how (v ∷ vs) rows other lacks =
    with_values-lacks id own how DefaultValue (v ∷ vs) rows other lacks

with_default-lacks : (id : Text) (rows : List Row) (a : Rule) → IsOther id a → Lacks id rows
    → Lacks id (with_default rows a)
with_default-lacks id rows a other lacks = go (has_row a.id rows)
  where
    go : (b : Bool) → Lacks id (if b then rows else default_rows a.id (reading_by a) a.defaults rows)
    go true = lacks
    go false = default_rows-lacks id a.id (reading_by a) a.defaults rows other lacks

defaults-lacks : (id : Text) (rules : List Rule) (rows : List Row) → NoneHas id rules → Lacks id rows
    → Lacks id (fold with_default rows rules)
defaults-lacks id [] rows none lacks = lacks
defaults-lacks id (a ∷ rest) rows none lacks =
    let parts = or_parts (bytes_eq a.id id) (list_any (λ r. bytes_eq r.id id) rest) none in
    defaults-lacks id rest (with_default rows a) parts.1 (with_default-lacks id rows a parts.0 lacks)

-- an id that no argument of a command has has no row in its matches
pub never_has : (id : Text) (rules : List Rule) (names : Names) (words : List Text)
    → list_any (λ a. bytes_eq a.id id) rules ≡ false → Lacks id (rows_after rules names words)
never_has id rules names words none =
    let over = walk rules names nothing_held words in
    defaults-lacks id rules (settled rules over.held).rows none
    (settled-lacks id rules none over.held (walk-lacks id rules none names words (walk_from nothing_held) refl))
