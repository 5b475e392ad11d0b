-- Where words have no fault, each value of an option has passed the parser of the option. So a number of `mend` is in
-- its range.
use Rattle.std.proofs.Common.{◌≡◌, ℕ, zero, suc, Bool, true, false, true≢false, List, [], ◌∷◌, ◌++◌, Option, Some, None}
use Rattle.std.proofs.lemmas.Bool.{or_parts}
use Rattle.std.proofs.Common.{◌∙◌, ◌+◌, ◌&&◌, ◌==◌, not, cond, length, drop, take, min, is_some, ap, refl, sym, subst}
use Rattle.std.proofs.Common.{arith, codes}
use Rattle.std.specs.Prelude.{IfSome, find, fold, if◌then◌else◌, slice_get, encode_utf8, option_map, pos, ⊤}
use Rattle.std.specs.Prelude.{IsSome, IsSomeAnd, Ok, Err, Result, get_or, ◌<◌, ◌^◌, unwrap_or, option_and_then}
use Rattle.std.specs.List.{list_any}
use Rattle.std.specs.Option.{option_map_or}
use Rattle.std.specs.Str.{bytes_eq, chars}
use Rattle.std.specs.Str.Parse.{ParsesUnsigned, digits_value, starts_with_minus, without_leading_plus}
use Rattle.std.proofs.lemmas.Int.{ints}
use Rattle.std.proofs.lemmas.Slice.Eq.{bytes_eq-Decides}
use Rattle.clap.specs.Facts.{parser_of_value, unwrap_or_range}
use Rattle.clap.specs.Faults.{action_fault, bundle_fault, bundle_step_fault, entered_fault, flag_word_fault}
use Rattle.clap.specs.Faults.{flags_fault}
use Rattle.clap.specs.Faults.{level_fault, long_fault, option_fault, other_fault, positional_fault, react_fault}
use Rattle.clap.specs.Faults.{repeat_fault, set_fault, settle_fault, short_fault, step_fault, stray_fault, turn_fault}
use Rattle.clap.specs.Faults.{use_fault}
use Rattle.clap.specs.Faults.{walk_fault, word_fault}
use Rattle.clap.specs.Kinds.{or_else, range_kinds, value_kinds, values_kinds}
use Rattle.clap.specs.Lexer.{long_of, short_of, without_minus}
use Rattle.clap.specs.Matches.{ReadsOne, count_text, one_text}
use Rattle.clap.specs.Simple.{argument_words, built, entered, label_of, names_of, rows_at}
use Rattle.clap.specs.Values.{IsSignedIn, read_as, reading_of}
use Rattle.clap.specs.ValueTests.{accepts}
use Rattle.clap.specs.Walk.{Held, Names, Outcome, Row, Rule, Step, Text, Waiting, Walk, done, idle, next, option, plain}
use Rattle.clap.specs.Walk.{positional, refused, subcommand, trailing, value, waits, action_of, after_flag, after_step}
use Rattle.clap.specs.Walk.{answers_to, arg_by_id, arg_by_index, arg_by_long, arg_by_short, at_row, attached_value}
use Rattle.clap.specs.Walk.{bundle, bundle_met, bundle_step, count_of, counted, default_rows, flag_met, has_long}
use Rattle.clap.specs.Walk.{has_row}
use Rattle.clap.specs.Walk.{has_short, is_pending, most_values, long_met, long_or_other, long_word, more_values}
use Rattle.clap.specs.Walk.{new_count}
use Rattle.clap.specs.Walk.{nothing_held, option_met, option_word, plain_word, positional_held, reacted, reading_by}
use Rattle.clap.specs.Walk.{row_text, rows_after, rows_of, settled, first_of, settled_rows, short_met}
use Rattle.clap.specs.Walk.{short_or_plain, short_word, subcommand_met, subcommand_or_other, takes_several}
use Rattle.clap.specs.Walk.{takes_values}
use Rattle.clap.specs.Walk.{to_positional, used, used_as, used_by_id, values_or_missing, walk, walk_from, walked}
use Rattle.clap.specs.Walk.{walked_from, with_count, with_default, with_values, without, word_met}
use Rattle.clap.specs.Words.{App, Kinds, Shape, fault_of, subcommand_of}
use Rattle.clap.specs.declared.builder.action.ArgAction.{ArgAction}
use Rattle.clap.specs.declared.builder.action.ArgAction.TheVariants.{Set, Append, SetTrue, SetFalse, Count}
use Rattle.clap.specs.declared.builder.value_parser.Reading.{Reading}
use Rattle.clap.specs.declared.builder.value_parser.ValueParser.{ValueParser}
use Rattle.clap.specs.declared.error.ErrorKind.TheVariants as kind
use Rattle.clap.specs.declared.parser.matches.Found.{Found}
use Rattle.clap.specs.declared.parser.matches.ValueSource.{ValueSource}
use Rattle.clap.specs.declared.parser.matches.ValueSource.TheVariants.{DefaultValue, CommandLine}
use Rattle.clap.proofs.ValueTestLemmas.{accepts-Accepts}
use Rattle.clap.proofs.WalkLemmas.{one_text-rows}
use Rattle.ans_options.specs.CommandLine.{HasNumberUpTo, HasNumbersOfMend, IsNumberUpTo, anscheck}
use Rattle.ans_options.specs.CommandLine.{number_asked, number_written, numbers_up_to}
use Rattle.ans_options.proofs.CommandLineLemmas.{some_same}

-- the values of a row passed the parser, and are read as it says
abbrev Passed : ValueParser → Row → Type 0
Passed p r = (values_kinds false p r.values ≡ []) × (r.reading ≡ reading_of p)

-- each row of this id has passed
abbrev AllPassed : Text → ValueParser → List Row → Type 0
AllPassed id p [] = ⊤
AllPassed id p (r ∷ rows) = (bytes_eq r.id id ≡ true → Passed p r) × AllPassed id p rows

-- a rule of this id takes one value, of this parser, and has no default
abbrev IsParsedBy : Text → ValueParser → Rule → Type 0
IsParsedBy id p a = bytes_eq a.id id ≡ true
    → (action_of a ≡ Set) × (a.ignore_case ≡ false) × (parser_of_value a.parser ≡ p) × (a.defaults ≡ [])

-- and so do all
abbrev AreParsedBy : Text → ValueParser → List Rule → Type 0
AreParsedBy id p [] = ⊤
AreParsedBy id p (a ∷ rules) = IsParsedBy id p a × AreParsedBy id p rules

-- and all of these commands
abbrev AllParsedBy : Text → ValueParser → List Shape → Type 0
AllParsedBy id p [] = ⊤
AllParsedBy id p (s ∷ shapes) = AreParsedBy id p s.rules × AllParsedBy id p shapes

-- where the first of two faults or the second would be told, and none is, there is neither
both_none : (a b : Kinds) → or_else a b ≡ [] → (a ≡ []) × (b ≡ [])
both_none [] b e = (refl, e)
both_none (k ∷ ks) b e = absurd (cc)

none_of_both : (p : ValueParser) (xs ys : List Text) → values_kinds false p xs ≡ [] → values_kinds false p ys ≡ []
    → values_kinds false p (xs ++ ys) ≡ []
none_of_both p [] ys first second = second
none_of_both p (x ∷ xs) ys first second =
    let parts = both_none (value_kinds false p x) (values_kinds false p xs) first in
    rw parts.0 (none_of_both p xs ys parts.1 second)

same_id : (x own id : Text) → bytes_eq x own ≡ true → bytes_eq x id ≡ true → bytes_eq own id ≡ true
same_id x own id a b =
    let first = (bytes_eq-Decides x own).0 a in
    let second = (bytes_eq-Decides x id).0 b in
    (bytes_eq-Decides own id).1 (sym first ∙ second)

-- ---- the rows of one use

passed-append : (id : Text) (p : ValueParser) (xs ys : List Row) → AllPassed id p xs → AllPassed id p ys
    → AllPassed id p (xs ++ ys)
passed-append id p [] ys first second = second
passed-append id p (x ∷ xs) ys first second = (first.0, passed-append id p xs ys first.1 second)

at_row-passed : (id : Text) (p : ValueParser) (own : Text) (change : Row → List Row) (missing rows : List Row)
    → ((r : Row) → bytes_eq r.id own ≡ true → (bytes_eq r.id id ≡ true → Passed p r) → AllPassed id p (change r))
    → AllPassed id p missing → AllPassed id p rows → AllPassed id p (at_row own change missing rows)
at_row-passed id p own change missing [] keeps new all = new
at_row-passed id p own change missing (r ∷ rows) keeps new all =
    go (bytes_eq r.id own) refl (at_row-passed id p own change missing rows keeps new all.1)
  where
    go : (b : Bool) → bytes_eq r.id own ≡ b → AllPassed id p (at_row own change missing rows)
        → AllPassed id p (if b then change r ++ rows else r ∷ at_row own change missing rows)
    go true is changed = passed-append id p (change r) rows (keeps r is all.0) all.1
    go false other changed = (all.0, changed)

without-passed : (id : Text) (p : ValueParser) (own : Text) (rows : List Row) → AllPassed id p rows
    → AllPassed id p (without own rows)
without-passed id p own rows all = at_row-passed id p own (λ _. []) [] rows (λ r is passed. tt) tt all

with_values-passed : (id : Text) (p : ValueParser) (own : Text) (how : Reading) (s : ValueSource) (values : List Text)
    (rows : List Row) → (bytes_eq own id ≡ true → (values_kinds false p values ≡ []) × (how ≡ reading_of p))
    → AllPassed id p rows → AllPassed id p (with_values own how s values rows)
with_values-passed id p own how s values rows given all =
    let fresh : List Row = record { id = own; values = values; count = None; source = Some s; reading = how } ∷ [] in
    at_row-passed id p own (more_values s values) fresh rows more (given, tt) all
  where
    more : (r : Row) → bytes_eq r.id own ≡ true → (bytes_eq r.id id ≡ true → Passed p r)
        → AllPassed id p (more_values s values r)
    more r is passed = (
      λ e. (none_of_both p r.values values (passed e).0 (given (same_id r.id own id is e)).0, (passed e).1),
      tt,
    )

with_count-passed : (id : Text) (p : ValueParser) (own : Text) (how : Reading) (s : ValueSource) (n : ℕ)
    (rows : List Row) → (bytes_eq own id ≡ true → ⊥) → AllPassed id p rows
    → AllPassed id p (with_count own how s n rows)
with_count-passed id p own how s n rows other all =
    let fresh : List Row = record {
      id = own;
      values = count_text n ∷ [];
      count = Some n;
      source = Some s;
      reading = how;
    } ∷ [] in
    at_row-passed id p own (new_count s n) fresh rows
    (λ r is passed. ((λ e. absurd (other (same_id r.id own id is e))), tt)) ((λ e. absurd (other e)), tt) all

counted-passed : (id : Text) (p : ValueParser) (own : Text) (how : Reading) (values : List Text) (rows : List Row)
    → (bytes_eq own id ≡ true → ⊥) → AllPassed id p rows → AllPassed id p (counted own how values rows)
counted-passed id p own how [] rows other all =
    with_count-passed id p own how CommandLine (min (count_of own rows + 1) 255) (without own rows) other
    (without-passed id p own rows all)
counted-passed id p own how (v ∷ vs) rows other all =
    with_values-passed id p own how CommandLine (v ∷ vs) (without own rows) (λ e. absurd (other e))
    (without-passed id p own rows all)

-- what a use gives a row of this id
abbrev Gives : Text → ValueParser → Text → ArgAction → Reading → List Text → Type 0
Gives id p own x how values = bytes_eq own id ≡ true
    → (x ≡ Set) × (values_kinds false p values ≡ []) × (how ≡ reading_of p)

used_as-passed : (x : ArgAction) (id : Text) (p : ValueParser) (own : Text) (how : Reading) (values : List Text)
    (rows : List Row) → Gives id p own x how values → AllPassed id p rows
    → AllPassed id p (used_as x own how values rows)
used_as-passed Set id p own how values rows given all =
    with_values-passed id p own how CommandLine values (without own rows) (λ e. ((given e).1, (given e).2))
    (without-passed id p own rows all)
used_as-passed SetTrue id p own how values rows given all =
    with_values-passed id p own how CommandLine values (without own rows) (λ e. ((given e).1, (given e).2))
    (without-passed id p own rows all)
used_as-passed SetFalse id p own how values rows given all =
    with_values-passed id p own how CommandLine values (without own rows) (λ e. ((given e).1, (given e).2))
    (without-passed id p own rows all)
used_as-passed Append id p own how values rows given all =
    with_values-passed id p own how CommandLine values rows (λ e. ((given e).1, (given e).2)) all
used_as-passed Count id p own how values rows given all =
    counted-passed id p own how values rows (λ e. let bad : Count ≡ Set = (given e).0 in cc) all
used_as-passed _ id p own how values rows given all = all

used-passed : (id : Text) (p : ValueParser) (again : Bool) (a : Rule) (values : List Text) (rows : List Row)
    → IsParsedBy id p a → use_fault again a values rows ≡ [] → AllPassed id p rows → AllPassed id p (used a values rows)
used-passed id p again a values rows is none all =
    used_as-passed (action_of a) id p a.id (reading_by a) texts rows given all
  where
    texts : List Text
    texts = values_or_missing a values

    kinds_of_range : Kinds
    kinds_of_range = range_kinds (unwrap_or_range a.range).start_inclusive (most_values a) (length values)

    kinds_of_repeat : Kinds
    kinds_of_repeat = repeat_fault again a.id rows

    given : Gives id p a.id (action_of a) (reading_by a) texts
    given e =
        let own = is e in
        let fault : action_fault (action_of a) again a texts rows ≡ [] = (both_none kinds_of_range _ none).1 in
        let set : set_fault again a texts rows ≡ [] =
        subst (λ (x : ArgAction). action_fault x again a texts rows ≡ []) own.0 fault in
        let kinds : values_kinds a.ignore_case (parser_of_value a.parser) texts ≡ [] =
        (both_none kinds_of_repeat _ set).1 in
        let cased = subst (λ (b : Bool). values_kinds b (parser_of_value a.parser) texts ≡ []) own.1 kinds in
        (own.0, subst (λ (q : ValueParser). values_kinds false q texts ≡ []) own.2 cased, ap reading_of own.2)

-- a rule that is found among these is one of them
found_parsed : (id : Text) (p : ValueParser) (test : Rule → Bool) (rules : List Rule) → AreParsedBy id p rules
    → IfSome (find test rules) (IsParsedBy id p)
found_parsed id p test [] all = tt
found_parsed id p test (a ∷ rest) all = go (test a) (found_parsed id p test rest all.1)
  where
    go : (b : Bool) → IfSome (find test rest) (IsParsedBy id p)
        → IfSome (cond b (Some a) (find test rest)) (IsParsedBy id p)
    go true later = all.0
    go false later = later

-- ---- the walk over the words

module _ (id : Text) (p : ValueParser) (c : List Rule) (own : AreParsedBy id p c) (again : Bool) where
  by_id : (name : Text) → IfSome (arg_by_id c name) (IsParsedBy id p)
  by_id name = found_parsed id p (λ a. bytes_eq a.id name) c own

  by_long : (name : Text) → IfSome (arg_by_long c name) (IsParsedBy id p)
  by_long name = found_parsed id p (λ a. not (is_some a.index) && has_long a name) c own

  by_short : (x : ℕ) → IfSome (arg_by_short c x) (IsParsedBy id p)
  by_short x = found_parsed id p (λ a. not (is_some a.index) && has_short a x) c own

  used_by_id-passed : (found : Option Rule) (values : List Text) (rows : List Row) → IfSome found (IsParsedBy id p)
      → option_map_or (λ a. use_fault again a values rows) found [] ≡ [] → AllPassed id p rows
      → AllPassed id p (used_by_id found values rows)
  used_by_id-passed None values rows is none all = all
  used_by_id-passed (Some a) values rows is none all = used-passed id p again a values rows is none all

  settled_rows-passed : (held : Option (Text × List Text)) (rows : List Row)
      → option_map_or (λ q. option_map_or (λ a. use_fault again a q.1 rows) (arg_by_id c q.0) []) held [] ≡ []
      → AllPassed id p rows → AllPassed id p (settled_rows c held rows)
  settled_rows-passed None rows none all = all
  settled_rows-passed (Some q) rows none all = used_by_id-passed (arg_by_id c q.0) q.1 rows (by_id q.0) none all

  settled-passed : (h : Held) → settle_fault c again h ≡ [] → AllPassed id p h.rows → AllPassed id p (settled c h).rows
  settled-passed h none all = settled_rows-passed h.pending h.rows none all

  reacted-passed : (a : Rule) (values : List Text) (h : Held) → IsParsedBy id p a
      → react_fault c again a values h ≡ [] → AllPassed id p h.rows → AllPassed id p (reacted c a values h).rows
  reacted-passed a values h is none all =
      let parts = both_none (settle_fault c again h) (use_fault again a values (settled c h).rows) none in
      used-passed id p again a values (settled c h).rows is parts.1 (settled-passed h parts.0 all)

  option_met-passed : (a : Rule) (v : Option Text) (h : Held) → IsParsedBy id p a → option_fault c again a v h ≡ []
      → AllPassed id p h.rows → AllPassed id p (option_met c a v h).0.rows
  option_met-passed a (Some v) h is none all = reacted-passed a (v ∷ []) h is none all
  option_met-passed a None h is none all = settled-passed h none all

  flag_met-passed : (a : Rule) (v : Option Text) (h : Held) → IsParsedBy id p a
      → (if is_some v then kind.TooManyValues ∷ [] else react_fault c again a [] h) ≡ []
      → AllPassed id p h.rows → AllPassed id p (flag_met c a v h).0.rows
  flag_met-passed a (Some v) h is none all = all
  flag_met-passed a None h is none all = reacted-passed a [] h is none all

  long_met-passed : (found : Option Rule) (v : Option Text) (h : Held) → IfSome found (IsParsedBy id p)
      → long_fault c again found v h ≡ [] → AllPassed id p h.rows → AllPassed id p (long_met c found v h).0.rows
  long_met-passed None v h is none all = all
  long_met-passed (Some a) v h is none all = go (takes_values a) none
    where
      go : (b : Bool)
          → (if b then option_fault c again a v h
          else (if is_some v then kind.TooManyValues ∷ [] else react_fault c again a [] h)) ≡ []
          → AllPassed id p (if b then option_met c a v h else flag_met c a v h).0.rows
      go true e = option_met-passed a v h is e all
      go false e = flag_met-passed a v h is e all

  short_met-passed : (found : Option Rule) (rest : Text) (h : Held) (fault : Held → Kinds)
      (after : Held → Held × Outcome) → IfSome found (IsParsedBy id p)
      → ((k : Held) → fault k ≡ [] → AllPassed id p k.rows → AllPassed id p (after k).0.rows)
      → short_fault c again found rest h fault ≡ [] → AllPassed id p h.rows
      → AllPassed id p (short_met c found rest h after).0.rows
  short_met-passed None rest h fault after is later none all = all
  short_met-passed (Some a) rest h fault after is later none all = go (takes_values a) none
    where
      go : (b : Bool)
          → (if b then option_fault c again a (attached_value rest) h
          else or_else (react_fault c again a [] h) (fault (reacted c a [] h))) ≡ []
          → AllPassed id p (if b then option_met c a (attached_value rest) h else after (reacted c a [] h)).0.rows
      go true e = option_met-passed a (attached_value rest) h is e all
      go false e =
          let parts = both_none (react_fault c again a [] h) (fault (reacted c a [] h)) e in
          later (reacted c a [] h) parts.1 (reacted-passed a [] h is parts.0 all)

  bundle_step-passed : (x : Option ℕ) (flags : Text) (skip : ℕ) (so_far : Outcome) (h : Held)
      (fault : Text → ℕ → Held → Kinds) (after : Text → ℕ → Outcome → Held → Held × Outcome)
      → ((t : Text) (n : ℕ) (o : Outcome) (k : Held) → fault t n k ≡ [] → AllPassed id p k.rows
      → AllPassed id p (after t n o k).0.rows) → bundle_step_fault c again x flags skip h fault ≡ []
      → AllPassed id p h.rows → AllPassed id p (bundle_step c x flags skip so_far h after).0.rows
  bundle_step-passed None flags skip so_far h fault after later none all = all
  bundle_step-passed (Some x) flags zero so_far h fault after later none all =
      let rest : Text = drop (length (encode_utf8 x)) flags in
      short_met-passed (arg_by_short c x) rest h (fault rest 0) (after rest 0 done) (by_short x) (later rest 0 done)
      none all
  bundle_step-passed (Some x) flags (suc skip) so_far h fault after later none all =
      later (drop (length (encode_utf8 x)) flags) skip so_far h none all

  bundle_met-passed : (k : ℕ) (flags : Text) (skip : ℕ) (so_far : Outcome) (h : Held)
      → flags_fault c again k flags skip h ≡ [] → AllPassed id p h.rows
      → AllPassed id p (bundle_met c k flags skip so_far h).0.rows
  unfolding bundle_met flags_fault
  bundle_met-passed zero flags skip so_far h none all = all
  bundle_met-passed (suc k) flags skip so_far h none all =
      bundle_step-passed (slice_get (chars flags) 0) flags skip so_far h (flags_fault c again k) (bundle_met c k)
      (bundle_met-passed k) none all

  option_word-passed : (found : Option Rule) (name word : Text) (h : Held) → AllPassed id p h.rows
      → AllPassed id p (option_word found name word h).0.rows
  option_word-passed None name word h all = all
  option_word-passed (Some a) name word h all = all

  plain_word-passed : (w : Waiting) (word : Text) (h : Held) → AllPassed id p h.rows
      → AllPassed id p (plain_word c w word h).0.rows
  plain_word-passed idle word h all = all
  plain_word-passed (option name) word h all = option_word-passed (arg_by_id c name) name word h all
  plain_word-passed positional word h all = all

  after_flag-passed : (w : Waiting) (word : Text) (h : Held) (o : Outcome) → AllPassed id p h.rows
      → AllPassed id p (after_flag c w word h o).0.rows
  after_flag-passed w word h done all = all
  after_flag-passed w word h (waits name) all = all
  after_flag-passed w word h plain all = plain_word-passed w word h all
  after_flag-passed w word h refused all = plain_word-passed w word h all

  long_word-passed : (w : Waiting) (word name : Text) (v : Option Text) (h : Held)
      → long_fault c again (arg_by_long c name) v h ≡ [] → AllPassed id p h.rows
      → AllPassed id p (long_word c w word name v h).0.rows
  long_word-passed w word name v h none all =
      let met = long_met c (arg_by_long c name) v h in
      after_flag-passed w word met.0 met.1 (long_met-passed (arg_by_long c name) v h (by_long name) none all)

  short_word-passed : (w : Waiting) (word flags : Text) (h : Held) → bundle_fault c again flags h ≡ []
      → AllPassed id p h.rows → AllPassed id p (short_word c w word flags h).0.rows
  short_word-passed w word flags h none all =
      let met = bundle c flags h in
      after_flag-passed w word met.0 met.1
      (bundle_met-passed (length flags) flags h.skip plain (record h { skip = 0 }) none all)

  short_or_plain-passed : (w : Waiting) (word : Text) (flags : Option Text) (h : Held)
      → option_map_or (λ f. bundle_fault c again f h) flags [] ≡ [] → AllPassed id p h.rows
      → AllPassed id p (short_or_plain c w word flags h).0.rows
  short_or_plain-passed w word (Some flags) h none all = short_word-passed w word flags h none all
  short_or_plain-passed w word None h none all = plain_word-passed w word h all

  long_or_other-passed : (w : Waiting) (word : Text) (long : Option (Text × Option Text)) (h : Held)
      → flag_word_fault c again long word h ≡ [] → AllPassed id p h.rows
      → AllPassed id p (long_or_other c w word long h).0.rows
  long_or_other-passed w word (Some q) h none all = long_word-passed w word q.0 q.1 h none all
  long_or_other-passed w word None h none all = short_or_plain-passed w word (short_of word) h none all

  positional_held-passed : (a : Rule) (word : Text) (h : Held) → positional_fault c again a h ≡ []
      → AllPassed id p h.rows → AllPassed id p (positional_held c a word h).rows
  positional_held-passed a word h none all = go (is_pending a h.pending && takes_several a) none
    where
      go : (b : Bool) → (if b then [] else settle_fault c again h) ≡ []
          → AllPassed id p (if b then h else settled c h).rows
      go true e = all
      go false e = settled-passed h e all

-- ---- one level of the parse

module _ (id : Text) (p : ValueParser) (s : Shape) (own : AreParsedBy id p s.rules) (names : Names) where
  other-passed : (name : Option Text) (w : Waiting) (position : ℕ) (word : Text) (h : Held)
      → other_fault s name word h ≡ [] → AllPassed id p h.rows
      → AllPassed id p (subcommand_or_other s.rules name w position word h).0.rows
  other-passed (Some name) w position word h none all = all
  other-passed None w position word h none all = go (bytes_eq word (45 ∷ 45 ∷ [])) none
    where
      go : (b : Bool)
          → (if b then [] else flag_word_fault s.rules s.args_override_self (long_of word) word h) ≡ []
          → AllPassed id p (if b then (h, trailing position) else long_or_other s.rules w word (long_of word) h).0.rows
      go true e = all
      go false e = long_or_other-passed id p s.rules own s.args_override_self w word (long_of word) h e all

  word_met-passed : (is_trailing : Bool) (w : Waiting) (position : ℕ) (word : Text) (h : Held)
      → word_fault s names is_trailing w word h ≡ [] → AllPassed id p h.rows
      → AllPassed id p (word_met s.rules names is_trailing w position word h).0.rows
  word_met-passed true w position word h none all = all
  word_met-passed false w position word h none all =
      other-passed (subcommand_met names w word) w position word h none all

  to_positional-passed : (found : Option Rule) (word : Text) (w : Walk) (h : Held)
      → option_map_or (λ a. positional_fault s.rules s.args_override_self a h) found (stray_fault s) ≡ []
      → AllPassed id p h.rows → AllPassed id p (to_positional s.rules found word w h).held.rows
  to_positional-passed None word w h none all = all
  to_positional-passed (Some a) word w h none all =
      positional_held-passed id p s.rules own s.args_override_self a word h none all

  after_step-passed : (word : Text) (w : Walk) (h : Held) (step : Step) → step_fault s w.position h step ≡ []
      → AllPassed id p h.rows → AllPassed id p (after_step s.rules word w h step).held.rows
  after_step-passed word w h (next waiting) none all = all
  after_step-passed word w h (trailing position) none all = all
  after_step-passed word w h (subcommand name) none all = all
  after_step-passed word w h value none all =
      to_positional-passed (arg_by_index s.rules w.position) word w h none all

  walked_from-passed : (stop : Option (Text × List Text)) (w : Walk) (word : Text)
      → (let met = word_met s.rules names w.is_trailing w.waiting w.position word w.held in
      if is_some stop then []
      else or_else (word_fault s names w.is_trailing w.waiting word w.held)
      (step_fault s w.position met.0 met.1)) ≡ []
      → AllPassed id p w.held.rows → AllPassed id p (walked_from s.rules names stop w word).held.rows
  walked_from-passed (Some q) w word none all = all
  walked_from-passed None w word none all =
      let met = word_met s.rules names w.is_trailing w.waiting w.position word w.held in
      let parts = both_none (word_fault s names w.is_trailing w.waiting word w.held) _ none in
      after_step-passed word w met.0 met.1 parts.1
      (word_met-passed w.is_trailing w.waiting w.position word w.held parts.0 all)

  walked-passed : (w : Walk) (word : Text) → turn_fault s names w word ≡ [] → AllPassed id p w.held.rows
      → AllPassed id p (walked s.rules names w word).held.rows
  unfolding walked
  walked-passed w word none all = walked_from-passed w.stopped w word none all

  walk-passed : (words : List Text) (w : Walk) → walk_fault s names w words ≡ [] → AllPassed id p w.held.rows
      → AllPassed id p (fold (walked s.rules names) w words).held.rows
  unfolding walk_fault
  walk-passed [] w none all = all
  walk-passed (word ∷ words) w none all =
      let parts = both_none (turn_fault s names w word) _ none in
      walk-passed words (walked s.rules names w word) parts.1 (walked-passed w word parts.0 all)

default_rows-passed : (id : Text) (p : ValueParser) (name : Text) (how : Reading) (values : List Text) (rows : List Row)
    → (bytes_eq name id ≡ true → values ≡ []) → AllPassed id p rows → AllPassed id p (default_rows name how values rows)
default_rows-passed id p name how [] rows none all = all
default_rows-passed id p name how (v ∷ vs) rows none all =
    with_values-passed id p name how DefaultValue (v ∷ vs) rows (λ e. let bad : v ∷ vs ≡ [] = none e in absurd (cc)) all

defaults-passed : (id : Text) (p : ValueParser) (rules : List Rule) (rows : List Row) → AreParsedBy id p rules
    → AllPassed id p rows → AllPassed id p (fold with_default rows rules)
defaults-passed id p [] rows own all = all
defaults-passed id p (a ∷ rest) rows own all =
    defaults-passed id p rest (with_default rows a) own.1 (go (has_row a.id rows))
  where
    go : (b : Bool) → AllPassed id p (if b then rows else default_rows a.id (reading_by a) a.defaults rows)
    go true = all
    go false = default_rows-passed id p a.id (reading_by a) a.defaults rows (λ e. (own.0 e).3) all

level-passed : (id : Text) (p : ValueParser) (s : Shape) → AreParsedBy id p s.rules → (names : Names)
    (words : List Text) (has_subcommand : Bool) (below : Kinds)
    → level_fault s names nothing_held words has_subcommand below ≡ [] → AllPassed id p (rows_after s.rules names words)
level-passed id p s own names words has_subcommand below none =
    let over : Held = (walk s.rules names nothing_held words).held in
    let first = both_none (walk_fault s names (walk_from nothing_held) words) _ none in
    let second = both_none below _ first.1 in
    let third = both_none (settle_fault s.rules s.args_override_self over) _ second.1 in
    defaults-passed id p s.rules (settled s.rules over).rows own
    (settled-passed id p s.rules own s.args_override_self over third.0
    (walk-passed id p s own names words (walk_from nothing_held) first.0 tt))

-- ---- the program

found_shape : (id : Text) (p : ValueParser) (test : Shape → Bool) (shapes : List Shape) → AllParsedBy id p shapes
    → IfSome (find test shapes) (λ s. AreParsedBy id p s.rules)
found_shape id p test [] all = tt
found_shape id p test (s ∷ rest) all = go (test s) (found_shape id p test rest all.1)
  where
    go : (b : Bool) → IfSome (find test rest) (λ x. AreParsedBy id p x.rules)
        → IfSome (cond b (Some s) (find test rest)) (λ x. AreParsedBy id p x.rules)
    go true later = all.0
    go false later = later

entered-passed : (id : Text) (p : ValueParser) (a : App) (stop : Option (Text × List Text)) (met : Text × List Row)
    → AllParsedBy id p a.subs → entered_fault a stop ≡ [] → entered a stop ≡ Some met → AllPassed id p met.1
entered-passed id p a None met own none e = absurd (cc)
entered-passed id p a (Some q) met own none e =
    go (find (λ s. answers_to q.0 (label_of s)) a.subs)
    (found_shape id p (λ s. answers_to q.0 (label_of s)) a.subs own) none e
  where
    go : (o : Option Shape) → IfSome o (λ s. AreParsedBy id p s.rules)
        → option_map_or (λ s. level_fault s [] nothing_held q.1 false []) o [] ≡ []
        → option_map (λ s. rows_at s q.1) o ≡ Some met → AllPassed id p met.1
    go None is none e = absurd (cc)
    go (Some s) is none e =
        subst (λ (m : Text × List Row). AllPassed id p m.1) (some_same e)
        (level-passed id p s is [] q.1 false [] none)

program-passed : (id : Text) (p : ValueParser) (words : List Text) (met : Text × List Row)
    → AllParsedBy id p (built anscheck).subs → fault_of anscheck words ≡ [] → subcommand_of anscheck words ≡ Some met
    → AllPassed id p met.1
program-passed id p words met own none e =
    let rest = argument_words anscheck words in
    let names = names_of (built anscheck) in
    let stop = (walk (built anscheck).top.rules names nothing_held rest).stopped in
    let first = both_none (walk_fault (built anscheck).top names (walk_from nothing_held) rest) _ none in
    entered-passed id p (built anscheck) stop met own (both_none (entered_fault (built anscheck) stop) _ first.1).0 e

-- ---- the rules of the commands

-- rules of other ids
others : (id : Text) (p : ValueParser) (rules : List Rule) → list_any (λ a. bytes_eq a.id id) rules ≡ false
    → AreParsedBy id p rules
others id p [] none = tt
others id p (a ∷ rest) none =
    let parts = or_parts (bytes_eq a.id id) (list_any (λ r. bytes_eq r.id id) rest) none in
    ((λ e. absurd (true≢false (sym e ∙ parts.0))), others id p rest parts.1)

-- what is built of a command, by its place in the help
abbrev built_command : ℕ → Shape
built_command i = get_or (built anscheck).subs i (built anscheck).top

-- commands whose rules have other ids
others_of : (id : Text) (p : ValueParser) (shapes : List Shape)
    → list_any (λ s. list_any (λ a. bytes_eq a.id id) s.rules) shapes ≡ false → AllParsedBy id p shapes
others_of id p [] none = tt
others_of id p (s ∷ rest) none =
    let parts = or_parts (list_any (λ a. bytes_eq a.id id) s.rules)
    (list_any (λ x. list_any (λ a. bytes_eq a.id id) x.rules) rest) none in
    (others id p s.rules parts.0, others_of id p rest parts.1)

-- of the program's commands `mend` alone, the second, has a rule of this id
mend_parsed : (id : Text) (p : ValueParser) → list_any (λ a. bytes_eq a.id id) (built_command 0).rules ≡ false
    → AreParsedBy id p (built_command 1).rules
    → list_any (λ s. list_any (λ a. bytes_eq a.id id) s.rules) (drop 2 (built anscheck).subs) ≡ false
    → AllParsedBy id p (built anscheck).subs
mend_parsed id p before here behind =
    (others id p (built_command 0).rules before, (here, others_of id p (drop 2 (built anscheck).subs) behind))

-- rules of other ids, and after them rules that are known
after_others : (id : Text) (p : ValueParser) (n : ℕ) (rules : List Rule)
    → list_any (λ a. bytes_eq a.id id) (take n rules) ≡ false → AreParsedBy id p (drop n rules)
    → AreParsedBy id p rules
after_others id p zero rules none rest = rest
after_others id p (suc n) [] none rest = tt
after_others id p (suc n) (a ∷ rules) none rest =
    let parts = or_parts (bytes_eq a.id id) (list_any (λ r. bytes_eq r.id id) (take n rules)) none in
    ((λ e. absurd (true≢false (sym e ∙ parts.0))), after_others id p n rules parts.1 rest)

-- the rules of `mend` from the one at this place on
abbrev mend_rules : ℕ → List Rule
mend_rules n = drop n (built_command 1).rules

widths_parsed : AllParsedBy (codes "add-record") (numbers_up_to 1024) (built anscheck).subs
widths_parsed =
    mend_parsed (codes "add-record") (numbers_up_to 1024) refl
    (after_others (codes "add-record") (numbers_up_to 1024) 15 (mend_rules 0) refl
    ((λ e. (refl, refl, refl, refl)), others (codes "add-record") (numbers_up_to 1024) (mend_rules 16) refl))
    refl

columns_parsed : AllParsedBy (codes "columns") (numbers_up_to 1024) (built anscheck).subs
columns_parsed =
    mend_parsed (codes "columns") (numbers_up_to 1024) refl
    (after_others (codes "columns") (numbers_up_to 1024) 14 (mend_rules 0) refl
    ((λ e. (refl, refl, refl, refl)), others (codes "columns") (numbers_up_to 1024) (mend_rules 15) refl))
    refl

lines_parsed : AllParsedBy (codes "lines") (numbers_up_to 8192) (built anscheck).subs
lines_parsed =
    mend_parsed (codes "lines") (numbers_up_to 8192) refl
    (after_others (codes "lines") (numbers_up_to 8192) 13 (mend_rules 0) refl
    ((λ e. (refl, refl, refl, refl)), others (codes "lines") (numbers_up_to 8192) (mend_rules 14) refl))
    refl

-- ---- numbers

-- a text that passed the range has no hyphen before its digits
signed_number : (most : ℕ) (t : Text) → IsSignedIn (pos 1) (pos most) t
    → (without_minus t ≡ t) × IsNumberUpTo most t
signed_number most t passed = go (starts_with_minus t) refl
  where
    unsigned : (u : Text) → starts_with_minus u ≡ false → without_minus u ≡ u
    unsigned [] minus = refl
    unsigned (x ∷ xs) minus = by (x == 45) minus
      where
        by : (b : Bool) → b ≡ false → unwrap_or (if b then Some xs else None) (x ∷ xs) ≡ x ∷ xs
        by true e = absurd (true≢false e)
        by false e = refl

    go : (b : Bool) → starts_with_minus t ≡ b → (without_minus t ≡ t) × IsNumberUpTo most t
    go true minus =
        let low = rw minus at passed.2 in
        absurd (omega (arith, ints))
    go false minus =
        let low = rw minus at passed.2 in
        let high = rw minus at passed.3 in
        (unsigned t minus, (rw minus at passed.0, omega (arith, ints), omega (arith, ints)))

-- the first value of a row that passed
row_number : (most : ℕ) (r : Row) → Passed (numbers_up_to most) r
    → (row_text r ≡ slice_get r.values 0) × IfSome (slice_get r.values 0) (IsNumberUpTo most)
row_number most r passed = go r.values passed.0
  where
    p : ValueParser
    p = numbers_up_to most

    accepted : (t : Text) (b : Bool) → accepts false p t ≡ b → (if b then [] else kind.ValueValidation ∷ []) ≡ []
        → IsSignedIn (pos 1) (pos most) t
    accepted t true is e = accepts-Accepts false p t is
    accepted t false is e = absurd (cc)

    go : (values : List Text) → values_kinds false p values ≡ []
        → (option_map (read_as r.reading) (slice_get values 0) ≡ slice_get values 0)
        × IfSome (slice_get values 0) (IsNumberUpTo most)
    go [] none = (refl, tt)
    go (v ∷ vs) none =
        let first = (both_none (value_kinds false p v) _ none).0 in
        let number = signed_number most v (accepted v (accepts false p v) refl first) in
        (ap (λ t. Some t) (ap (λ (how : Reading). read_as how v) passed.1 ∙ number.0), number.1)

number_passed : (most : ℕ) (id : Text) (rows : List Row) → AllPassed id (numbers_up_to most) rows
    → HasNumberUpTo most id rows
number_passed most id [] all = (refl, tt)
number_passed most id (r ∷ rows) all = go (bytes_eq r.id id) refl (number_passed most id rows all.1)
  where
    go : (b : Bool) → bytes_eq r.id id ≡ b → HasNumberUpTo most id rows
        → (option_and_then row_text (cond b (Some r) (find (λ x. bytes_eq x.id id) rows))
        ≡ option_and_then (λ x. slice_get x.values 0) (cond b (Some r) (find (λ x. bytes_eq x.id id) rows)))
        × IfSome (option_and_then (λ x. slice_get x.values 0) (cond b (Some r) (find (λ x. bytes_eq x.id id) rows)))
        (IsNumberUpTo most)
    go true is later = row_number most r (all.0 is)
    go false is later = later

-- the numbers of a subcommand that words without a fault name
numbers_found : (words : List Text) (met : Text × List Row) → fault_of anscheck words ≡ []
    → subcommand_of anscheck words ≡ Some met → HasNumbersOfMend met.1
numbers_found words met none e = (
  number_passed 1024 (codes "add-record") met.1
      (program-passed (codes "add-record") (numbers_up_to 1024) words met widths_parsed none e),
  number_passed 1024 (codes "columns") met.1
      (program-passed (codes "columns") (numbers_up_to 1024) words met columns_parsed none e),
  number_passed 8192 (codes "lines") met.1
      (program-passed (codes "lines") (numbers_up_to 8192) words met lines_parsed none e),
)

-- a number, as `get_one` reads it
pub number_reads : (E : Type 0) (G : Text → Result ℕ E → Type 0) (f : Found) (id : Text) (r : Option ℕ)
    → ((u : Text) (x : Result ℕ E) → G u x → ParsesUnsigned 16 10 u x) → HasNumberUpTo 65535 id (rows_of f)
    → (one_text f id ≡ None → r ≡ None) → ((t : Text) → one_text f id ≡ Some t → ReadsOne G t r)
    → r ≡ number_asked id (rows_of f)
number_reads E G f id r only has none reads =
    go (first_of id (rows_of f)) (one_text-rows f id ∙ has.0) has.1
  where
    read : (t : Text) (o : Option ℕ) → IsNumberUpTo 65535 t → ReadsOne G t o → o ≡ Some (number_written t)
    read t (Some v) number h = ap (λ (n : ℕ). Some n) (only t (Ok v) h).1
    read t None number h =
        let small : digits_value 10 (without_leading_plus t) < 2 ^ 16 = omega (arith, number.2) in
        absurd (only t (Err h.0) h.1 (number.0, small))

    go : (o : Option Text) → one_text f id ≡ o → IfSome o (IsNumberUpTo 65535) → r ≡ option_map number_written o
    go None e number = none e
    go (Some t) e number = read t r number (reads t e)

-- what the program finds in words without a fault has its numbers
pub numbers_met : (words : List Text) (sub : Option (Text × List Row)) → fault_of anscheck words ≡ []
    → subcommand_of anscheck words ≡ sub → IsSome sub → IsSomeAnd sub (λ met. HasNumbersOfMend met.1)
numbers_met words None none e some = absurd (cc)
numbers_met words (Some met) none e some = numbers_found words met none e
