-- Where help may be the fault of the program's words, it is the only kind there; and so is the version.
use Rattle.std.proofs.Common.{◌≡◌, ◌⊎◌, inl, inr, ℕ, zero, suc, ◌+◌, Bool, true, false, not, ◌&&◌, ◌||◌, ◌==◌, refl}
use Rattle.std.proofs.Common.{sym, ap, List, [], ◌∷◌, length, drop, Option, Some, None, codes}
use Rattle.std.specs.Prelude.{if◌then◌else◌, find, is_some, slice_get, encode_utf8, min, nat_lt}
use Rattle.std.specs.List.{list_any}
use Rattle.std.specs.Option.{option_map_or}
use Rattle.std.specs.Str.{bytes_eq, chars}
use Rattle.clap.specs.Words.{App, Kinds, Row, Rule, Shape, Text, fault_of}
use Rattle.clap.specs.Facts.{explicit_source, parser_of_value, unwrap_or_range}
use Rattle.clap.specs.Matches.{count_text}
use Rattle.clap.specs.Takes.{is_given}
use Rattle.clap.specs.Values.{refused_kind}
use Rattle.clap.specs.ValueTests.{accepts}
use Rattle.clap.specs.Faults.{action_fault, bundle_step_fault, check_fault, count_fault, default_fault, defaults_fault}
use Rattle.clap.specs.Faults.{entered_fault, flag_word_fault, flags_fault, level_fault, long_fault, option_fault}
use Rattle.clap.specs.Faults.{other_fault, positional_fault, react_fault, set_fault, settle_fault, short_fault}
use Rattle.clap.specs.Faults.{step_fault, stray_fault, turn_fault, use_fault, walk_fault, word_fault}
use Rattle.clap.specs.Kinds.{check_kinds, or_else, range_kinds, request_kinds, value_kinds, values_kinds}
use Rattle.clap.specs.Lexer.{long_of, short_of}
use Rattle.clap.specs.Simple.{argument_words, built, entered, label_of, names_of}
use Rattle.clap.specs.Walk.{Held, Names, Step, Waiting, Walk, action_of, answers_to, arg_by_id, arg_by_index}
use Rattle.clap.specs.Walk.{arg_by_long, arg_by_short, attached_value, finished, nothing_held, reacted, settled}
use Rattle.clap.specs.Walk.{subcommand_met, values_or_missing, walk, walk_from, walked, with_default, word_met}
use Rattle.clap.specs.Walk.{count_of, has_row, is_empty, is_pending, most_values, takes_several, takes_values}
use Rattle.clap.specs.Walk.{idle, option, positional, next, trailing, subcommand, value}
use Rattle.clap.specs.declared.builder.ArgAction.{ArgAction}
use Rattle.clap.specs.declared.builder.ArgAction.TheVariants as action
use Rattle.clap.specs.declared.builder.value_parser.ValueParser.{ValueParser}
use Rattle.clap.specs.declared.error.ErrorKind.{ErrorKind}
use Rattle.clap.specs.declared.error.ErrorKind.TheVariants as kind
use Rattle.ans_options.specs.CommandLine.{anscheck}
use Rattle.ans_check_laws.specs.Requests.{IsAloneOrNotAtAll, IsRequestAloneOrNotAtAll}

-- ---- kinds

none_at_all : IsRequestAloneOrNotAtAll []
none_at_all = record { help = λ h. absurd h; version = λ h. absurd h }

alone : (asked k : ErrorKind) → IsAloneOrNotAtAll asked (k ∷ [])
alone asked k (inl e) = ap (λ (v : ErrorKind). v ∷ []) (sym e)
alone asked k (inr never) = absurd never

one_kind : (k : ErrorKind) → IsRequestAloneOrNotAtAll (k ∷ [])
one_kind k = record { help = alone kind.DisplayHelp k; version = alone kind.DisplayVersion k }

first_or : (a b : Kinds) → IsRequestAloneOrNotAtAll a → IsRequestAloneOrNotAtAll b
    → IsRequestAloneOrNotAtAll (or_else a b)
first_or [] b h g = g
first_or (k ∷ a) b h g = h

either : (test : Bool) (a b : Kinds) → IsRequestAloneOrNotAtAll a → IsRequestAloneOrNotAtAll b
    → IsRequestAloneOrNotAtAll (if test then a else b)
either true a b h g = h
either false a b h g = g

of_some : {X : Type 0} (f : X → Kinds) (o : Option X) (other : Kinds) → ((x : X) → IsRequestAloneOrNotAtAll (f x))
    → IsRequestAloneOrNotAtAll other → IsRequestAloneOrNotAtAll (option_map_or f o other)
of_some f None other h g = g
of_some f (Some x) other h g = h x

-- ---- one use of an argument

of_range : (least most n : ℕ) → IsRequestAloneOrNotAtAll (range_kinds least most n)
of_range least most n =
    either (nat_lt 0 least && n == 0) _ _ (one_kind kind.InvalidValue)
    (either (least == most) _ _ (either (least == n) _ _ none_at_all (one_kind kind.WrongNumberOfValues))
    (either (nat_lt n least) _ _ (one_kind kind.TooFewValues)
    (either (nat_lt most n) _ _ (one_kind kind.TooManyValues) none_at_all)))

of_value : (ignore_case : Bool) (parser : ValueParser) (text : Text)
    → IsRequestAloneOrNotAtAll (value_kinds ignore_case parser text)
of_value ignore_case parser text =
    either (accepts ignore_case parser text) _ _ none_at_all (one_kind (refused_kind parser))

of_values : (ignore_case : Bool) (parser : ValueParser) (texts : List Text)
    → IsRequestAloneOrNotAtAll (values_kinds ignore_case parser texts)
of_values ignore_case parser [] = none_at_all
of_values ignore_case parser (v ∷ vs) =
    first_or _ _ (of_value ignore_case parser v) (of_values ignore_case parser vs)

of_count : (a : Rule) (values : List Text) (rows : List Row) → IsRequestAloneOrNotAtAll (count_fault a values rows)
of_count a [] rows =
    of_value a.ignore_case (parser_of_value a.parser) (count_text (min (count_of a.id rows + 1) 255))
of_count a (v ∷ vs) rows = of_values a.ignore_case (parser_of_value a.parser) (v ∷ vs)

of_set : (again : Bool) (a : Rule) (values : List Text) (rows : List Row)
    → IsRequestAloneOrNotAtAll (set_fault again a values rows)
of_set again a values rows =
    first_or _ _ (either (has_row a.id rows && not again) _ _ (one_kind kind.ArgumentConflict) none_at_all)
    (of_values a.ignore_case (parser_of_value a.parser) values)

of_request : (act : ArgAction) → IsRequestAloneOrNotAtAll (request_kinds act)
of_request action.Set = none_at_all
of_request action.Append = none_at_all
of_request action.SetTrue = none_at_all
of_request action.SetFalse = none_at_all
of_request action.Count = none_at_all
of_request action.Help = one_kind kind.DisplayHelp
of_request action.HelpShort = one_kind kind.DisplayHelp
of_request action.HelpLong = one_kind kind.DisplayHelp
of_request action.Version = one_kind kind.DisplayVersion

of_action : (act : ArgAction) (again : Bool) (a : Rule) (values : List Text) (rows : List Row)
    → IsRequestAloneOrNotAtAll (action_fault act again a values rows)
of_action action.Set again a values rows = of_set again a values rows
of_action action.Append again a values rows = of_values a.ignore_case (parser_of_value a.parser) values
of_action action.SetTrue again a values rows = of_set again a values rows
of_action action.SetFalse again a values rows = of_set again a values rows
of_action action.Count again a values rows = of_count a values rows
of_action action.Help again a values rows = of_request action.Help
of_action action.HelpShort again a values rows = of_request action.HelpShort
of_action action.HelpLong again a values rows = of_request action.HelpLong
of_action action.Version again a values rows = of_request action.Version

of_use : (again : Bool) (a : Rule) (values : List Text) (rows : List Row)
    → IsRequestAloneOrNotAtAll (use_fault again a values rows)
of_use again a values rows =
    first_or _ _ (of_range (unwrap_or_range a.range).start_inclusive (most_values a) (length values))
    (of_action (action_of a) again a (values_or_missing a values) rows)

-- ---- the walk

module _ (c : List Rule) (again : Bool) where
  of_settle : (h : Held) → IsRequestAloneOrNotAtAll (settle_fault c again h)
  of_settle h =
      of_some _ h.pending []
      (λ p. of_some _ (arg_by_id c p.0) [] (λ a. of_use again a p.1 h.rows) none_at_all) none_at_all

  of_react : (a : Rule) (values : List Text) (h : Held) → IsRequestAloneOrNotAtAll (react_fault c again a values h)
  of_react a values h = first_or _ _ (of_settle h) (of_use again a values (settled c h).rows)

  of_option : (a : Rule) (given : Option Text) (h : Held) → IsRequestAloneOrNotAtAll (option_fault c again a given h)
  of_option a (Some v) h = of_react a (v ∷ []) h
  of_option a None h = of_settle h

  of_long : (named : Option Rule) (given : Option Text) (h : Held)
      → IsRequestAloneOrNotAtAll (long_fault c again named given h)
  of_long None given h = one_kind kind.UnknownArgument
  of_long (Some a) given h =
      either (takes_values a) _ _ (of_option a given h)
      (either (is_some given) _ _ (one_kind kind.TooManyValues) (of_react a [] h))

  of_short : (named : Option Rule) (rest : Text) (h : Held) (later : Held → Kinds)
      → ((k : Held) → IsRequestAloneOrNotAtAll (later k))
      → IsRequestAloneOrNotAtAll (short_fault c again named rest h later)
  of_short None rest h later g = one_kind kind.UnknownArgument
  of_short (Some a) rest h later g =
      either (takes_values a) _ _ (of_option a (attached_value rest) h)
      (first_or _ _ (of_react a [] h) (g (reacted c a [] h)))

  of_bundle_step : (first : Option ℕ) (flags : Text) (skip : ℕ) (h : Held) (later : Text → ℕ → Held → Kinds)
      → ((t : Text) (n : ℕ) (k : Held) → IsRequestAloneOrNotAtAll (later t n k))
      → IsRequestAloneOrNotAtAll (bundle_step_fault c again first flags skip h later)
  of_bundle_step None flags skip h later g = none_at_all
  of_bundle_step (Some x) flags zero h later g =
      let rest = drop (length (encode_utf8 x)) flags in
      of_short (arg_by_short c x) rest h (later rest 0) (g rest 0)
  of_bundle_step (Some x) flags (suc skip) h later g = g (drop (length (encode_utf8 x)) flags) skip h

  of_flags : (k : ℕ) (flags : Text) (skip : ℕ) (h : Held)
      → IsRequestAloneOrNotAtAll (flags_fault c again k flags skip h)
  unfolding flags_fault
  of_flags zero flags skip h = none_at_all
  of_flags (suc k) flags skip h =
      of_bundle_step (slice_get (chars flags) 0) flags skip h (flags_fault c again k) (of_flags k)

  of_flag_word : (long : Option (Text × Option Text)) (word : Text) (h : Held)
      → IsRequestAloneOrNotAtAll (flag_word_fault c again long word h)
  of_flag_word (Some p) word h = of_long (arg_by_long c p.0) p.1 h
  of_flag_word None word h =
      of_some _ (short_of word) [] (λ flags. of_flags (length flags) flags h.skip (record h { skip = 0 })) none_at_all

-- what a word is that names no subcommand, or one where there is no subcommand `help`
of_other : (s : Shape) (named : Option Text) (word : Text) (h : Held)
    → (named ≡ None) ⊎ (s.disable_help_subcommand ≡ true) → IsRequestAloneOrNotAtAll (other_fault s named word h)
of_other s None word h way =
    either (bytes_eq word (45 ∷ 45 ∷ [])) _ _ none_at_all
    (of_flag_word s.rules s.args_override_self (long_of word) word h)
of_other s (Some name) word h (inl e) = absurd (cc)
of_other s (Some name) word h (inr e) = go (bytes_eq name (codes "help"))
  where
    go : (is_help : Bool) → IsRequestAloneOrNotAtAll (if is_help && not s.disable_help_subcommand
        then kind.DisplayHelp ∷ kind.InvalidSubcommand ∷ [] else [])
    go true = rw e none_at_all
    go false = none_at_all

of_checks : (wants_help wants_subcommand wants_argument : Bool)
    → IsRequestAloneOrNotAtAll (check_kinds wants_help wants_subcommand wants_argument)
of_checks wants_help wants_subcommand wants_argument =
    either wants_help _ _ (one_kind kind.DisplayHelpOnMissingArgumentOrSubcommand)
    (either wants_subcommand _ _ (one_kind kind.MissingSubcommand)
    (either wants_argument _ _ (one_kind kind.MissingRequiredArgument) none_at_all))

module _ (s : Shape) (names : Names)
    (unhelped : (waiting : Waiting) (word : Text)
    → (subcommand_met names waiting word ≡ None) ⊎ (s.disable_help_subcommand ≡ true)) where
  of_word : (is_trailing : Bool) (waiting : Waiting) (word : Text) (h : Held)
      → IsRequestAloneOrNotAtAll (word_fault s names is_trailing waiting word h)
  of_word is_trailing waiting word h =
      either is_trailing _ _ none_at_all
      (of_other s (subcommand_met names waiting word) word h (unhelped waiting word))

  of_positional : (a : Rule) (h : Held)
      → IsRequestAloneOrNotAtAll (positional_fault s.rules s.args_override_self a h)
  of_positional a h = either (is_pending a h.pending && takes_several a) _ _ none_at_all
      (of_settle s.rules s.args_override_self h)

  of_stray : IsRequestAloneOrNotAtAll (stray_fault s)
  of_stray = either s.is_leaf _ _ (one_kind kind.UnknownArgument) two
    where
      no_help : IsAloneOrNotAtAll kind.DisplayHelp (kind.UnknownArgument ∷ kind.InvalidSubcommand ∷ [])
      no_help (inl e) = absurd (cc)
      no_help (inr (inl e)) = absurd (cc)
      no_help (inr (inr never)) = absurd never

      no_version : IsAloneOrNotAtAll kind.DisplayVersion (kind.UnknownArgument ∷ kind.InvalidSubcommand ∷ [])
      no_version (inl e) = absurd (cc)
      no_version (inr (inl e)) = absurd (cc)
      no_version (inr (inr never)) = absurd never

      two : IsRequestAloneOrNotAtAll (kind.UnknownArgument ∷ kind.InvalidSubcommand ∷ [])
      two = record { help = no_help; version = no_version }

  of_step : (position : ℕ) (h : Held) (step : Step) → IsRequestAloneOrNotAtAll (step_fault s position h step)
  of_step position h value =
      of_some _ (arg_by_index s.rules position) (stray_fault s) (λ a. of_positional a h) of_stray
  of_step position h (next waiting) = none_at_all
  of_step position h (trailing n) = none_at_all
  of_step position h (subcommand name) = none_at_all

  of_turn : (w : Walk) (word : Text) → IsRequestAloneOrNotAtAll (turn_fault s names w word)
  of_turn w word =
      let met = word_met s.rules names w.is_trailing w.waiting w.position word w.held in
      either (is_some w.stopped) _ _ none_at_all
      (first_or _ _ (of_word w.is_trailing w.waiting word w.held) (of_step w.position met.0 met.1))

  of_walk : (w : Walk) (words : List Text) → IsRequestAloneOrNotAtAll (walk_fault s names w words)
  unfolding walk_fault
  of_walk w [] = none_at_all
  of_walk w (word ∷ rest) = first_or _ _ (of_turn w word) (of_walk (walked s.rules names w word) rest)

  of_default : (rows : List Row) (a : Rule) → IsRequestAloneOrNotAtAll (default_fault rows a)
  of_default rows a =
      either (has_row a.id rows || is_empty a.defaults) _ _ none_at_all
      (first_or _ _ (of_request (action_of a)) (of_values a.ignore_case (parser_of_value a.parser) a.defaults))

  of_defaults : (rows : List Row) (rules : List Rule) → IsRequestAloneOrNotAtAll (defaults_fault rows rules)
  unfolding defaults_fault
  of_defaults rows [] = none_at_all
  of_defaults rows (a ∷ rest) = first_or _ _ (of_default rows a) (of_defaults (with_default rows a) rest)

  of_check : (rows : List Row) (has_subcommand : Bool) → IsRequestAloneOrNotAtAll (check_fault s rows has_subcommand)
  of_check rows has_subcommand =
      of_checks (not has_subcommand
      && (s.arg_required_else_help && not (list_any (λ r. explicit_source r.source) rows)))
      (not has_subcommand && s.subcommand_required)
      (not (s.subcommand_negates_reqs && has_subcommand)
      && list_any (λ a. a.required && not (is_given a.id rows)) s.rules)

  of_level : (h : Held) (words : List Text) (has_subcommand : Bool) (below : Kinds) → IsRequestAloneOrNotAtAll below
      → IsRequestAloneOrNotAtAll (level_fault s names h words has_subcommand below)
  of_level h words has_subcommand below under =
      let end = (walk s.rules names h words).held in
      first_or _ _ (of_walk (walk_from h) words)
      (first_or _ _ under
      (first_or _ _ (of_settle s.rules s.args_override_self end)
      (first_or _ _ (of_defaults (settled s.rules end).rows s.rules)
      (of_check (finished s.rules end) has_subcommand))))

-- ---- the program

none_named : (waiting : Waiting) (word : Text) → subcommand_met [] waiting word ≡ None
none_named idle word = refl
none_named (option id) word = refl
none_named positional word = refl

of_entered : (a : App) (stop : Option (Text × List Text)) → IsRequestAloneOrNotAtAll (entered_fault a stop)
of_entered a stop =
    of_some _ stop [] (λ p. of_some _ (find (λ s. answers_to p.0 (label_of s)) a.subs) []
    (λ s. of_level s [] (λ waiting word. inl (none_named waiting word)) nothing_held p.1 false [] none_at_all)
    none_at_all) none_at_all

pub request_alone : (words : List Text) → IsRequestAloneOrNotAtAll (fault_of anscheck words)
request_alone words =
    let rest = argument_words anscheck words in
    let stop = (walk (built anscheck).top.rules (names_of (built anscheck)) nothing_held rest).stopped in
    of_level (built anscheck).top (names_of (built anscheck)) (λ waiting word. inr refl) nothing_held rest
    (is_some (entered (built anscheck) stop)) (entered_fault (built anscheck) stop) (of_entered (built anscheck) stop)
