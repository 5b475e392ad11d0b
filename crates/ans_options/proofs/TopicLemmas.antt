-- Names of topics, and the words that ask for one.
use Rattle.std.proofs.Common.{◌≡◌, ℕ, ◌+◌, ◌-◌, ◌<◌, ◌≤◌, Bool, true, false, true≢false, List, [], ◌∷◌, ◌++◌, length}
use Rattle.std.proofs.Common.{drop, take}
use Rattle.std.proofs.Common.{get_or, map, Some, None, codes, refl, sym, arith, drop-cons, add-one, ap, ◌∙◌}
use Rattle.std.specs.Prelude.{◌↔◌, IsSome, IsTrue, Option, find, if◌then◌else◌, option_map}
use Rattle.std.specs.Char.{eq_ignore_ascii_case}
use Rattle.std.specs.Fmt.{digits}
use Rattle.std.specs.Str.{bytes_eq, str_eq_ignore_ascii_case, str_to_ascii_lowercase}
use Rattle.std.specs.List.{list_all}
use Rattle.std.specs.Option.{option_map_or}
use Rattle.std.proofs.lemmas.List.{take_all}
use Rattle.std.proofs.lemmas.List.Folds.{list_all_at}
use Rattle.std.proofs.lemmas.Slice.Eq.{bytes_eq-Decides}
use Rattle.clap.specs.Words.{Text}
use Rattle.clap.specs.declared.error.ErrorKind.TheVariants.{InvalidSubcommand, UnknownArgument}
use Rattle.ans_model.specs.declared.fault.Cause.TheVariants.{UnknownCell}
use Rattle.ans_model.specs.declared.note.Note.TheVariants.{WidthAssumed}
use Rattle.ans_options.specs.CommandLine.{IsNoCommand, command_name, faults_of}
use Rattle.ans_options.specs.Topics.{IsTopic, names_in, topic_name, topic_named, topic_of}
use Rattle.ans_options.specs.declared.topic.WordTable.{WordTable}
use Rattle.ans_options.specs.declared.topic.WordTable.TheVariants.{Starts, Lines, Fixes, Differences, Columns}
use Rattle.ans_options.specs.declared.topic.HelpWord.{HelpWord}
use Rattle.ans_options.specs.declared.command.Command.{Command}
use Rattle.ans_options.specs.declared.command.Command.TheVariants.{Why, Check, Show, Sauce, Tokens, Needs, Table, Mend}
use Rattle.ans_options.specs.declared.command.Command.TheVariants.{Redraw}
use Rattle.ans_options.specs.declared.topic.Topic.{Topic}
use Rattle.ans_options.specs.declared.topic.Topic.TheVariants.{Fault, Note, Word}
use Rattle.ans_options.proofs.CommandLineLemmas.{not_true}
use Rattle.ans_options.proofs.HelpWords.{help_of_other}

-- a test that is true exactly where two texts are equal
pub decided : (r : Bool) (a b : Text) → IsTrue r ↔ (a ≡ b) → r ≡ bytes_eq a b
decided true a b h = sym ((bytes_eq-Decides a b).1 (h.0 refl))
decided false a b h = sym (not_true (bytes_eq a b) (λ same. true≢false (sym (h.1 ((bytes_eq-Decides a b).0 same)))))

-- a name of the right letter is that of the number whose digits follow
pub numbered : (r : Bool) (name digits : Text) (letter : ℕ) → 1 ≤ length name
    → eq_ignore_ascii_case (get_or name 0 0) letter ≡ true
    → IsTrue r ↔ (str_to_ascii_lowercase (take (length name - 1) (drop 1 name)) ≡ str_to_ascii_lowercase digits)
    → r ≡ str_eq_ignore_ascii_case name (letter ∷ digits)
numbered r [] digits letter some same test = absurd (omega (arith, some))
numbered r (x ∷ xs) digits letter some same test =
    rw same (decided r (str_to_ascii_lowercase xs) (str_to_ascii_lowercase digits)
    (rw (take_all (length (x ∷ xs) - 1) xs (omega arith)) at test))

-- what is found among the topics from one on: that one, or what is found behind it
module _ {A : Type 0} (p : Topic → Bool) (f : A → Topic) (xs : List A) (more : List Topic) (k : ℕ) (d : A)
    (found : Option Topic) (within : k < length xs) (is : find p (map f (drop k xs) ++ more) ≡ found) where
  here : (if p (f (get_or xs k d)) then Some (f (get_or xs k d)) else find p (map f (drop (k + 1) xs) ++ more)) ≡ found
  here = rw add-one (rw (drop-cons xs k d within) at is)

  pub found_here : p (f (get_or xs k d)) ≡ true → Some (f (get_or xs k d)) ≡ found
  found_here is_it = rw is_it at here

  pub found_behind : p (f (get_or xs k d)) ≡ false → find p (map f (drop (k + 1) xs) ++ more) ≡ found
  found_behind is_not = rw is_not at here

-- the name of a word finds a topic of that name
finds_itself : Text → Bool
finds_itself name = option_map_or (λ t. bytes_eq (topic_name t) name) (topic_named name) false

words_find : (table : WordTable) → list_all finds_itself (names_in table) ≡ true
unfolding digits finds_itself
words_find Starts = refl
words_find Lines = refl
words_find Fixes = refl
words_find Differences = refl
words_find Columns = refl

test_true : (b : Bool) → (b ≡ false → ⊥) → b ≡ true
test_true true h = refl
test_true false h = absurd (h refl)

word_found : (w : HelpWord) → w.place < length (names_in w.table) → finds_itself (topic_name (Word w)) ≡ true
word_found w within =
    test_true _ (λ not_it. true≢false
    (sym (words_find w.table) ∙ list_all_at finds_itself (names_in w.table) w.place [] within not_it))

found_itself : (name : Text) (found : Option Topic)
    → option_map_or (λ t. bytes_eq (topic_name t) name) found false ≡ true → option_map topic_name found ≡ Some name
found_itself name None is = absurd (true≢false (sym is))
found_itself name (Some t) is = ap (λ (n : Text). Some n) ((bytes_eq-Decides (topic_name t) name).0 is)

-- the name of a topic finds a topic of that name
pub found_by_name : (program : Text) (t : Topic) → IsTopic t
    → option_map topic_name (topic_of (program ∷ codes "help" ∷ topic_name t ∷ [])) ≡ Some (topic_name t)
unfolding digits finds_itself
found_by_name program (Fault (UnknownCell row col)) is = refl
found_by_name program (Fault cause) is = refl
found_by_name program (Note WidthAssumed) is = refl
found_by_name program (Note note) is = refl
found_by_name program (Word w) is =
    found_itself (topic_name (Word w)) (topic_named (topic_name (Word w))) (word_found w is)

-- no topic has the name of a command
command_unnamed : (c : Command) → topic_named (command_name c) ≡ None
unfolding digits
command_unnamed Why = refl
command_unnamed Needs = refl
command_unnamed Check = refl
command_unnamed (Show form) = refl
command_unnamed Sauce = refl
command_unnamed Tokens = refl
command_unnamed (Table form) = refl
command_unnamed (Mend choice) = refl
command_unnamed Redraw = refl

pub no_topic_of_command : (program : Text) (c : Command)
    → topic_of (program ∷ codes "help" ∷ command_name c ∷ []) ≡ None
no_topic_of_command program c = command_unnamed c

-- so what has the name of a topic is no command
no_command : (name : Text) → IsSome (topic_named name) → IsNoCommand name
no_command name some c is =
    let none : topic_named name ≡ None = rw is (command_unnamed c) in
    absurd (true≢false (sym (rw none at some)))

-- words that ask for a topic are a mistake to clap
pub topic_mistaken : (words : List Text) → IsSome (topic_of words)
    → faults_of words ≡ UnknownArgument ∷ InvalidSubcommand ∷ []
topic_mistaken [] some = absurd (true≢false (sym some))
topic_mistaken (program ∷ []) some = absurd (true≢false (sym some))
topic_mistaken (program ∷ word ∷ []) some = absurd (true≢false (sym some))
topic_mistaken (program ∷ word ∷ name ∷ a ∷ more) some = absurd (true≢false (sym some))
topic_mistaken (program ∷ word ∷ name ∷ []) some = go (bytes_eq word (codes "help")) refl some
  where
    go : (b : Bool) → bytes_eq word (codes "help") ≡ b → IsSome (if b then topic_named name else None)
        → faults_of (program ∷ word ∷ name ∷ []) ≡ UnknownArgument ∷ InvalidSubcommand ∷ []
    go true help some =
        rw ((bytes_eq-Decides word (codes "help")).0 help) (help_of_other program name [] (no_command name some))
    go false other some = absurd (true≢false (sym some))
