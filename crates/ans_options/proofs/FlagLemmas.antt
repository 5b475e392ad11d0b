-- An argument that a command does not take has no row in its matches. So without flags nothing is known of the start.
use Rattle.std.proofs.Common.{◌≡◌, ◌≢◌, ◌∙◌, Bool, ◌&&◌, ◌||◌, true, false, true≢false, List, [], ◌∷◌, Option, Some}
use Rattle.std.proofs.lemmas.Bool.{or_parts}
use Rattle.std.proofs.Common.{String, Vec, None, refl, sym, subst, inl, inr, codes}
use Rattle.std.specs.Global.{Global}
use Rattle.std.specs.Prelude.{option_map, string_bytes, IsSomeAnd, if◌then◌else◌}
use Rattle.std.specs.List.{list_any}
use Rattle.std.specs.Str.{bytes_eq}
use Rattle.std.proofs.lemmas.Slice.Eq.{bytes_eq-Decides}
use Rattle.clap.specs.Simple.{built}
use Rattle.clap.specs.Walk.{rows_after}
use Rattle.clap.specs.Words.{Row, Shape, Text, subcommand_of}
use Rattle.ans_model.specs.declared.start.Start.{Start}
use Rattle.ans_model.specs.Screen.StartClass.{all_known, none_known}
use Rattle.ans_options.specs.declared.command.Asked.{Asked}
use Rattle.ans_options.specs.declared.command.Asked.TheVariants as asked
use Rattle.ans_options.specs.declared.command.Command.{Command}
use Rattle.ans_options.specs.declared.command.Command.TheVariants.{Why, Check, Show, Sauce, Tokens, Needs, Table, Mend}
use Rattle.ans_options.specs.declared.command.Command.TheVariants.{Redraw}
use Rattle.ans_options.specs.declared.command.MendChoice.{MendChoice}
use Rattle.ans_options.specs.declared.command.Options.{Options}
use Rattle.ans_options.specs.declared.command.TableChoice.{TableChoice}
use Rattle.ans_options.specs.declared.command.Writing.{Writing}
use Rattle.ans_options.specs.declared.mistakes.Mistake.{Mistake}
use Rattle.ans_options.specs.declared.topic.Topic.{Topic}
use Rattle.ans_options.specs.CommandLine.{AreOptionsOf, AsksAs, AsksFor, IsInFormAsked, IsReadAs, anscheck}
use Rattle.ans_options.specs.CommandLine.{command_name, plain_options, takes_files, why_options, words_meant}
use Rattle.ans_options.specs.CommandLine.{writes_files}
use Rattle.ans_options.specs.CommandLine.{holds_flag, named_start, part_flags, start_asked, takes_flags}
use Rattle.ans_options.proofs.CommandLineLemmas.{MetIn, not_true, program_met}
use Rattle.ans_options.proofs.RowLemmas.{Lacks, never_has, unfound, unheld}

-- whether one of the subcommands has this name and an argument of this id
abbrev is_taken : Text → Text → List Shape → Bool
is_taken id name shapes = list_any (λ s. bytes_eq s.name name && list_any (λ a. bytes_eq a.id id) s.rules) shapes

-- whether the command takes the argument of this id
abbrev takes : Text → Command → Bool
takes id c = is_taken id (command_name c) (built anscheck).subs

second_false : (a b : Bool) → a ≡ true → (a && b) ≡ false → b ≡ false
second_false true b e none = none
second_false false b e none = absurd (true≢false (sym e))

-- the matches of a subcommand that has no such argument
lacks_in : (id : Text) (w : List Text) (shapes : List Shape) (met : Text × List Row) → MetIn met w shapes
    → is_taken id met.0 shapes ≡ false → Lacks id met.1
lacks_in id w [] met never none = absurd never
lacks_in id w (s ∷ shapes) met (inr behind) none =
    lacks_in id w shapes met behind (or_parts _ (is_taken id met.0 shapes) none).1
lacks_in id w (s ∷ shapes) met (inl here) none =
    subst (λ (m : Text × List Row). is_taken id m.0 (s ∷ shapes) ≡ false → Lacks id m.1) here own none
  where
    own : is_taken id s.name (s ∷ shapes) ≡ false → Lacks id (rows_after s.rules [] w)
    own free =
        never_has id s.rules [] w
        (second_false (bytes_eq s.name s.name) _ ((bytes_eq-Decides s.name s.name).1 refl)
        (or_parts _ (is_taken id s.name shapes) free).0)

-- the subcommand that the words name: it is this command's, asks so, and lacks what the command does not take
record Met (words : List Text) (c : Command) (Asks : Text × List Row → Type 0) : Type 0 where
  met : Text × List Row
  found : subcommand_of anscheck (words_meant words) ≡ Some met
  asks : Asks met
  lacks : (id : Text) → takes id c ≡ false → Lacks id met.1

met_by : (words : List Text) (c : Command) (Asks : Text × List Row → Type 0)
    → ((sub : Text × List Row) → Asks sub → sub.0 ≡ command_name c)
    → IsSomeAnd (subcommand_of anscheck (words_meant words)) Asks → Met words c Asks
met_by words c Asks named asked = go (subcommand_of anscheck (words_meant words)) refl asked
  where
    go : (sub : Option (Text × List Row)) → subcommand_of anscheck (words_meant words) ≡ sub → IsSomeAnd sub Asks
        → Met words c Asks
    go None e asks = absurd asks
    go (Some met) e asks =
        let found = program_met (words_meant words) met e in
        record {
          met = met;
          found = e;
          asks = asks;
          lacks = λ id none. lacks_in id found.0 (built anscheck).subs met found.1
              (subst (λ (name : Text). is_taken id name (built anscheck).subs ≡ false) (sym (named met asks)) none);
        }

options_met : (words : List Text) (o : Options) (file : Option Text) → AreOptionsOf words o file
    → Met words o.command (λ sub. AsksFor sub o file)
options_met words o file asked = met_by words o.command (λ sub. AsksFor sub o file) (λ sub asks. asks.0) asked

-- the flags that say what is known of the start
abbrev start_flags : List Text
start_flags = codes "cleared" ∷ part_flags

-- a class by its parts
abbrev class : Bool → Bool → Bool → Bool → Bool → Start
class screen cursor saved colours wrap =
    record { screen = screen; cursor = cursor; saved = saved; colours = colours; wrap = wrap }

-- where none of them is held, no part is known
none_named : (rows : List Row) → list_any (λ flag. holds_flag flag rows) start_flags ≡ false
    → (if holds_flag (codes "cleared") rows then all_known else named_start rows) ≡ none_known
none_named rows none =
    go (holds_flag (codes "cleared") rows) (holds_flag (codes "known-screen") rows)
    (holds_flag (codes "known-cursor") rows) (holds_flag (codes "known-saved") rows)
    (holds_flag (codes "known-colours") rows) (holds_flag (codes "known-wrap") rows) none
  where
    go : (all a b c d e : Bool) → (all || (a || (b || (c || (d || (e || false)))))) ≡ false
        → (if all then all_known else class a b c d e) ≡ none_known
    go false false false false false false none = refl
    go _ _ _ _ _ _ none = cc

-- a command that takes none of the flags finds none of them
none_held : (c : Command) (rows : List Row) (flags : List Text) → ((id : Text) → takes id c ≡ false → Lacks id rows)
    → list_any (λ flag. takes flag c) flags ≡ false → list_any (λ flag. holds_flag flag rows) flags ≡ false
none_held c rows [] lacks none = refl
none_held c rows (flag ∷ flags) lacks none =
    let parts = or_parts (takes flag c) _ none in
    rw (unheld flag rows (lacks flag parts.0)) (none_held c rows flags lacks parts.1)

none_asked : (c : Command) (rows : List Row) → takes_flags c ≡ false
    → ((id : Text) → takes id c ≡ false → Lacks id rows) → start_asked c rows ≡ none_known
none_asked Check rows e lacks = absurd (true≢false e)
none_asked (Show form) rows e lacks = absurd (true≢false e)
none_asked Sauce rows e lacks = none_named rows (none_held Sauce rows start_flags lacks refl)
none_asked Tokens rows e lacks = none_named rows (none_held Tokens rows start_flags lacks refl)
none_asked Needs rows e lacks = none_named rows (none_held Needs rows start_flags lacks refl)
none_asked Why rows e lacks = none_named rows (none_held Why rows start_flags lacks refl)
none_asked (Table choice) rows e lacks = none_named rows (none_held (Table choice) rows start_flags lacks refl)
none_asked (Mend choice) rows e lacks = none_named rows (none_held (Mend choice) rows start_flags lacks refl)
none_asked Redraw rows e lacks = none_named rows (none_held Redraw rows start_flags lacks refl)

-- what is known without flags
pub flagless : (words : List Text) (o : Options) (file : Option Text) → AreOptionsOf words o file
    → takes_flags o.command ≡ false → o.start ≡ none_known
flagless words o file asked flags =
    let m = options_met words o file asked in
    m.asks.2 ∙ none_asked o.command m.met.1 flags m.lacks

-- only `check` takes `--cells`
takes_no_cells : (c : Command) → c ≢ Check → takes (codes "cells") c ≡ false
takes_no_cells Check other = absurd (other refl)
takes_no_cells (Show form) other = refl
takes_no_cells Sauce other = refl
takes_no_cells Tokens other = refl
takes_no_cells Needs other = refl
takes_no_cells Why other = refl
takes_no_cells (Table choice) other = refl
takes_no_cells (Mend choice) other = refl
takes_no_cells Redraw other = refl

-- without `check` no cells are asked for
pub no_cells : (words : List Text) (o : Options) (file : Option Text) → AreOptionsOf words o file
    → o.command ≢ Check → o.cells ≡ false
no_cells words o file asked other =
    let m = options_met words o file asked in
    let none = unheld (codes "cells") m.met.1 (m.lacks (codes "cells") (takes_no_cells o.command other)) in
    not_true o.cells (λ on. true≢false (sym (m.asks.3.0 on) ∙ none))

-- a command that takes any number of files takes no flag that says what is known of the start, no `--cells` and no FILE
takes_no_start : (c : Command) → takes_files c ≡ true
    → (takes_flags c ≡ false) × (takes (codes "cells") c ≡ false) × (takes (codes "file") c ≡ false)
takes_no_start Why many = (refl, refl, refl)
takes_no_start (Table choice) many = (refl, refl, refl)
takes_no_start (Mend choice) many = (refl, refl, refl)
takes_no_start Redraw many = (refl, refl, refl)
takes_no_start Check many = absurd (true≢false (sym many))
takes_no_start (Show form) many = absurd (true≢false (sym many))
takes_no_start Sauce many = absurd (true≢false (sym many))
takes_no_start Tokens many = absurd (true≢false (sym many))
takes_no_start Needs many = absurd (true≢false (sym many))

-- where the words ask for a command on one input, these are its options
pub one_asked : (words : List Text) (a : Asked) (o : Options) (file : Option (String Global)) → IsReadAs words a
    → a ≡ asked.One o file → AreOptionsOf words o (option_map string_bytes file)
one_asked words a o file asks is = go (subcommand_of anscheck (words_meant words)) (rw (sym is) asks)
  where
    go : (sub : Option (Text × List Row)) → IsSomeAnd sub (AsksAs (asked.One o file))
        → IsSomeAnd sub (λ p. AsksFor p o (option_map string_bytes file))
    go None asks = absurd asks
    go (Some met) asks = asks.0

-- The options of a command that takes any number of files. It takes no flag of the start, no cells, and no FILE of one.
plain_asked : (words : List Text) (c : Command) (Asks : Text × List Row → Type 0)
    → ((sub : Text × List Row) → Asks sub → sub.0 ≡ command_name c)
    → ((sub : Text × List Row) → Asks sub → IsInFormAsked c sub.1) → takes_files c ≡ true
    → IsSomeAnd (subcommand_of anscheck (words_meant words)) Asks → AreOptionsOf words (plain_options c) None
plain_asked words c Asks named formed many asks =
    let m = met_by words c Asks named asks in
    let lacks = takes_no_start c many in
    let start = none_asked c m.met.1 lacks.0 m.lacks in
    let cells = unheld (codes "cells") m.met.1 (m.lacks (codes "cells") lacks.1) in
    let file = unfound (codes "file") m.met.1 (m.lacks (codes "file") lacks.2) in
    subst (λ (s : Option (Text × List Row)). IsSomeAnd s (λ sub. AsksFor sub (plain_options c) None)) (sym m.found)
    (named m.met m.asks, formed m.met m.asks, sym start, rw cells ((λ on. on), (λ on. on)), sym file)

-- where the words ask what is wrong with files, the options of that are theirs
pub why_asked : (words : List Text) (a : Asked) (names : Vec (String Global) Global) → IsReadAs words a
    → a ≡ asked.Why names → AreOptionsOf words why_options None
why_asked words a names asks is =
    plain_asked words Why (AsksAs (asked.Why names)) (λ sub asks. asks.0) (λ sub asks. tt) refl (rw (sym is) asks)

-- where the words ask for a table, its options are theirs
pub table_asked : (words : List Text) (a : Asked) (choice : TableChoice) (names : Vec (String Global) Global)
    → IsReadAs words a → a ≡ asked.Table choice names → AreOptionsOf words (plain_options (Table choice)) None
table_asked words a choice names asks is =
    plain_asked words (Table choice) (AsksAs (asked.Table choice names)) (λ sub asks. asks.0) (λ sub asks. asks.1) refl
    (rw (sym is) asks)

-- where the words ask for files mended, the options of that are theirs
pub mend_asked : (words : List Text) (a : Asked) (choice : MendChoice) (writing : Writing)
    (names : Vec (String Global) Global) → IsReadAs words a → a ≡ asked.Mend choice writing names
    → AreOptionsOf words (plain_options (Mend choice)) None
mend_asked words a choice writing names asks is =
    plain_asked words (Mend choice) (AsksAs (asked.Mend choice writing names)) (λ sub asks. asks.named)
    (λ sub asks. asks.form) refl (rw (sym is) asks)

-- where the words ask for files redrawn, the options of that are theirs
pub redraw_asked : (words : List Text) (a : Asked) (writing : Writing) (names : Vec (String Global) Global)
    → IsReadAs words a → a ≡ asked.Redraw writing names → AreOptionsOf words (plain_options Redraw) None
redraw_asked words a writing names asks is =
    plain_asked words Redraw (AsksAs (asked.Redraw writing names)) (λ sub asks. asks.named) (λ sub asks. tt) refl
    (rw (sym is) asks)

-- a command that writes files takes any number of them
writes_many : (c : Command) → writes_files c ≡ true → takes_files c ≡ true
writes_many (Mend choice) writes = refl
writes_many Redraw writes = refl
writes_many Why writes = refl
writes_many (Table choice) writes = refl
writes_many Check writes = absurd (true≢false (sym writes))
writes_many (Show form) writes = absurd (true≢false (sym writes))
writes_many Sauce writes = absurd (true≢false (sym writes))
writes_many Tokens writes = absurd (true≢false (sym writes))
writes_many Needs writes = absurd (true≢false (sym writes))

-- where the words make a mistake, the options of their command are theirs
pub mistaken_asked : (words : List Text) (a : Asked) (c : Command) (m : Mistake) → IsReadAs words a
    → a ≡ asked.Mistaken c m → AreOptionsOf words (plain_options c) None
mistaken_asked words a c m asks is =
    let mistaken : IsSomeAnd (subcommand_of anscheck (words_meant words)) (AsksAs (asked.Mistaken c m)) =
    rw (sym is) asks in
    let writes = (met_by words c (AsksAs (asked.Mistaken c m)) (λ sub asks. asks.named) mistaken).asks.writes in
    plain_asked words c (AsksAs (asked.Mistaken c m)) (λ sub asks. asks.named) (λ sub asks. asks.form)
    (writes_many c writes) mistaken

-- clap reads no topic
pub no_topic : (words : List Text) (a : Asked) (topic : Topic) → IsReadAs words a → a ≡ asked.Meaning topic → ⊥
no_topic words a topic asks is = go (subcommand_of anscheck (words_meant words)) (rw (sym is) asks)
  where
    go : (sub : Option (Text × List Row)) → IsSomeAnd sub (AsksAs (asked.Meaning topic)) → ⊥
    go None asks = absurd asks
    go (Some met) asks = asks
