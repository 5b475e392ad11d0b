-- What clap's matches give of the program's words.
use Rattle.std.proofs.Common.{◌≡◌, ◌∙◌, Bool, true, false, List, [], ◌∷◌, Option, Some, None, refl, sym, ap, codes}
use Rattle.std.proofs.Common.{option_map, unwrap_or, inl, inr, ◌⊎◌, ◌&&◌, not}
use Rattle.std.specs.Prelude.{find, IsSome, IsSomeAnd, Box}
use Rattle.std.specs.Option.{option_map_or}
use Rattle.std.specs.Str.{bytes_eq}
use Rattle.std.specs.Str.Parse.{ParsesBool}
use Rattle.std.proofs.lemmas.Slice.Eq.{bytes_eq-Decides}
use Rattle.clap.specs.Words.{App, Row, Shape, Text, one_text, rows_of, ReadsOne, subcommand_of, found_of}
use Rattle.clap.specs.declared.parser.matches.Found.{Found}
use Rattle.clap.proofs.WalkLemmas.{one_text-rows}
use Rattle.std.specs.Global.{Global}
use Rattle.std.specs.Box.{box_value}
use Rattle.clap.specs.Words.{subcommand_name_of, subcommand_rows_of, app_of, IsParsedFrom}
use Rattle.clap.specs.declared.parser.matches.ArgMatches.{ArgMatches}
use Rattle.clap.specs.declared.parser.matches.ArgMatches.TheViews.{out-ArgMatches, out-SubCommand}
use Rattle.clap.specs.declared.parser.matches.SubCommand.{SubCommand}
use Rattle.clap.specs.Walk.{answers_to, stop_after}
use Rattle.clap.specs.Simple.{argument_words, built, entered, label_of, names_of, rows_at}
use Rattle.ans_options.specs.declared.command.Command.TheVariants.{Why, Check, Show, Sauce, Tokens, Needs, Table, Mend}
use Rattle.ans_options.specs.declared.command.Command.TheVariants.{Redraw}
use Rattle.ans_options.specs.declared.command.Form.TheVariants.{Terminal}
use Rattle.ans_model.specs.declared.mends.TheConstants.Mends as no_mends
use Rattle.ans_options.specs.declared.command.MendChoice.TheVariants.{Flags}
use Rattle.clap.specs.declared.builder.command.Command.{Command}
use Rattle.clap.proofs.CallerLemmas.{subcommand_required}
use Rattle.clap.proofs.TakesLemmas.{some_rows}
use Rattle.ans_options.specs.CommandLine.{IsCommand, anscheck, headed_table, holds_flag}

pub not_true : (b : Bool) → (b ≡ true → ⊥) → b ≡ false
not_true true h = absurd (h refl)
not_true false h = refl

-- a flag, as `get_one` reads it
pub flag_reads : (E : Type 0) (f : Found) (id : Text) (r : Option Bool) → (one_text f id ≡ None → r ≡ None)
    → ((t : Text) → one_text f id ≡ Some t → ReadsOne {E = E} ParsesBool t r)
    → unwrap_or r false ≡ holds_flag id (rows_of f)
flag_reads E f id r none value = go (one_text f id) refl ∙ ap test (one_text-rows f id)
  where
    test : Option Text → Bool
    test o = option_map_or (λ t. bytes_eq t (codes "true")) o false

    read : (t : Text) (r : Option Bool) → ReadsOne {E = E} ParsesBool t r
        → unwrap_or r false ≡ bytes_eq t (codes "true")
    read t (Some true) h = sym ((bytes_eq-Decides t (codes "true")).1 h)
    read t (Some false) h = rw h refl
    read t None (e, h) = sym (not_true _ (λ same. h.0 ((bytes_eq-Decides t (codes "true")).0 same)))

    go : (o : Option Text) → one_text f id ≡ o → unwrap_or r false ≡ test o
    go None e = rw (none e) refl
    go (Some t) e = read t r (value t e)

-- the subcommand that the matches have, by its name and its rows
pub rows_met : (m : ArgMatches) (name : Text) (rows : List Row) → Some name ≡ subcommand_name_of m
    → Some rows ≡ option_map (λ (p : Text × List Row). p.1) (subcommand_rows_of m)
    → subcommand_rows_of m ≡ Some (name, rows)
rows_met m name rows named kept = go (out-ArgMatches m).subcommand named kept
  where
    name_in : Box SubCommand Global → Text
    name_in b = (out-SubCommand (box_value b)).name.now

    rows_in : Box SubCommand Global → List Row
    rows_in b = rows_of (found_of (out-SubCommand (box_value b)).matches)

    pair_in : Box SubCommand Global → Text × List Row
    pair_in b = (name_in b, rows_in b)

    go : (o : Option (Box SubCommand Global)) → Some name ≡ option_map name_in o
        → Some rows ≡ option_map (λ (p : Text × List Row). p.1) (option_map pair_in o)
        → option_map pair_in o ≡ Some (name, rows)
    go None e f = cc
    go (Some b) e f = cc

-- the subcommand is one of the list's shapes, with the rows that these words give it
abbrev pub MetIn : Text × List Row → List Text → List Shape → Type 0
MetIn met w [] = ⊥
MetIn met w (s ∷ xs) = (rows_at s w ≡ met) ⊎ MetIn met w xs

pub some_same : {X : Type 0} {x y : X} → Some x ≡ Some y → x ≡ y
some_same {X} {x} {y} h = ap (λ o. unwrap_or o x) h

found_met : (w : List Text) (f : Shape → Bool) (xs : List Shape) (met : Text × List Row)
    → option_map (λ s. rows_at s w) (find f xs) ≡ Some met → MetIn met w xs
found_met w f [] met e = cc
found_met w f (s ∷ xs) met e = go (f s) refl (found_met w f xs met)
  where
    go : (b : Bool) → f s ≡ b → (option_map (λ t. rows_at t w) (find f xs) ≡ Some met → MetIn met w xs)
        → MetIn met w (s ∷ xs)
    go true is rest =
        let h : Some (rows_at s w) ≡ Some met = rw is at e in
        inl (some_same h)
    go false is rest =
        let h : option_map (λ t. rows_at t w) (find f xs) ≡ Some met = rw is at e in
        inr (rest h)

entered_met : (a : App) (stop : Option (Text × List Text)) (met : Text × List Row) → entered a stop ≡ Some met
    → (w : List Text) × MetIn met w a.subs
entered_met a None met e = cc
entered_met a (Some p) met e = (p.1, found_met p.1 (λ s. answers_to p.0 (label_of s)) a.subs met e)

-- the subcommand that the words name is one of the program's
pub program_met : (words : List Text) (met : Text × List Row) → subcommand_of anscheck words ≡ Some met
    → (w : List Text) × MetIn met w (built anscheck).subs
program_met words met e =
    entered_met (built anscheck) (stop_after (built anscheck).top.rules (names_of (built anscheck))
    (argument_words anscheck words)) met e

-- the name of a subcommand that was met
pub name_met : {met other : Text × List Row} → other ≡ met → met.0 ≡ other.0
name_met e = ap (λ (q : Text × List Row). q.0) (sym e)

-- the subcommand that the program finds is one of its commands
pub command_found : (words : List Text) (sub : Option (Text × List Row)) → subcommand_of anscheck words ≡ sub
    → IsSome sub → IsSomeAnd sub IsCommand
command_found words None e some = cc
command_found words (Some p) e some = let (w, met) = program_met words p e in command_of w met
  where
    command_of : (w : List Text) → MetIn p w (built anscheck).subs → IsCommand p
    command_of w (inl why) = (Why, name_met why)
    command_of w (inr (inl mend)) = (Mend (Flags no_mends.NONE), name_met mend)
    command_of w (inr (inr (inl redraw))) = (Redraw, name_met redraw)
    command_of w (inr (inr (inr (inl needs)))) = (Needs, name_met needs)
    command_of w (inr (inr (inr (inr (inl check))))) = (Check, name_met check)
    command_of w (inr (inr (inr (inr (inr (inl show)))))) = (Show Terminal, name_met show)
    command_of w (inr (inr (inr (inr (inr (inr (inl sauce))))))) = (Sauce, name_met sauce)
    command_of w (inr (inr (inr (inr (inr (inr (inr (inl tokens)))))))) = (Tokens, name_met tokens)
    command_of w (inr (inr (inr (inr (inr (inr (inr (inr (inl table))))))))) = (Table headed_table, name_met table)
    command_of w (inr (inr (inr (inr (inr (inr (inr (inr (inr never))))))))) = absurd never

-- the third of the facts that make a command plain
no_globals : (groups external globals rest : Bool) → (groups && (not external && (not globals && rest))) ≡ true
    → globals ≡ false
no_globals false external globals rest h = cc
no_globals true true globals rest h = cc
no_globals true false true rest h = cc
no_globals true false false rest h = refl

-- a parse by the program has met a subcommand
pub subcommand_met : (program : Command) (m : ArgMatches) → app_of program ≡ anscheck → IsParsedFrom program m
    → IsSome (subcommand_rows_of m)
subcommand_met program m app_is parsed =
    let plain = ap (λ (a : App). a.top.is_plain) app_is in
    let needs = ap (λ (a : App). a.top.subcommand_required) app_is in
    sym (some_rows (out-ArgMatches m).subcommand) ∙ subcommand_required program m parsed
    (no_globals _ _ _ _ plain) needs
