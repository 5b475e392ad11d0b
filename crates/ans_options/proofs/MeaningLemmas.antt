-- What the words mean, by their form.
use Rattle.std.proofs.Common.{◌≡◌, ◌≢◌, ◌≤◌, ◌<◌, false, List, [], ◌∷◌, length, Option, Some, None}
use Rattle.std.proofs.Common.{◌∙◌, ap, arith, codes, refl, slice_index_or, sym, true, true≢false, Bool}
use Rattle.std.specs.Prelude.{IfNone, IfSome, find, if◌then◌else◌, is_some}
use Rattle.std.specs.Borrow.{Bor}
use Rattle.std.specs.List.{list_any}
use Rattle.std.specs.Str.{bytes_eq}
use Rattle.std.proofs.lemmas.Slice.Eq.{bytes_eq-Decides}
use Rattle.clap.specs.Words.{Text}
use Rattle.ans_options.specs.declared.command.Command.{Command}
use Rattle.ans_options.specs.declared.command.Command.TheVariants.{Why, Check, Show, Sauce, Tokens, Needs, Table, Mend}
use Rattle.ans_options.specs.declared.command.Command.TheVariants.{Redraw}
use Rattle.ans_options.specs.declared.command.Form.TheVariants.{Terminal}
use Rattle.ans_model.specs.declared.mends.TheConstants.Mends as no_mends
use Rattle.ans_options.specs.CommandLine.{IsNoCommand, command_names, headed_table, help_on, takes_files}
use Rattle.ans_options.specs.CommandLine.{command_name, command_named, words_meant}
use Rattle.ans_options.specs.declared.command.MendChoice.{MendChoice}
use Rattle.ans_options.specs.declared.command.MendChoice.TheVariants.{Flags}
use Rattle.ans_options.specs.declared.command.TableChoice.{TableChoice}
use Rattle.ans_model.specs.Text.Words.{texts_of}
use Rattle.ans_options.proofs.CommandLineLemmas.{not_true}

unequal : (name other : Text) → (name ≡ other → ⊥) → bytes_eq name other ≡ false
unequal name other h = not_true _ (λ same. h ((bytes_eq-Decides name other).0 same))

-- a name that no command has is not among theirs
pub no_command_name : (name : Text) → IsNoCommand name → list_any (bytes_eq name) command_names ≡ false
no_command_name name h =
    rw (
      unequal name (codes "why") (h Why),
      unequal name (codes "mend") (h (Mend (Flags no_mends.NONE))),
      unequal name (codes "redraw") (h Redraw),
      unequal name (codes "needs") (h Needs),
      unequal name (codes "check") (h Check),
      unequal name (codes "show") (h (Show Terminal)),
      unequal name (codes "sauce") (h Sauce),
      unequal name (codes "tokens") (h Tokens),
      unequal name (codes "table") (h (Table headed_table)),
    ) refl

-- the command of a name has that name
pub command_has : (name : Text) (more : List Command)
    → IfSome (find (λ c. bytes_eq (command_name c) name) more) (λ c. name ≡ command_name c)
command_has name [] = tt
command_has name (c ∷ more) = go (bytes_eq (command_name c) name) refl (command_has name more)
  where
    go : (b : Bool) → bytes_eq (command_name c) name ≡ b
        → IfSome (find (λ c. bytes_eq (command_name c) name) more) (λ c. name ≡ command_name c)
        → IfSome (if b then Some c else find (λ c. bytes_eq (command_name c) name) more) (λ c. name ≡ command_name c)
    go true same rest = sym ((bytes_eq-Decides (command_name c) name).0 same)
    go false other rest = rest

-- each command has a name that names one
names_command : (c : Command) → is_some (command_named (command_name c)) ≡ true
names_command Why = refl
names_command Needs = refl
names_command Check = refl
names_command (Show form) = refl
names_command Sauce = refl
names_command Tokens = refl
names_command (Table choice) = refl
names_command (Mend choice) = refl
names_command Redraw = refl

-- a name without a command is none of theirs
pub command_lacks : (name : Text) → IfNone (command_named name) (IsNoCommand name)
command_lacks name = go (command_named name) refl
  where
    go : (found : Option Command) → command_named name ≡ found → IfNone found (IsNoCommand name)
    go None none = λ c same.
        let is : is_some (command_named name) ≡ true = rw (sym same) at (names_command c) in
        true≢false (sym is ∙ ap is_some none)
    go (Some c) some = tt

-- `help` on what is no command
pub help_on_none : (topic : List (Bor Text)) (none : Bor Text) (found : Option Command) → 1 ≤ length topic
    → is_some found ≡ false → IfNone found (IsNoCommand (slice_index_or topic 0 none).now)
    → help_on (texts_of topic) ≡ codes "--" ∷ (slice_index_or topic 0 none).now ∷ []
help_on_none [] none found some empty other = absurd (omega arith)
help_on_none (name ∷ more) none None some empty other = rw (no_command_name name.now other) refl
help_on_none (name ∷ more) none (Some c) some empty other = absurd (cc)

-- words that end with the program's name are as they are
pub few_meant : (words : List (Bor Text)) → length words < 2 → words_meant (texts_of words) ≡ texts_of words
few_meant [] few = refl
few_meant (program ∷ []) few = refl
few_meant (program ∷ word ∷ more) few = absurd (omega arith)

-- and so are those whose next word is not `help`
pub others_meant : (words : List (Bor Text)) (none : Bor Text) → 2 ≤ length words
    → bytes_eq (slice_index_or words 1 none).now (codes "help") ≡ false → words_meant (texts_of words) ≡ texts_of words
others_meant [] none many other = absurd (omega arith)
others_meant (program ∷ []) none many other = absurd (omega arith)
others_meant (program ∷ word ∷ more) none many other = rw other refl

-- what is neither `why` nor a table, and neither mends nor redraws, takes one file
pub takes_one : (c : Command) → c ≢ Why → ((choice : TableChoice) → c ≡ Table choice → ⊥)
    → ((choice : MendChoice) → c ≡ Mend choice → ⊥) → c ≢ Redraw → takes_files c ≡ false
takes_one Why no_why no_table no_mend no_redraw = absurd (no_why refl)
takes_one (Table choice) no_why no_table no_mend no_redraw = absurd (no_table choice refl)
takes_one (Mend choice) no_why no_table no_mend no_redraw = absurd (no_mend choice refl)
takes_one Redraw no_why no_table no_mend no_redraw = absurd (no_redraw refl)
takes_one Check no_why no_table no_mend no_redraw = refl
takes_one (Show form) no_why no_table no_mend no_redraw = refl
takes_one Sauce no_why no_table no_mend no_redraw = refl
takes_one Tokens no_why no_table no_mend no_redraw = refl
takes_one Needs no_why no_table no_mend no_redraw = refl
