-- The first fault of words that ask for help or for the version.
use Rattle.std.proofs.Common.{◌≡◌, true, false, true≢false, List, [], ◌∷◌, codes, refl, sym}
use Rattle.clap.specs.Words.{Text}
use Rattle.clap.specs.Faults.{flags_fault, walk_fault}
use Rattle.clap.specs.Walk.{bundle_met, walked}
use Rattle.std.specs.Char.{encode_utf8}
use Rattle.std.specs.Str.{chars}
use Rattle.clap.specs.declared.error.ErrorKind.TheVariants.{DisplayHelp, DisplayVersion}
use Rattle.clap.specs.declared.error.ErrorKind.TheVariants.{InvalidSubcommand, UnknownArgument}
use Rattle.ans_options.specs.declared.command.Command.{Command}
use Rattle.ans_options.specs.declared.command.Command.TheVariants.{Why, Check, Show, Sauce, Tokens, Needs, Table, Mend}
use Rattle.ans_options.specs.declared.command.Command.TheVariants.{Redraw}
use Rattle.ans_options.specs.CommandLine.{IsNoCommand, command_name, faults_of, takes_files}
use Rattle.ans_options.proofs.MeaningLemmas.{no_command_name}

pub long_version : (program : Text) (more : List Text)
    → faults_of (program ∷ codes "--version" ∷ more) ≡ DisplayVersion ∷ []
unfolding walked walk_fault
long_version program more = refl

pub short_version : (program : Text) (more : List Text)
    → faults_of (program ∷ codes "-V" ∷ more) ≡ DisplayVersion ∷ []
unfolding walked walk_fault bundle_met flags_fault chars encode_utf8
short_version program more = refl

pub help_alone : (program : Text) → faults_of (program ∷ codes "help" ∷ []) ≡ DisplayHelp ∷ []
unfolding walked walk_fault
help_alone program = refl

pub help_of_command : (program : Text) (c : Command)
    → faults_of (program ∷ codes "help" ∷ command_name c ∷ []) ≡ DisplayHelp ∷ []
unfolding walked walk_fault
help_of_command program Why = refl
help_of_command program Needs = refl
help_of_command program Check = refl
help_of_command program (Show form) = refl
help_of_command program Sauce = refl
help_of_command program Tokens = refl
help_of_command program (Table choice) = refl
help_of_command program (Mend choice) = refl
help_of_command program Redraw = refl

pub help_of_other : (program name : Text) (more : List Text) → IsNoCommand name
    → faults_of (program ∷ codes "help" ∷ name ∷ more) ≡ UnknownArgument ∷ InvalidSubcommand ∷ []
unfolding walked walk_fault
help_of_other program name more other = rw (no_command_name name other) refl

pub help_of_more : (program word : Text) (more : List Text) (c : Command) → takes_files c ≡ false
    → faults_of (program ∷ codes "help" ∷ command_name c ∷ word ∷ more) ≡ UnknownArgument ∷ []
unfolding walked walk_fault
help_of_more program word more Why one = absurd (true≢false one)
help_of_more program word more Needs one = refl
help_of_more program word more Check one = refl
help_of_more program word more (Show form) one = refl
help_of_more program word more Sauce one = refl
help_of_more program word more Tokens one = refl
help_of_more program word more (Table choice) one = absurd (true≢false one)
help_of_more program word more (Mend choice) one = absurd (true≢false one)
help_of_more program word more Redraw one = absurd (true≢false one)

pub help_of_files_and_more : (program word : Text) (more : List Text) (c : Command) → takes_files c ≡ true
    → faults_of (program ∷ codes "help" ∷ command_name c ∷ word ∷ more) ≡ UnknownArgument ∷ InvalidSubcommand ∷ []
unfolding walked walk_fault
help_of_files_and_more program word more Why many = refl
help_of_files_and_more program word more (Table choice) many = refl
help_of_files_and_more program word more (Mend choice) many = refl
help_of_files_and_more program word more Redraw many = refl
help_of_files_and_more program word more Needs many = absurd (true≢false (sym many))
help_of_files_and_more program word more Check many = absurd (true≢false (sym many))
help_of_files_and_more program word more (Show form) many = absurd (true≢false (sym many))
help_of_files_and_more program word more Sauce many = absurd (true≢false (sym many))
help_of_files_and_more program word more Tokens many = absurd (true≢false (sym many))
