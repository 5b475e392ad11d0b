-- The name of a class of starts of which some parts are known and some are not.
use Rattle.std.proofs.Common.{◌≡◌, ℕ, Bool, true, false, ◌&&◌, ◌||◌, List, ◌++◌, codes, refl}
use Rattle.std.specs.Prelude.{if◌then◌else◌}
use Rattle.std.proofs.lemmas.Bool.{false_from_ne_true, true_from_ne_false}
use Rattle.ans_model.specs.declared.start.Start.{Start}
use Rattle.ans_model.specs.Screen.StartClass.{none_known, all_known}
use Rattle.ans_model.specs.Text.NeedsText.{needed_parts}
use Rattle.ans_model.specs.Text.ReportText.{start_name}
use Rattle.ans_model.specs.Text.Words.{part_names, words_text}

-- a class by its parts
abbrev class : Bool → Bool → Bool → Bool → Bool → Start
class screen cursor saved colours wrap =
    record { screen = screen; cursor = cursor; saved = saved; colours = colours; wrap = wrap }

-- where each part is known
all_are_known : (a b c d e : Bool) → (a && b && c && d && e) ≡ true → class a b c d e ≡ all_known
all_are_known true true true true true h = refl
all_are_known _ _ _ _ _ h = cc

-- and where none is
none_is_known : (a b c d e : Bool) → (a || b || c || d || e) ≡ false → class a b c d e ≡ none_known
none_is_known false false false false false h = refl
none_is_known _ _ _ _ _ h = cc

-- the text of the last case
last_of_three : (all some : Bool) (cleared known any : List ℕ) → all ≡ false → some ≡ true
    → known ≡ (if all then cleared else if some then known else any)
last_of_three all some cleared known any e f = rw (e, f) refl

-- where some parts are known and some are not, the class is named by those that are
pub name_of_parts : (s : Start) → (s ≡ none_known → ⊥) → (s ≡ all_known → ⊥)
    → codes "known " ++ words_text (part_names s) ≡ start_name s
name_of_parts s some missing =
    last_of_three (s.screen && s.cursor && s.saved && s.colours && s.wrap)
    (s.screen || s.cursor || s.saved || s.colours || s.wrap) (codes "cleared") _ (codes "any")
    (false_from_ne_true _ (λ h. missing (all_are_known s.screen s.cursor s.saved s.colours s.wrap h)))
    (true_from_ne_false _ (λ h. some (none_is_known s.screen s.cursor s.saved s.colours s.wrap h)))

-- the text of the first case
first_of_two : (some : Bool) (parts nothing : List ℕ) → some ≡ true → parts ≡ (if some then parts else nothing)
first_of_two some parts nothing e = rw e refl

-- where some parts are needed, they are named
pub some_needed : (s : Start) → (s ≡ none_known → ⊥) → words_text (part_names s) ≡ needed_parts s
some_needed s some =
    first_of_two (s.screen || s.cursor || s.saved || s.colours || s.wrap) (words_text (part_names s)) (codes "nothing")
    (true_from_ne_false _ (λ h. some (none_is_known s.screen s.cursor s.saved s.colours s.wrap h)))
