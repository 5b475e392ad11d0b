-- The lines on players.
use Rattle.std.specs.Prelude.{ℕ, Bool, ◌&&◌, List, [], ◌++◌, codes, Option, None, Some, if◌then◌else◌}
use Rattle.std.specs.Bool.{beq}
use Rattle.std.specs.List.{flat_map}
use Rattle.ans_model.specs.declared.start.Start.{Start}
use Rattle.ans_model.specs.Text.NeedsText.{needed_parts}
use Rattle.ans_model.specs.Text.RecordText.{named_line}
use Rattle.ans_model.specs.Text.Words.{words_text}
use Rattle.ans_report.specs.Counted.{times_text}
use Rattle.ans_players.specs.Kinds.{all_kinds, kind_word}
use Rattle.ans_players.specs.declared.difference.Difference.{Difference}
use Rattle.ans_players.specs.declared.difference.Difference.TheVariants.{OwnColours}
use Rattle.ans_kinds.specs.KindsUsed.{used_of, words_used}
use Rattle.ans_kinds.specs.declared.kinds.KindsUsed.{KindsUsed}
use Rattle.ans_kinds.specs.declared.players.Players.{Players}
use Rattle.ans_kinds.specs.declared.players.Players.TheVariants.{Agreeing, Any, InNamedColours}
use Rattle.ans_pens.specs.declared.times.Times.{Times}

-- how often a kind arises, and where first
abbrev pub kind_line : Difference → Option Times → List ℕ
kind_line kind None = []
kind_line kind (Some times) =
    named_line (codes "players differ") (kind_word kind ++ (codes ", " ++ times_text times.count times.first))

-- a line of each kind that arises, in their order
abbrev pub kind_lines : KindsUsed → List ℕ
kind_lines used = flat_map (λ kind. kind_line kind (used_of used kind)) all_kinds

-- both know the same parts
abbrev pub is_same_class : Start → Start → Bool
is_same_class a b =
    beq a.screen b.screen && beq a.cursor b.cursor && beq a.saved b.saved && beq a.colours b.colours
    && beq a.wrap b.wrap

-- the parts that have to be known on all players, if they are not those that are needed anyway
abbrev pub everywhere_line : Start → Start → List ℕ
everywhere_line needs class =
    if is_same_class needs class then [] else named_line (codes "needs on all players") (needed_parts class)

-- the lines of kinds
abbrev pub agreeing_lines : KindsUsed → List ℕ
agreeing_lines used = named_line (codes "players") (words_text (words_used used)) ++ kind_lines used

-- the lines if own colours are the only kind
abbrev pub named_colours_lines : Start → Start → Times → List ℕ
named_colours_lines needs class times =
    named_line (codes "players") (kind_word OwnColours)
    ++ (kind_line OwnColours (Some times) ++ everywhere_line needs class)

-- the lines of a content that needs this class
abbrev pub players_lines : Start → Players → List ℕ
players_lines needs (Any class) = named_line (codes "players") (codes "all") ++ everywhere_line needs class
players_lines needs (InNamedColours class times) = named_colours_lines needs class times
players_lines needs (Agreeing used) = agreeing_lines used
