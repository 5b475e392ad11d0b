-- The kinds in which players differ: their order and their words.
use Rattle.std.specs.Prelude.{ℕ, Bool, ◌==◌, not, List, [], ◌∷◌, codes}
use Rattle.ans_players.specs.declared.difference.Difference.{Difference}
use Rattle.ans_players.specs.declared.difference.Difference.TheVariants.{WrapAtOnce, LineEnds, HomeOnClear}
use Rattle.ans_players.specs.declared.difference.Difference.TheVariants.{ClearInColour}
use Rattle.ans_players.specs.declared.difference.Difference.TheVariants.{SavePlaceOnly, DosColours, TabPrints}
use Rattle.ans_players.specs.declared.difference.Difference.TheVariants.{LineErased, WrapOff}
use Rattle.ans_players.specs.declared.difference.Difference.TheVariants.{StopsAtEdge, PageControls, TerminalControls}
use Rattle.ans_players.specs.declared.difference.Difference.TheVariants.{OwnColours}

-- the kinds in their order
abbrev pub all_kinds : List Difference
all_kinds =
    WrapAtOnce ∷ LineEnds ∷ HomeOnClear ∷ ClearInColour ∷ SavePlaceOnly ∷ DosColours ∷ TabPrints ∷ LineErased ∷ WrapOff
    ∷ StopsAtEdge ∷ PageControls ∷ TerminalControls ∷ OwnColours ∷ []

-- the position of a kind among them
abbrev pub kind_number : Difference → ℕ
kind_number WrapAtOnce = 0
kind_number LineEnds = 1
kind_number HomeOnClear = 2
kind_number ClearInColour = 3
kind_number SavePlaceOnly = 4
kind_number DosColours = 5
kind_number TabPrints = 6
kind_number LineErased = 7
kind_number WrapOff = 8
kind_number StopsAtEdge = 9
kind_number PageControls = 10
kind_number TerminalControls = 11
kind_number OwnColours = 12

-- two kinds are one
abbrev pub is_kind : Difference → Difference → Bool
is_kind kind other = kind_number kind == kind_number other

-- each kind but this one
abbrev pub all_but : Difference → Difference → Bool
all_but kind other = not (is_kind kind other)

-- the word that names a kind
abbrev pub kind_word : Difference → List ℕ
kind_word WrapAtOnce = codes "wrap-at-once"
kind_word LineEnds = codes "line-ends"
kind_word HomeOnClear = codes "home-on-clear"
kind_word ClearInColour = codes "clear-in-colour"
kind_word SavePlaceOnly = codes "save-place-only"
kind_word DosColours = codes "dos-colours"
kind_word TabPrints = codes "tab-prints"
kind_word LineErased = codes "line-erased"
kind_word WrapOff = codes "wrap-off"
kind_word StopsAtEdge = codes "stops-at-edge"
kind_word PageControls = codes "page-controls"
kind_word TerminalControls = codes "terminal-controls"
kind_word OwnColours = codes "own-colours"
