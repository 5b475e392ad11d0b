-- What is said of the kinds in which players differ.
use Rattle.std.specs.Prelude.{ℕ, ◌<◌, Bool, is_some, List, map, Option, None, Some, slice_index_or}
use Rattle.std.specs.List.{filter}
use Rattle.ans_model.specs.Screen.State.{Size}
use Rattle.ans_players.specs.Kinds.{all_kinds, kind_number, kind_word}
use Rattle.ans_players.specs.Named.{IsNamed}
use Rattle.ans_players.specs.declared.difference.Difference.{Difference}
use Rattle.ans_kinds.specs.declared.kinds.KindsUsed.{KindsUsed}
use Rattle.ans_pens.specs.declared.times.Times.{Times}

-- what is said of the kind of this number
abbrev pub used_at : KindsUsed → ℕ → Option Times
used_at used number = slice_index_or used.times number None

-- `used.of(kind)`
abbrev pub used_of : KindsUsed → Difference → Option Times
used_of used kind = used_at used (kind_number kind)

-- the kind is one of those that arise
abbrev pub is_used : KindsUsed → Difference → Bool
is_used used kind = is_some (used_of used kind)

-- the words of the kinds that arise, in their order
abbrev pub words_used : KindsUsed → List (List ℕ)
words_used used = map kind_word (filter (is_used used) all_kinds)

-- From the cleared start the kind arises this often in the content, and first there; `None` says that it never arises.
abbrev pub IsTold : Size → List ℕ → Difference → Option Times → Type 0
IsTold z content kind None = IsNamed z content kind 0 0
IsTold z content kind (Some times) = (0 < times.count) × IsNamed z content kind times.count times.first
