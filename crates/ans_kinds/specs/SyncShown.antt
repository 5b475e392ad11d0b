-- The program's sync and situations as those of the definitions. Only private contracts cite them.
use Rattle.std.specs.Prelude.{List, [], ◌∷◌, ◌++◌, Option, None, Some}
use Rattle.ans_players.specs.Sync as sync
use Rattle.ans_players.specs.Situations.{kind_if}
use Rattle.ans_players.specs.declared.difference.Difference.{Difference}
use Rattle.ans_kinds.specs.declared.sync.Sync.{Sync}
use Rattle.ans_kinds.specs.declared.sync.Sync.TheVariants.{InSync, AfterWrap, AfterFeed, AfterReturn, OutOfSync}
use Rattle.ans_players.specs.declared.difference.Difference.TheVariants.{OwnColours}
use Rattle.ans_kinds.specs.declared.situations.Situations.{Situations}

-- one to one
abbrev pub shown_sync : Sync → sync.Sync
shown_sync InSync = sync.InSync
shown_sync AfterWrap = sync.AfterWrap
shown_sync AfterFeed = sync.AfterFeed
shown_sync AfterReturn = sync.AfterReturn
shown_sync (OutOfSync kind) = sync.OutOfSync kind

-- the one kind, or none
abbrev pub kinds_in : Option Difference → List Difference
kinds_in None = []
kinds_in (Some kind) = kind ∷ []

-- all kinds of the situations, in the order of the definition
abbrev pub kinds_of : Situations → List Difference
kinds_of s = kinds_in s.unsure ++ ((kinds_in s.own ++ kinds_in s.other) ++ kind_if s.unnamed OwnColours)
