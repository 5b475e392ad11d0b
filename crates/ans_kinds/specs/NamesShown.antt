-- The program's names of colours as those of the definitions.
use Rattle.ans_players.specs.Names as name
use Rattle.ans_kinds.specs.declared.names.Names.{Names}

-- one to one
abbrev pub shown_names : Names → name.Names
shown_names n = record { foreground = n.foreground; background = n.background }
