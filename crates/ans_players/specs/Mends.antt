-- The tokens of the mending, as it spells them.
use Rattle.std.specs.Prelude.{ℕ, List, ◌∷◌}
use Rattle.ans_model.specs.Bytes.{escape}
use Rattle.ans_model.specs.Screen.Beginning.{mending_texts, mending_tokens}
use Rattle.ans_model.specs.Sequence.TokenKind.{TokenKind}
use Rattle.ans_players.specs.Situations.{Spelled, spelled}

-- the token, spelled by ESC and these characters
abbrev pub sequence : TokenKind → List ℕ → Spelled
sequence token characters = record { token = token; text = escape ∷ characters }

-- ESC[?7h ESC[0;37;40m ESC[2J ESC[H ESC[s
abbrev pub mending_spelled : List Spelled
mending_spelled = spelled mending_tokens mending_texts
