-- What a player is, and what is the same on all of them.
use Rattle.std.specs.Prelude.{◌≡◌, ◌≢◌, ℕ, ◌<◌, Bool, Option, fold, replicate, ⊤, List, IsTrue}
use Rattle.ans_model.specs.Bytes.{blank}
use Rattle.ans_model.specs.Sequence.TokenKind.{TokenKind, Glyph, LineFeed, Tab}
use Rattle.ans_model.specs.Screen.State.{Size, State, IsStated, IsWellFormed, cell_at}
use Rattle.ans_model.specs.Screen.Step.{put, tab_blanks}
use Rattle.ans_model.specs.Screen.StartClass.{IsStart}
use Rattle.ans_model.specs.declared.cell.Cell.{Cell}
use Rattle.ans_model.specs.declared.cell.Position.{Position}
use Rattle.ans_model.specs.declared.fault.Cause.{Cause}
use Rattle.ans_model.specs.declared.start.Start.{Start}
use Rattle.ans_model.specs.Verdict.Good.{Picture}
use Rattle.ans_model.specs.Verdict.TokenFault.{HasStaticFault}
use Rattle.ans_players.specs.declared.difference.Difference.{Difference}
use Rattle.ans_players.specs.Sync.{Stand, synced}
use Rattle.ans_players.specs.Situations.{Spelled, is_agreed, stand_behind}

-- the screen does not scroll, and nothing is printed in the spare row
abbrev pub StaysAbove : Size → State → TokenKind → Type 0
StaysAbove z s LineFeed = s.cursor.row ≢ z.lines
StaysAbove z s (Glyph byte) = s.cursor.row ≢ z.lines
StaysAbove z s Tab = (n : ℕ) → n < tab_blanks s.cursor.column
    → (fold (put z) s (replicate n blank)).cursor.row ≢ z.lines
StaysAbove z s t = ⊤

-- The profile does not refuse the token. Where it does, players may do what they like.
pub record IsAllowed (z : Size) (s : State) (t : TokenKind) : Type 0 where
  pub no_static_fault : (cause : Cause) → ¬ HasStaticFault z t cause
  pub stays_above : StaysAbove z s t

-- What some player does: it has a memory, shows cells by it, and plays spelled tokens. Its memory stands for states of
-- the profile, in sync with them or not.
pub record Behaviour : Type 1 where
  pub Memory : Type 0
  pub shows : Memory → Position → Option Cell
  pub plays : Memory → Spelled → Memory
  pub StandsFor : Memory → Stand → Type 0

-- A player on a screen of this size that does as the profile does in the agreed kinds. It shows the stated cells of
-- the states that its memory stands for, and goes along at each token that the profile does not refuse and where only
-- agreed kinds arise. Everything else is left open.
pub record IsPlayer (z : Size) (agreed : Difference → Bool) (p : Behaviour) : Type 0 where
  pub shows_the_same : (m : p.Memory) (h : Stand) (at : Position) → p.StandsFor m h → IsStated z at
      → p.shows m at ≡ cell_at z h.state.screen at
  pub goes_along : (m : p.Memory) (h : Stand) (x : Spelled) → p.StandsFor m h → IsAllowed z h.state x.token
      → IsTrue (is_agreed agreed z h x) → p.StandsFor (p.plays m x) (stand_behind z h x)

-- Each state of a start on a screen of this size has a memory that is in sync with it.
abbrev pub StandsForStarts : Size → Behaviour → Type 0
StandsForStarts z p = (s : State) → IsWellFormed z s → (m : p.Memory) × p.StandsFor m (synced s)

-- After the tokens the player shows the picture, from every memory that is in sync with a start of the class.
abbrev pub IsShown : Behaviour → Size → Start → List Spelled → Picture → Type 0
IsShown p z class xs picture = (m : p.Memory) (s : State) (at : Position) → IsStart z class s
    → p.StandsFor m (synced s) → IsStated z at → p.shows (fold p.plays m xs) at ≡ cell_at z picture.cells at
