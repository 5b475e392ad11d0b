-- Players: the profile, what parts from it where kinds arise, and the strictest one.
use Rattle.std.specs.Prelude.{◌≡◌, ◌↔◌, ℕ, ◌<◌, Bool, Option, Some, None, List, if◌then◌else◌, IsTrue}
use Rattle.std.specs.List.{list_all}
use Rattle.ans_model.specs.Screen.State.{Size, State, cell_at}
use Rattle.ans_model.specs.Screen.Step.{step}
use Rattle.ans_model.specs.Screen.StartClass.{all_known}
use Rattle.ans_model.specs.declared.cell.Cell.{Cell}
use Rattle.ans_model.specs.declared.cell.Position.{Position}
use Rattle.ans_model.specs.declared.start.Start.{Start}
use Rattle.ans_model.specs.Verdict.Good.{Picture, GoodWith}
use Rattle.ans_players.specs.declared.difference.Difference.{Difference}
use Rattle.ans_players.specs.Sync.{Stand}
use Rattle.ans_players.specs.Named.{times_cleared}
use Rattle.ans_players.specs.Players.{Behaviour, IsPlayer, IsShown}
use Rattle.ans_players.specs.Situations.{AreAgreed, Spelled, is_agreed, own_kinds, spelled, stand_behind}

-- the cells of a state
abbrev pub cells_of : Size → State → Position → Option Cell
cells_of z s p = cell_at z s.screen p

-- ---- the profile
-- what plays spelled tokens so: its memory is a state, which stands for itself whatever the sync is
abbrev pub stepping : (Size → State → Spelled → State) → Size → Behaviour
stepping plays z = record {
  Memory = State;
  shows = cells_of z;
  plays = plays z;
  StandsFor = λ m h. m ≡ h.state;
}

-- the profile itself
abbrev pub profile : Size → Behaviour
profile = stepping (λ z s x. step z s x.token)

-- it is a player, whatever is agreed
abbrev pub IsProfilePlayer : Type 0
IsProfilePlayer = (z : Size) (agreed : Difference → Bool) → IsPlayer z agreed (profile z)

-- What plays each spelled token as the profile does where all kinds of the token are agreed is a player.
abbrev pub PartsWhereKindsArise : Type 0
PartsWhereKindsArise = (z : Size) (agreed : Difference → Bool) (plays : Size → State → Spelled → State)
    → ((s : State) (x : Spelled) → IsTrue (list_all agreed (own_kinds z s x)) → plays z s x ≡ step z s x.token)
    → IsPlayer z agreed (stepping plays z)

-- ---- the strictest: it shows nothing any more once a kind has arisen that is not agreed
-- a token played, while no such kind has arisen
abbrev pub strict_step : (Difference → Bool) → Size → Option Stand → Spelled → Option Stand
strict_step agreed z None x = None
strict_step agreed z (Some h) x = if is_agreed agreed z h x then Some (stand_behind z h x) else None

-- the cells that it shows
abbrev pub strict_cells : Size → Option Stand → Position → Option Cell
strict_cells z None p = None
strict_cells z (Some h) p = cells_of z h.state p

-- it stands for the one state that it remembers, in the same sync
abbrev pub strictest : (Difference → Bool) → Size → Behaviour
strictest agreed z = record {
  Memory = Option Stand;
  shows = strict_cells z;
  plays = strict_step agreed z;
  StandsFor = λ m h. m ≡ Some h;
}

-- it is a player, whatever is agreed
abbrev pub IsStrictPlayer : Type 0
IsStrictPlayer = (z : Size) (agreed : Difference → Bool) → IsPlayer z agreed (strictest agreed z)

-- Good content shows its picture on it exactly where no kinds but agreed ones arise from any start of the class.
abbrev pub StrictTells : Type 0
StrictTells = (z : Size) (class : Start) (agreed : Difference → Bool) (content : List ℕ) (picture : Picture)
    → (good : GoodWith z class content picture)
    → IsShown (strictest agreed z) z class (spelled good.tokens good.reads.0) picture
    ↔ AreAgreed agreed z class (spelled good.tokens good.reads.0)

-- So from the cleared start it shows its picture exactly where each kind that arises is agreed.
abbrev pub StrictNeedsNamed : Type 0
StrictNeedsNamed = (z : Size) (agreed : Difference → Bool) (content : List ℕ) (picture : Picture)
    → (good : GoodWith z all_known content picture)
    → IsShown (strictest agreed z) z all_known (spelled good.tokens good.reads.0) picture
    ↔ ((kind : Difference) → 0 < times_cleared kind z (spelled good.tokens good.reads.0) → IsTrue (agreed kind))
