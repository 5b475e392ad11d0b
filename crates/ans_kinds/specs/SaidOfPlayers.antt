-- What is said of the players on which a content shows its picture.
use Rattle.std.specs.Prelude.{◌≡◌, ℕ, ◌++◌, Bool, false, IsTrue, List, None, Some}
use Rattle.ans_model.specs.Screen.State.{Size}
use Rattle.ans_model.specs.Screen.StartClass.{all_known, none_known}
use Rattle.ans_model.specs.Verdict.Good.{IsGood}
use Rattle.ans_players.specs.Classes.{IsLeastSame, IsSame}
use Rattle.ans_players.specs.declared.difference.Difference.{Difference}
use Rattle.ans_players.specs.declared.difference.Difference.TheVariants.{OwnColours}
use Rattle.ans_players.specs.Kinds.{all_but, is_kind}
use Rattle.ans_kinds.specs.KindsUsed.{IsTold, used_of}
use Rattle.ans_model.specs.Screen.Beginning.{mending}
use Rattle.ans_kinds.specs.declared.players.Players.{Players}
use Rattle.ans_kinds.specs.declared.players.Players.TheVariants.{Any, InNamedColours, Agreeing}

-- On every player it is the same for exactly those classes in which each part is known that is known in this one; or
-- so on every player that agrees in own colours, which arise so often and there first; or these kinds arise from the
-- cleared start, so often and there first, and some other kind does.
abbrev pub IsSaidOfPlayers : Size → List ℕ → Players → Type 0
IsSaidOfPlayers z content (Any class) = IsLeastSame (λ kind. false) z content class
IsSaidOfPlayers z content (InNamedColours class times) =
    IsLeastSame (is_kind OwnColours) z content class × IsTold z content OwnColours (Some times)
IsSaidOfPlayers z content (Agreeing used) = ((kind : Difference) → IsTold z content kind (used_of used kind))
    × ¬ ((kind : Difference) → IsTrue (all_but OwnColours kind) → used_of used kind ≡ None)

-- Whichever kinds are agreed: if on all players that agree so the content is the same from the cleared start, it is so
-- from every start.
abbrev pub IsSameWhereCleared : Size → List ℕ → Type 0
IsSameWhereCleared z content = (agreed : Difference → Bool) → IsSame agreed z all_known content
    → IsSame agreed z none_known content

-- So is the mending followed by any content that is good from the cleared start.
abbrev pub MendedIsSameWhereCleared : Type 0
MendedIsSameWhereCleared = (z : Size) (content : List ℕ) → IsGood z all_known content
    → IsSameWhereCleared z (mending ++ content)
