-- Laws of players.
use Rattle.std.specs.Prelude.{◌≡◌, ℕ, ◌<◌, Bool, ◌||◌, List, ◌∷◌, ◌++◌, codes, map}
use Rattle.ans_model.specs.Bytes.{escape}
use Rattle.ans_model.specs.Sequence.Reads.{ReadsAs}
use Rattle.ans_model.specs.Screen.State.{Size}
use Rattle.ans_model.specs.Screen.StartClass.{all_known, none_known}
use Rattle.ans_model.specs.declared.start.Start.{Start}
use Rattle.ans_model.specs.Verdict.Good.{Picture, GoodWith}
use Rattle.ans_players.specs.declared.difference.Difference.{Difference}
use Rattle.ans_players.specs.declared.difference.Difference.TheVariants.{OwnColours}
use Rattle.ans_players.specs.Classes.{HasOnlyAgreed, IsLeastSame}
use Rattle.ans_players.specs.Kinds.{is_kind}
use Rattle.ans_players.specs.Mends.{mending_spelled}
use Rattle.ans_players.specs.Named.{IsNamed}
use Rattle.ans_players.specs.Players.{Behaviour, IsShown}
use Rattle.ans_players.specs.Situations.{Spelled, AreAgreed, spelled}

-- ---- what is said of a content
-- What is said of a kind is said in one way.
abbrev pub NamedOneWay : Type 0
NamedOneWay = (z : Size) (content : List ℕ) (kind : Difference) (count offset other_count other_offset : ℕ)
    → IsNamed z content kind count offset → IsNamed z content kind other_count other_offset
    → (count ≡ other_count) × (0 < count → offset ≡ other_offset)

-- Content in which only agreed kinds arise is the same on every player for one least class.
abbrev pub LeastSameExists : Type 0
LeastSameExists =
    (agreed : Difference → Bool) (z : Size) (content : List ℕ) (needs : Start) → HasOnlyAgreed agreed z content needs
    → (class : Start) × IsLeastSame agreed z content class

-- A content has one such class at most.
abbrev pub LeastSameIsOne : Type 0
LeastSameIsOne = (agreed : Difference → Bool) (z : Size) (content : List ℕ) (a b : Start)
    → IsLeastSame agreed z content a → IsLeastSame agreed z content b → a ≡ b

-- ---- after the mending
-- an agreed kind, or own-colours
abbrev pub or_own : (Difference → Bool) → Difference → Bool
or_own agreed kind = is_kind OwnColours kind || agreed kind

-- these 25 bytes are read so
abbrev pub MendingIsRead : Type 0
MendingIsRead =
    ReadsAs
    ((escape ∷ codes "[?7h") ++ (escape ∷ codes "[0;37;40m") ++ (escape ∷ codes "[2J") ++ (escape ∷ codes "[H")
    ++ (escape ∷ codes "[s"))
    (map (λ x. x.token) mending_spelled) (map (λ x. x.text) mending_spelled)

-- No kind arises in the mending, and after it the same kinds arise from any class as from the cleared start, except
-- that own-colours may go, since the mending names both colours.
abbrev pub MendedIsAgreed : Type 0
MendedIsAgreed = (agreed : Difference → Bool) (z : Size) (class : Start) (xs : List Spelled) → 0 < z.width
    → (AreAgreed agreed z all_known xs → AreAgreed agreed z class (mending_spelled ++ xs))
    × (AreAgreed agreed z class (mending_spelled ++ xs) → AreAgreed (or_own agreed) z all_known xs)

-- Good content in which only agreed kinds arise from the cleared start shows its picture after the mending, from every
-- start.
abbrev pub MendedIsShown : Behaviour → Size → (Difference → Bool) → Type 0
MendedIsShown p z agreed = (content : List ℕ) (picture : Picture) (good : GoodWith z all_known content picture)
    → AreAgreed agreed z all_known (spelled good.tokens good.reads.0)
    → IsShown p z none_known (mending_spelled ++ spelled good.tokens good.reads.0) picture
