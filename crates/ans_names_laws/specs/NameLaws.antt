-- What naming the colours of a content does, and what it leaves.
use Rattle.std.specs.Prelude.{◌≡◌, ℕ, ◌<◌, Bool, false, List, [], ◌++◌, take, map, slice_get, Some}
use Rattle.ans_model.specs.Sequence.TokenKind.{TokenKind}
use Rattle.ans_model.specs.Sequence.Reads.{Reads, ReadsAs}
use Rattle.ans_model.specs.Screen.State.{Size, State}
use Rattle.ans_model.specs.Screen.StartClass.{all_known, none_known}
use Rattle.ans_model.specs.declared.start.Start.{Start}
use Rattle.ans_model.specs.Verdict.Good.{Picture, GoodWith}
use Rattle.ans_players.specs.Mends.{mending_spelled}
use Rattle.ans_players_laws.specs.Laws.{or_own}
use Rattle.ans_players.specs.declared.difference.Difference.{Difference}
use Rattle.ans_players.specs.Players.{Behaviour, IsShown}
use Rattle.ans_players.specs.Situations.{AreAgreed, Spelled, name_kinds, spelled, stand_of}
use Rattle.ans_model.specs.Screen.Beginning.{mending}
use Rattle.ans_mend.specs.NamedColours.{begins_unnamed, named_content}
use Rattle.ans_names_laws.specs.NamedTokens.{named_tokens}

-- own-colours arises at none of the tokens, from this start
abbrev pub NeverOwn : Size → State → List Spelled → Type 0
NeverOwn z s xs = (k : ℕ) (x : Spelled) → slice_get xs k ≡ Some x
    → name_kinds (stand_of z s (take k xs)).names x.token ≡ []

-- Without the kind no byte changes.
abbrev pub NothingToName : Type 0
NothingToName = (z : Size) (s : State) (content : List ℕ) (tokens : List TokenKind) (reads : Reads content tokens)
    → NeverOwn z s (spelled tokens reads.0) → named_content (spelled tokens reads.0) ≡ content

-- What is read is read with its colours named, as its tokens with the names that are missing.
abbrev pub NamedIsRead : Type 0
NamedIsRead = (content : List ℕ) (tokens : List TokenKind) (reads : Reads content tokens)
    → ReadsAs (named_content (spelled tokens reads.0)) (map (λ x. x.token) (named_tokens (spelled tokens reads.0)))
    (map (λ x. x.text) (named_tokens (spelled tokens reads.0)))

-- Each cell stays: what is good shows the same picture with its colours named, from all the same starts.
abbrev pub CellsStay : Type 0
CellsStay = (z : Size) (class : Start) (content : List ℕ) (picture : Picture)
    (good : GoodWith z class content picture)
    → GoodWith z class (named_content (spelled good.tokens good.reads.0)) picture

-- It is so read in one way, and named once for all: naming its colours again changes no byte.
abbrev pub TwiceIsOnce : Type 0
TwiceIsOnce = (content : List ℕ) (tokens named : List TokenKind) (reads : Reads content tokens)
    (again : Reads (named_content (spelled tokens reads.0)) named)
    → named_content (spelled named again.0) ≡ named_content (spelled tokens reads.0)

-- Nor does it change one after the mending, and what is printed first is printed in named colours there. Without the
-- mending it is so as it was before.
abbrev pub TwiceIsOnceMended : Type 0
TwiceIsOnceMended = (content : List ℕ) (tokens named : List TokenKind) (reads : Reads content tokens)
    (again : Reads (named_content (spelled tokens reads.0)) named)
    → (named_content (mending_spelled ++ spelled named again.0) ≡ mending ++ named_content (spelled tokens reads.0))
    × (begins_unnamed (mending_spelled ++ spelled named again.0) ≡ false)
    × (begins_unnamed (spelled named again.0) ≡ begins_unnamed (spelled tokens reads.0))

-- Own-colours arises nowhere in it, if nothing is printed or cleared while not both colours are named before a sequence
-- takes the names away. After the mending it arises nowhere at all.
abbrev pub NoneOwnIsLeft : Type 0
NoneOwnIsLeft = (z : Size) (s : State) (content : List ℕ) (tokens named : List TokenKind) (reads : Reads content tokens)
    (again : Reads (named_content (spelled tokens reads.0)) named)
    → (begins_unnamed (spelled tokens reads.0) ≡ false → NeverOwn z s (spelled named again.0))
    × NeverOwn z s (mending_spelled ++ spelled named again.0)

-- No other kind is added: what was agreed is so, from whichever starts.
abbrev pub NoKindIsAdded : Type 0
NoKindIsAdded =
    (agreed : Difference → Bool) (z : Size) (class : Start) (content : List ℕ) (tokens named : List TokenKind)
    (reads : Reads content tokens) (again : Reads (named_content (spelled tokens reads.0)) named)
    → AreAgreed agreed z class (spelled tokens reads.0) → AreAgreed agreed z class (spelled named again.0)

-- And own-colours, where it was agreed, need not be any more: if nothing is printed or cleared while not both colours
-- are named before a sequence takes the names away, or after the mending.
abbrev pub OwnNeedNotBeAgreed : Type 0
OwnNeedNotBeAgreed = (agreed : Difference → Bool) (z : Size) (class : Start) (content : List ℕ)
    (tokens named : List TokenKind) (reads : Reads content tokens)
    (again : Reads (named_content (spelled tokens reads.0)) named)
    → (begins_unnamed (spelled tokens reads.0) ≡ false → AreAgreed (or_own agreed) z class (spelled tokens reads.0)
    → AreAgreed agreed z class (spelled named again.0))
    × (0 < z.width → AreAgreed (or_own agreed) z all_known (spelled tokens reads.0)
    → AreAgreed agreed z class (mending_spelled ++ spelled named again.0))

-- So what is good from the cleared start, if only agreed kinds and own-colours arise in it, shows its picture from
-- every start with its colours named, after the mending: on a player that does as the profile does in the agreed ones,
-- even if it does not in own-colours.
abbrev pub NamedIsShown : Behaviour → Size → (Difference → Bool) → Type 0
NamedIsShown p z agreed = (content : List ℕ) (picture : Picture) (good : GoodWith z all_known content picture)
    (named : List TokenKind) (again : Reads (named_content (spelled good.tokens good.reads.0)) named)
    → AreAgreed (or_own agreed) z all_known (spelled good.tokens good.reads.0)
    → IsShown p z none_known (mending_spelled ++ spelled named again.0) picture
