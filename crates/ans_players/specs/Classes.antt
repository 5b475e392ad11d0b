-- From which starts good content shows the same on every player.
use Rattle.std.specs.Prelude.{◌≡◌, ◌↔◌, ◌⊎◌, ℕ, ◌<◌, Bool, true, false, IsTrue, List, map, take, slice_get, Some}
use Rattle.ans_model.specs.Screen.State.{Size, State}
use Rattle.ans_model.specs.Screen.StartClass.{Covers, both_known, all_known, all_but_cursor, all_but_saved}
use Rattle.ans_model.specs.Screen.StartClass.{all_but_colours, all_but_wrap, low_start, high_start}
use Rattle.ans_model.specs.declared.start.Start.{Start}
use Rattle.ans_model.specs.Verdict.Good.{IsGood, PlaysWell}
use Rattle.ans_model.specs.Verdict.Needs.{IsLeast}
use Rattle.ans_players.specs.declared.difference.Difference.{Difference}
use Rattle.ans_players.specs.Situations.{AreAgreed, Spelled, is_agreed, spelled, stand_of}

-- good content in which no kinds but agreed ones arise
abbrev pub IsSame : (Difference → Bool) → Size → Start → List ℕ → Type 0
IsSame agreed z class content =
    (good : IsGood z class content) × AreAgreed agreed z class (spelled good.1.tokens good.1.reads.0)

-- The content is the same for exactly those classes in which each part is known that is known in this one.
abbrev pub IsLeastSame : (Difference → Bool) → Size → List ℕ → Start → Type 0
IsLeastSame agreed z content class = (c : Start) → IsSame agreed z c content ↔ Covers class c

-- What is agreed from two classes is agreed from that of the parts known in both, if the tokens play well from there.
abbrev pub AgreedMeet : Type 0
AgreedMeet = (agreed : Difference → Bool) (z : Size) (a b : Start) (xs : List Spelled) → 0 < z.width
    → PlaysWell z (both_known a b) (map (λ x. x.token) xs) → AreAgreed agreed z a xs → AreAgreed agreed z b xs
    → AreAgreed agreed z (both_known a b) xs

-- A part is not known in this class exactly where the content is the same for the class of all other parts. The cells
-- are known exactly where the content needs them.
pub record IsFoundBySame (agreed : Difference → Bool) (z : Size) (content : List ℕ) (needs class : Start) : Type 0 where
  pub screen : class.screen ≡ needs.screen
  pub cursor : (class.cursor ≡ false) ↔ IsSame agreed z all_but_cursor content
  pub saved : (class.saved ≡ false) ↔ IsSame agreed z all_but_saved content
  pub colours : (class.colours ≡ false) ↔ IsSame agreed z all_but_colours content
  pub wrap : (class.wrap ≡ false) ↔ IsSame agreed z all_but_wrap content

-- from the cleared start no kinds but agreed ones arise in the content, and this is the least class for which it is
-- good
pub record HasOnlyAgreed (agreed : Difference → Bool) (z : Size) (content : List ℕ) (needs : Start) : Type 0 where
  pub same : IsSame agreed z all_known content
  pub least : IsLeast z content needs

-- The least class for which such content is the same is found part by part.
abbrev pub LeastSameIsFound : Type 0
LeastSameIsFound = (agreed : Difference → Bool) (z : Size) (content : List ℕ) (needs class : Start)
    → HasOnlyAgreed agreed z content needs → IsFoundBySame agreed z content needs class
    → IsLeastSame agreed z content class

-- from this start no kinds but agreed ones arise at the tokens
abbrev pub IsAgreedFrom : (Difference → Bool) → Size → State → List Spelled → Type 0
IsAgreedFrom agreed z s xs = (k : ℕ) (x : Spelled) → slice_get xs k ≡ Some x
    → IsTrue (is_agreed agreed z (stand_of z s (take k xs)) x)

-- two starts are enough to decide for the whole class: wrap is known, or is the only part that is not
abbrev pub IsToldByTwo : Start → Type 0
IsToldByTwo class = (class.wrap ≡ true) ⊎ (class ≡ all_but_wrap)

-- from the low and the high start of the class no kinds but agreed ones arise
abbrev pub AgreedFromTwo : (Difference → Bool) → Size → Start → List Spelled → Type 0
AgreedFromTwo agreed z class xs =
    IsAgreedFrom agreed z (low_start z class) xs × IsAgreedFrom agreed z (high_start z class) xs

-- Two starts decide for such a class.
abbrev pub TwoStartsTell : Type 0
TwoStartsTell =
    (agreed : Difference → Bool) (z : Size) (class : Start) (xs : List Spelled) → 0 < z.width → IsToldByTwo class
    → PlaysWell z class (map (λ x. x.token) xs) → AgreedFromTwo agreed z class xs → AreAgreed agreed z class xs

-- So such content is the same for such a class exactly where it is good for it and two starts agree.
abbrev pub SameByTwoStarts : Type 0
SameByTwoStarts = (agreed : Difference → Bool) (z : Size) (content : List ℕ) (needs class : Start)
    → (only_agreed : HasOnlyAgreed agreed z content needs) → IsToldByTwo class
    → IsSame agreed z class content
    ↔ (Covers needs class
    × AgreedFromTwo agreed z class (spelled only_agreed.same.0.1.tokens only_agreed.same.0.1.reads.0))
