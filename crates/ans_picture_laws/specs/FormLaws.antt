-- What is proved of the form.
use Rattle.std.specs.Prelude.{◌≡◌, ◌↔◌, ℕ, ◌+◌, ◌<◌, Bool, IsTrue, IsFalse, List, [], fold, map}
use Rattle.std.specs.Prelude.{take, length, slice_get, All, Some, ◌≤◌}
use Rattle.std.specs.List.{concat, list_any}
use Rattle.ans_model.specs.Bytes.{IsByte}
use Rattle.ans_model.specs.File.Layout.{is_end_mark}
use Rattle.ans_model.specs.Sequence.TokenKind.{LineFeed}
use Rattle.ans_model.specs.Sequence.Reads.{ReadsAs}
use Rattle.ans_model.specs.Screen.State.{Size, State}
use Rattle.ans_model.specs.Screen.Step.{final}
use Rattle.ans_model.specs.Screen.StartClass.{none_known}
use Rattle.ans_model.specs.declared.start.Start.{Start}
use Rattle.ans_model.specs.Verdict.Good.{Picture, GoodWith}
use Rattle.ans_model.specs.Verdict.Needs.{IsLeast}
use Rattle.ans_players.specs.declared.difference.Difference.{Difference}
use Rattle.ans_players.specs.Classes.{IsLeastSame}
use Rattle.ans_players.specs.Sync.{Stand}
use Rattle.ans_players.specs.Names.{Names, are_both, names_after}
use Rattle.ans_players.specs.Players.{Behaviour, IsShown}
use Rattle.ans_players.specs.Situations.{Spelled, AreAgreed, situations}
use Rattle.ans_redraw.specs.Colours.{colours_to}
use Rattle.ans_picture_laws.specs.Drawable.{IsDrawable, BytesAreAgreed}
use Rattle.ans_redraw.specs.Form.{form, form_bytes}

-- Where the current attribute is the first one, the colours make it the second, and change nothing else.
abbrev pub ColoursLead : Type 0
ColoursLead = (z : Size) (s : State) (to : ℕ) → IsByte s.attribute → IsByte to
    → final z s (map (λ x. x.token) (colours_to s.attribute to)) ≡ record s { attribute = to }

-- No kind arises at them, whatever the sync of players is and whichever colours are named.
abbrev pub ColoursAreAgreed : Type 0
ColoursAreAgreed = (z : Size) (h : Stand) (from to : ℕ) → IsByte from → IsByte to
    → All (λ x. situations z h x ≡ []) (colours_to from to)

-- They have at most ten bytes after ESC and `[`: ansilove takes a sequence of up to 14 for one.
abbrev pub ColoursAreShort : Type 0
ColoursAreShort = (from to : ℕ) → All (λ x. length x.text ≤ 12) (colours_to from to)

-- If both colours are named, both are named after them.
abbrev pub ColoursKeepNames : Type 0
ColoursKeepNames = (names : Names) (from to : ℕ) → IsByte from → IsByte to → IsTrue (are_both names)
    → IsTrue (are_both (fold names_after names (map (λ x. x.token) (colours_to from to))))

-- the texts spell the tokens, one after the other
abbrev pub IsReadBack : List Spelled → Type 0
IsReadBack xs = ReadsAs (concat (map (λ x. x.text) xs)) (map (λ x. x.token) xs) (map (λ x. x.text) xs)

-- Their bytes are read as they are meant.
abbrev pub ColoursAreRead : Type 0
ColoursAreRead = (from to : ℕ) → IsByte from → IsByte to → IsReadBack (colours_to from to)

-- The form is read as it is meant.
abbrev pub FormIsRead : Type 0
FormIsRead = (z : Size) (picture : Picture) → IsDrawable z picture → IsReadBack (form picture)

-- Its bytes are good from every start of every class, and show the picture.
abbrev pub FormIsGood : Type 0
FormIsGood = (z : Size) (class : Start) (picture : Picture) → IsDrawable z picture
    → GoodWith z class (form_bytes picture) picture

-- So they need no part of a start to be known.
abbrev pub FormNeedsNothing : Type 0
FormNeedsNothing = (z : Size) (picture : Picture) → IsDrawable z picture → IsLeast z (form_bytes picture) none_known

-- Its bytes have no end mark, so all of them are the content of a file that they begin.
abbrev pub FormHasNoEndMark : Type 0
FormHasNoEndMark = (z : Size) (picture : Picture) → IsDrawable z picture
    → IsFalse (list_any is_end_mark (form_bytes picture))

-- After it the attribute is white on black, from whichever state.
abbrev pub FormEndsGrey : Type 0
FormEndsGrey = (z : Size) (s : State) (picture : Picture) → IsDrawable z picture
    → (final z s (map (λ x. x.token) (form picture))).attribute ≡ 0x07

-- No line feed of it leads below the stated lines.
abbrev pub FormFeedsOn : Type 0
FormFeedsOn = (z : Size) (s : State) (picture : Picture) (k : ℕ) → IsDrawable z picture
    → slice_get (map (λ x. x.token) (form picture)) k ≡ Some LineFeed
    → (final z s (take k (map (λ x. x.token) (form picture)))).cursor.row + 1 < z.lines

-- From any start those kinds arise in the form that the picture's own bytes have, and no others.
abbrev pub FormIsAgreed : Type 0
FormIsAgreed = (agreed : Difference → Bool) (z : Size) (class : Start) (picture : Picture) → IsDrawable z picture
    → BytesAreAgreed agreed picture ↔ AreAgreed agreed z class (form picture)

-- So its bytes are the same from every start exactly where those kinds are agreed.
abbrev pub FormIsSame : Type 0
FormIsSame = (agreed : Difference → Bool) (z : Size) (picture : Picture) → IsDrawable z picture
    → BytesAreAgreed agreed picture ↔ IsLeastSame agreed z (form_bytes picture) none_known

-- And such a player shows the picture, from every memory that is in sync with any start.
abbrev pub FormIsShown : Behaviour → Size → (Difference → Bool) → Type 0
FormIsShown p z agreed = (picture : Picture) → IsDrawable z picture → BytesAreAgreed agreed picture
    → IsShown p z none_known (form picture) picture

-- Each picture that good content shows can be drawn, where the content has no end mark.
abbrev pub GoodPicturesAreDrawable : Type 0
GoodPicturesAreDrawable = (z : Size) (class : Start) (content : List ℕ) (picture : Picture)
    → GoodWith z class content picture → IsFalse (list_any is_end_mark content) → IsDrawable z picture

-- Pictures of one size have one form only where they are equal.
abbrev pub FormTellsThePicture : Type 0
FormTellsThePicture = (z : Size) (p q : Picture) → IsDrawable z p → IsDrawable z q → form_bytes p ≡ form_bytes q
    → p ≡ q

-- What shows the picture of a form has that form: a redrawn content is redrawn as it is.
abbrev pub FormIsKept : Type 0
FormIsKept = (z : Size) (class : Start) (p q : Picture) → IsDrawable z p → GoodWith z class (form_bytes p) q
    → form_bytes q ≡ form_bytes p
