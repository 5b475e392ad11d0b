-- What a content needs: the parts of the start that have to be known.
use Rattle.std.specs.Prelude.{◌≡◌, ◌↔◌, ℕ, List, false}
use Rattle.ans_model.specs.Screen.State.{Size}
use Rattle.ans_model.specs.Screen.StartClass.{Covers, all_but_screen, all_but_cursor, all_but_saved, all_but_colours}
use Rattle.ans_model.specs.Screen.StartClass.{all_but_wrap}
use Rattle.ans_model.specs.Verdict.Good.{IsGood}
use Rattle.ans_model.specs.declared.start.Start.{Start}

-- The content is good for exactly those classes in which each part is known that is known in this one.
abbrev pub IsLeast : Size → List ℕ → Start → Type 0
IsLeast z content class = (c : Start) → IsGood z c content ↔ Covers class c

-- A part is not known in this class exactly where the content is good for the class of all other parts.
pub record IsFoundByParts (z : Size) (content : List ℕ) (class : Start) : Type 0 where
  pub screen : (class.screen ≡ false) ↔ IsGood z all_but_screen content
  pub cursor : (class.cursor ≡ false) ↔ IsGood z all_but_cursor content
  pub saved : (class.saved ≡ false) ↔ IsGood z all_but_saved content
  pub colours : (class.colours ≡ false) ↔ IsGood z all_but_colours content
  pub wrap : (class.wrap ≡ false) ↔ IsGood z all_but_wrap content
