-- Laws of the classes of starts.
use Rattle.std.specs.Prelude.{◌≡◌, ◌↔◌, ◌||◌, ℕ, true, false, List, replicate}
use Rattle.ans_model.specs.declared.start.Start.{Start}
use Rattle.ans_model.specs.Screen.State.{Size, IsSize, State, IsWellFormed, at, cell, cell_count}
use Rattle.ans_model.specs.Screen.StartClass.{none_known, all_known, Covers, both_known, cleared, IsStart, low_start}
use Rattle.ans_model.specs.Screen.StartClass.{high_start, all_but_screen, all_but_cursor, all_but_saved}
use Rattle.ans_model.specs.Screen.StartClass.{all_but_colours, all_but_wrap}
use Rattle.ans_model.specs.Verdict.Good.{Picture, GoodWith}

-- Where nothing is known, a start is every state of the machine.
abbrev pub NoneKnownIsEvery : Type 0
NoneKnownIsEvery = (z : Size) (s : State) → IsStart z none_known s ↔ IsWellFormed z s

-- Where all is known, it is the one cleared state.
abbrev pub AllKnownIsOne : Type 0
AllKnownIsOne = (z : Size) (s : State) → IsSize z → IsStart z all_known s ↔ (s ≡ cleared z)

-- the starts of the class are the states of the machine of which this is so
abbrev pub HasStarts : Start → (Size → State → Type 0) → Type 0
HasStarts class P = (z : Size) (s : State) → IsStart z class s ↔ (IsWellFormed z s × P z s)

-- If only one part is known, the starts are the states in which it has its value on the cleared screen.
pub record OnePartIsKnown : Type 0 where
  pub screen : HasStarts (record none_known { screen = true })
      (λ z s. s.screen ≡ replicate (cell_count z) (cell 0x20 0x07))
  pub cursor : HasStarts (record none_known { cursor = true }) (λ z s. s.cursor ≡ at 0 0)
  pub saved : HasStarts (record none_known { saved = true }) (λ z s. s.saved ≡ at 0 0)
  pub colours : HasStarts (record none_known { colours = true }) (λ z s. s.attribute ≡ 0x07)
  pub wrap : HasStarts (record none_known { wrap = true }) (λ z s. s.wrap ≡ true)

-- the parts that are known in one class or the other
abbrev pub known_in_either : Start → Start → Start
known_in_either a b = record {
  screen = a.screen || b.screen;
  cursor = a.cursor || b.cursor;
  saved = a.saved || b.saved;
  colours = a.colours || b.colours;
  wrap = a.wrap || b.wrap;
}

-- Where the known parts of two classes are known together, the starts are those that both classes have.
abbrev pub KnownPartsTogether : Type 0
KnownPartsTogether = (z : Size) (a b : Start) (s : State)
    → IsStart z (known_in_either a b) s ↔ (IsStart z a s × IsStart z b s)

-- A class's low start is one of its starts.
abbrev pub LowIsStart : Type 0
LowIsStart = (z : Size) (class : Start) → IsSize z → IsStart z class (low_start z class)

-- A class's high start is one of its starts.
abbrev pub HighIsStart : Type 0
HighIsStart = (z : Size) (class : Start) → IsSize z → IsStart z class (high_start z class)

-- The starts of a class are starts of each class that covers it.
abbrev pub CoversStarts : Type 0
CoversStarts = (z : Size) (a b : Start) (s : State) → Covers a b → IsStart z b s → IsStart z a s

-- What is good for a class is good for each class that it covers, and shows the same picture.
abbrev pub CoversGood : Type 0
CoversGood =
    (z : Size) (a b : Start) (content : List ℕ) (picture : Picture) → Covers a b → GoodWith z a content picture
    → GoodWith z b content picture

-- A class covers that which knows what both know exactly where it covers both.
abbrev pub BothKnownIsGreatest : Type 0
BothKnownIsGreatest = (a b c : Start) → Covers c (both_known a b) ↔ (Covers c a × Covers c b)

-- A class covers that of all parts but one exactly where it does not know that part.
pub record CoversAllBut (class : Start) : Type 0 where
  pub screen : Covers class all_but_screen ↔ (class.screen ≡ false)
  pub cursor : Covers class all_but_cursor ↔ (class.cursor ≡ false)
  pub saved : Covers class all_but_saved ↔ (class.saved ≡ false)
  pub colours : Covers class all_but_colours ↔ (class.colours ≡ false)
  pub wrap : Covers class all_but_wrap ↔ (class.wrap ≡ false)
