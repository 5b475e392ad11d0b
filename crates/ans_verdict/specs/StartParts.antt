-- The parts of a start, each by itself, and what plays tell of the classes that know them.
use Rattle.std.specs.Prelude.{ℕ, Bool, false, List, Option, Some, None}
use Rattle.ans_model.specs.Screen.State.{Size}
use Rattle.ans_model.specs.Screen.StartClass.{all_known}
use Rattle.ans_model.specs.Verdict.Good.{IsGood}
use Rattle.ans_model.specs.declared.fault.Fault.{Fault}
use Rattle.ans_model.specs.declared.start.Start.{Start}
use Rattle.ans_verdict.specs.FileVerdict.{Deserves}
use Rattle.ans_verdict.specs.declared.part.Part.{Part}
use Rattle.ans_verdict.specs.declared.part.Part.TheVariants.{Screen, Cursor, Saved, Colours, Wrap}
use Rattle.ans_verdict.specs.declared.least_class.PassingClass.{PassingClass}

-- whether the part is known in the class
abbrev pub knows : Start → Part → Bool
knows class Screen = class.screen
knows class Cursor = class.cursor
knows class Saved = class.saved
knows class Colours = class.colours
knows class Wrap = class.wrap

-- the class with this part known or not, and the others as they are
abbrev pub with_part : Part → Bool → Start → Start
with_part Screen known class = record class { screen = known }
with_part Cursor known class = record class { cursor = known }
with_part Saved known class = record class { saved = known }
with_part Colours known class = record class { colours = known }
with_part Wrap known class = record class { wrap = known }

-- the class that knows all other parts
abbrev pub all_but : Part → Start
all_but part = with_part part false all_known

-- the content is good for the class, or deserves this fault
abbrev pub EndsFrom : Size → List ℕ → Start → Option Fault → Type 0
EndsFrom z content class None = IsGood z class content
EndsFrom z content class (Some fault) = Deserves z class content fault

-- the content is good for the one class, and not for the other
pub record IsPassingClass (z : Size) (content : List ℕ) (p : PassingClass) : Type 0 where
  pub good : IsGood z p.class content
  pub refused : ¬ IsGood z p.refused content
