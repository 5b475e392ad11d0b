-- The starts of two classes.
use Rattle.ans_model.specs.Screen.State.{Size, State}
use Rattle.ans_model.specs.Screen.StartClass.{IsStart}
use Rattle.ans_model.specs.declared.start.Start.{Start}

-- each start of the second class is one of the first
abbrev pub HasStartsOf : Size → Start → Start → Type 0
HasStartsOf z a b = (s : State) → IsStart z b s → IsStart z a s
