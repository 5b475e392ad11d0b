-- How a drawing that is good from the cleared start is mended.
use Rattle.std.specs.Prelude.{List, ℕ, ◌++◌}
use Rattle.ans_model.specs.Screen.Beginning.{mending}
use Rattle.ans_model.specs.Screen.State.{Size}
use Rattle.ans_model.specs.Screen.StartClass.{all_known, none_known}
use Rattle.ans_model.specs.Verdict.Good.{Picture, GoodWith}

-- what is good from the cleared start is good from every start after the safe beginning, with the same picture
abbrev pub MakesGood : Type 0
MakesGood = (z : Size) (content : List ℕ) (picture : Picture) → GoodWith z all_known content picture
    → GoodWith z none_known (mending ++ content) picture
