-- Which changes keep the returns of a drawing.
use Rattle.std.specs.Prelude.{◌≡◌, false, ◌&&◌}
use Rattle.ans_model.specs.declared.mends.Mends.{Mends}

-- where returns are to be put, neither sequences nor last line ends are taken out: the last return might go with them,
-- and then returns would be wanted again
abbrev pub KeepsReturns : Mends → Type 0
KeepsReturns mends = (mends.crlf && mends.take_out) ≡ false
