-- A fault within a line.
use Rattle.std.specs.Prelude.{ℕ, List, ◌++◌, codes, decimal}
use Rattle.ans_model.specs.declared.fault.Fault.{Fault}
use Rattle.ans_model.specs.Text.FaultText.{fault_text, position_text}

-- its offset, its text, and the position of an unknown cell
abbrev pub fault_told : Fault → List ℕ
fault_told fault =
    codes "at "
    ++ (decimal fault.offset ++ (codes ", " ++ (fault_text fault.cause ++ position_text fault.cause)))
