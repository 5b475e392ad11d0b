use Rattle.std.proofs.Common.{◌≡◌, ◌≤◌, take}
use Rattle.std.specs.List.{position_or_len}
use Rattle.ans_model.specs.File.Record.{trimmed}
use Rattle.ans_why.specs.Fonts.{ends_text, font_name}
use Rattle.ans_why.proofs.font.font_name.Given as goal

abbrev pub decreases-loop-end : goal.decreases-loop-end
decreases-loop-end l = l.end

-- no zero byte stands before the end, and no more than padding was cut off
abbrev pub invariant-loop-end : goal.invariant-loop-end
invariant-loop-end l = (l.end ≤ position_or_len ends_text l.field) × (trimmed (take l.end l.field) ≡ font_name l.field)
