use Rattle.std.proofs.Common.{◌≡◌, ◌++◌, ℕ, List, All, drop, take}
use Rattle.ans_model.specs.Bytes.{IsByte}
use Rattle.ans_write.specs.Puts.{Puts}
use Rattle.ans_table.specs.NameText.{name_after, name_text}
use Rattle.ans_table.proofs.name_text.put_name.Given as goal

abbrev pub invariant-loop-i : goal.invariant-loop-i
invariant-loop-i g l = ((text : List ℕ) × Puts g.W.Write.contents l.fn.out l.out text
    × (name_text l.name ≡ text ++ name_after l.copied (drop l.i l.name)))
    × All IsByte (take l.i l.name)
