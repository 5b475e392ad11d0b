use Rattle.std.proofs.Common.{take}
use Rattle.std.specs.List.{flat_map}
use Rattle.ans_players.specs.Kinds.{all_kinds}
use Rattle.ans_kinds.specs.KindsUsed.{used_of}
use Rattle.ans_why.specs.PlayersText.{kind_line}
use Rattle.ans_write.specs.Puts.{Puts}
use Rattle.ans_why.proofs.players_text.put_kind_lines.Given as goal

abbrev pub invariant-loop-kind : goal.invariant-loop-kind
invariant-loop-kind g l =
    Puts g.W.Write.contents l.fn.out l.out
    (flat_map (λ kind. kind_line kind (used_of l.used kind)) (take l.kind-index all_kinds))
