use Rattle.ans_players.specs.Kinds.{all_kinds}
use Rattle.ans_kinds.specs.KindsUsed.{used_of}
use Rattle.ans_why.specs.PlayersText.{kind_line}
use Rattle.ans_write.proofs.PutsLemmas.{Puts-next}
use Rattle.ans_why.proofs.players_text.put_kind_lines.Goals as goal

pub loop-kind-preserved : goal.loop-kind-preserved
loop-kind-preserved g c =
    Puts-next (λ kind. kind_line kind (used_of c.args.used.now kind)) all_kinds c.loop-kind.kind-index _
    c.loop-kind-test.true c.loop-kind.invariant (rw c.of.ensures at c.put_kind_line.ensures)
