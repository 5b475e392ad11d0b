use Rattle.std.proofs.Common.{sym, ◌∙◌}
use Rattle.ans_write.proofs.PutsLemmas.{Puts-same, Puts-then}
use Rattle.ans_why.proofs.PlayerLines.{everywhere_line_is}
use Rattle.ans_why.proofs.players_text.put_everywhere_line.Goals as goal

pub returns : goal.returns
returns g c =
    Puts-same (everywhere_line_is c.args.needs c.args.class (sym c.is_same_class.ensures ∙ c.if-is_same_class.false))
    (Puts-then c.put.ensures (Puts-then c.put_needed_parts.ensures c.put-2.ensures))
