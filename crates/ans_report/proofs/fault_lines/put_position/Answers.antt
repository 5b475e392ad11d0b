use Rattle.std.proofs.Common.{rules, ◌≡◌, sym, ap}
use Rattle.ans_model.specs.Text.FaultText.{position_text}
use Rattle.ans_write.proofs.PutsLemmas.{Puts-same, Puts-then}
use Rattle.ans_report.proofs.fault_lines.put_position.Goals as goal

pub returns : goal.returns
returns g c =
    let row : c.from.result ≡ c.in-UnknownCell.row = search rules in
    let column : c.from-2.result ≡ c.in-UnknownCell.col = search rules in
    Puts-same (sym (ap position_text c.in-UnknownCell.is))
    (Puts-then c.put.ensures (Puts-then (rw row at c.put_decimal.ensures) (Puts-then c.put-2.ensures
    (Puts-then (rw column at c.put_decimal-2.ensures) c.put-3.ensures))))
