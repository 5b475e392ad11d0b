use Rattle.std.proofs.Common.{rules, ◌≡◌}
use Rattle.ans_model.specs.Text.FaultText.{fault_text}
use Rattle.ans_write.proofs.PutsLemmas.{Puts-then}
use Rattle.ans_report.proofs.fault_lines.put_fault.Goals as goal

pub returns : goal.returns
returns g c =
    let text : c.as_bytes.result.now ≡ fault_text c.args.fault.now.cause = search rules in
    Puts-then c.put.ensures (Puts-then c.put_decimal.ensures (Puts-then c.put-2.ensures
    (Puts-then (rw text at c.put-3.ensures) c.put_position.ensures)))
