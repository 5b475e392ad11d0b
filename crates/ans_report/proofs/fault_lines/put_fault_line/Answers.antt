use Rattle.std.proofs.Common.{rules, ◌≡◌, ◌++◌, codes, decimal, append_assoc}
use Rattle.ans_model.specs.declared.fault.Fault.{Fault}
use Rattle.ans_model.specs.Text.FaultText.{fault_text, position_text, fault_line}
use Rattle.ans_write.proofs.PutsLemmas.{Puts-same, Puts-then}
use Rattle.ans_report.proofs.fault_lines.put_fault_line.Goals as goal

fault_line_is : (f : Fault)
    → codes "at " ++ (decimal f.offset ++ (codes ": " ++ (fault_text f.cause ++ (position_text f.cause ++ codes "\n"))))
    ≡ fault_line f
fault_line_is f = simp append_assoc

pub returns : goal.returns
returns g c =
    let f = c.args.fault.now in
    let text : c.as_bytes.result.now ≡ fault_text f.cause = search rules in
    Puts-same (fault_line_is f)
    (Puts-then c.put.ensures (Puts-then c.put_decimal.ensures (Puts-then c.put-2.ensures
    (Puts-then (rw text at c.put-3.ensures) (Puts-then c.put_position.ensures c.put-4.ensures)))))
