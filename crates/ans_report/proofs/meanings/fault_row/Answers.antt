use Rattle.std.proofs.Common.{sym}
use Rattle.std.proofs.Math.ListN.{get_or-map}
use Rattle.ans_report.proofs.RowTexts.{FaultRow}
use Rattle.ans_report.proofs.meanings.fault_row.Goals as goal

pub returns : goal.returns
returns c =
    let rows = c.args.rows.now in
    let place = c.args.place in
    record {
      text = sym (get_or-map (λ (row : FaultRow). row.0.now) rows place _);
      help = sym (get_or-map (λ (row : FaultRow). row.1) rows place _);
      meaning = sym (get_or-map (λ (row : FaultRow). row.2.now) rows place _);
    }
