use Rattle.std.proofs.Common.{ap, rules, sym, ◌≡◌}
use Rattle.ans_write.proofs.PutsLemmas.{Puts-same, Puts-then}
use Rattle.ans_table.specs.Columns.{verdict_columns}
use Rattle.ans_table.specs.Findings.{unread_text}
use Rattle.ans_table.proofs.columns.put_verdict.Goals as goal

pub returns-in-Err : goal.returns-in-Err
returns-in-Err g c =
    let text : c.as_bytes.result.now ≡ unread_text c.in-Err.why = search rules in
    Puts-same (sym (ap verdict_columns c.in-Err.is))
    (Puts-then c.put.ensures (Puts-then (rw text at c.put_column.ensures) c.put-in-Err.ensures))
