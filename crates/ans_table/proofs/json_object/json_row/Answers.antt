use Rattle.std.proofs.lemmas.Result.{IfOk-weaker}
use Rattle.ans_table.proofs.JsonLemmas.{row_float, row_nests}
use Rattle.ans_table.proofs.json_object.json_row.Goals as goal

pub returns-clause-text : goal.returns-clause-text
returns-clause-text c =
    IfOk-weaker c.to_string.result _ _ (λ s h. h (row_float c.args.name.now c.args.finding.now _ _))
    (rw c.in_ok-row_value.ensures at c.to_string.ensures.text)

pub returns-clause-reads_back : goal.returns-clause-reads_back
returns-clause-reads_back c =
    IfOk-weaker c.to_string.result _ _ (λ s h. h (row_nests c.args.name.now c.args.finding.now _ _))
    (rw c.in_ok-row_value.ensures at c.to_string.ensures.reads_back)
