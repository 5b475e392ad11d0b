use Rattle.std.proofs.Common.{refl}
use Rattle.std.proofs.lemmas.Result.{err_from_is_err_and}
use Rattle.ans_table.specs.Findings.{outcome_of}
use Rattle.ans_check.specs.Table.{row_in}
use Rattle.ans_check.proofs.rows.TableChoiceFileRows.put.Goals as goal

pub returns-in_err-put_row_in : goal.returns-in_err-put_row_in
returns-in_err-put_row_in g c =
    let (e, at, same) = err_from_is_err_and c.from_residual.result c.from_residual.ensures.1 in
    let choice = c.args.self.now in
    let row = c.row_for-row.result in
    rw at (record {
      outcome = outcome_of row.finding;
      text = row_in choice.form choice.pictures c.args.name.now row;
      told = record {
        row = row;
        is_row = c.row_for-row.ensures;
        outcome_is = refl;
        text_is = refl;
      };
      puts = c.in_err-put_row_in.ensures;
      is = tt;
    })
