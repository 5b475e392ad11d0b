use Rattle.std.proofs.Common.{rules, refl}
use Rattle.std.proofs.lemmas.Result.{err_from_is_err_and}
use Rattle.ans_model.specs.Text.Words.{texts_of}
use Rattle.ans_table.specs.declared.counts.Counts.{Counts}
use Rattle.ans_write.specs.Puts.{device_of}
use Rattle.ans_check.specs.FileRows.{TellsNamed}
use Rattle.ans_check.specs.Table.{TellsRow, header}
use Rattle.ans_check.proofs.RowsLemmas.{ends_err, rows_behind, text_cut_off}
use Rattle.ans_check.proofs.rows.table.Goals as goal

pub returns-in_err-tell_header-clause-device : goal.returns-in_err-tell_header-clause-device
returns-in_err-tell_header-clause-device g c =
    let (e, at, same) = err_from_is_err_and c.from_residual.result c.from_residual.ensures.1 in
    let device = (ends_err {U = Counts} {old = c.new-out.result} refl c.in_err-tell_header.ensures.ends).device in
    rw (at, same) (search (rules, device))

pub returns-in_err-tell_header-clause-table : goal.returns-in_err-tell_header-clause-table
returns-in_err-tell_header-clause-table g c =
    let (e, at, same) = err_from_is_err_and c.from_residual.result c.from_residual.ensures.1 in
    let table =
    text_cut_off g.W.Write.contents
    (TellsNamed g.I.Reader.Read.remaining (g.I.Inputs.is_file c.args.inputs) (g.I.Inputs.fails c.args.inputs)
    (TellsRow c.args.choice.now)) (header c.args.choice.now.form c.args.choice.now.pictures) (texts_of c.args.names.now) c.args.output.now c.args.output.now
    (device_of c.tell_header.new.out) c.in_err-tell_header.field-0.0
    (rw c.new-out.ensures.unchanged at c.in_err-tell_header.ensures.written) in
    rw (at, same) (search (rules, table))

pub returns-clause-table : goal.returns-clause-table
returns-clause-table g c =
    let table =
    rows_behind g.W.Write.contents
    (TellsNamed g.I.Reader.Read.remaining (g.I.Inputs.is_file c.args.inputs) (g.I.Inputs.fails c.args.inputs)
    (TellsRow c.args.choice.now)) (header c.args.choice.now.form c.args.choice.now.pictures) (texts_of c.args.names.now) c.args.output.now
    (device_of c.tell_header.new.out) (device_of c.tell_rows.new.out) c.tell_rows.result
    (rw c.new-out.ensures.unchanged at c.in_ok-tell_header.ensures.written) c.tell_rows.ensures.rows in
    search (rules, table)

pub returns-clause-device : goal.returns-clause-device
returns-clause-device g c =
    let device = c.tell_rows.ensures.ends.device in
    search (rules, device)
