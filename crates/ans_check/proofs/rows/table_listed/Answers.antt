use Rattle.std.proofs.Common.{rules}
use Rattle.std.proofs.lemmas.Result.{err_from_is_err_and}
use Rattle.ans_write.specs.Puts.{device_of}
use Rattle.ans_check.specs.FileRows.{TellsNamed}
use Rattle.ans_check.specs.Table.{TellsRow, header}
use Rattle.ans_check.proofs.ListingLemmas.{listed_behind, listed_cut_off}
use Rattle.ans_check.proofs.rows.table_listed.Goals as goal

pub returns-in_err-tell_header-clause-table : goal.returns-in_err-tell_header-clause-table
returns-in_err-tell_header-clause-table g c =
    let (e, at, same) = err_from_is_err_and c.from_residual.result c.from_residual.ensures.1 in
    let table =
    listed_cut_off g.W.Write.contents g.I.Reader.Read.remaining
    (TellsNamed g.I.Reader.Read.remaining (g.I.Inputs.is_file c.args.inputs) (g.I.Inputs.fails c.args.inputs)
    (TellsRow c.args.choice.now)) (header c.args.choice.now.form c.args.choice.now.pictures) c.args.reader.now
    c.args.output.now (device_of c.tell_header.new.out) c.in_err-tell_header.field-0.0
    (rw c.new-out.ensures.unchanged at c.in_err-tell_header.ensures.written) in
    rw (at, same) (search (rules, table))

pub returns-clause-table : goal.returns-clause-table
returns-clause-table g c =
    let table =
    listed_behind g.W.Write.contents g.I.Reader.Read.remaining
    (TellsNamed g.I.Reader.Read.remaining (g.I.Inputs.is_file c.args.inputs) (g.I.Inputs.fails c.args.inputs)
    (TellsRow c.args.choice.now)) (header c.args.choice.now.form c.args.choice.now.pictures) c.args.reader.now
    c.tell_listed.new.reader c.args.output.now (device_of c.tell_header.new.out) (device_of c.tell_listed.new.out)
    c.tell_listed.result (rw c.new-out.ensures.unchanged at c.in_ok-tell_header.ensures.written)
    c.tell_listed.ensures.listed in
    search (rules, table)
