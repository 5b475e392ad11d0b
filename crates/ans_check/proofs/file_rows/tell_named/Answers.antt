use Rattle.std.proofs.Common.{Err, Ok, sym}
use Rattle.ans_table.specs.declared.finding.Unread.TheVariants as why
use Rattle.ans_check.proofs.RowsLemmas.{not_read, row_of_named, was_read}
use Rattle.ans_check.proofs.file_rows.tell_named.Goals as goal

pub returns-in_default : goal.returns-in_default
returns-in_default g c = row_of_named (Err why.NameNotText) c.in_default.ensures.cases.0 c.tell_given.ensures

pub returns-in-Ok-read_all : goal.returns-in-Ok-read_all
returns-in-Ok-read_all g c =
    row_of_named (Ok c.in-Ok-read_all.file.items)
    (was_read g.I.Reader.Read.remaining (g.I.Inputs.is_file c.args.inputs) (g.I.Inputs.fails c.args.inputs)
    c.args.name.now c.new-reader.result c.read_all.new.r c.in-Ok-read_all.file.items
    (rw (sym c.new-reader.ensures.inner, c.in-Ok.ensures.cases.0) at c.in-Ok-file.ensures.opened)
    c.new-reader.ensures.calls c.in-Ok-read_all.ensures.whole)
    (rw c.as_slice.ensures.value at c.tell_given-in-Ok-read_all.ensures)

pub returns : goal.returns
returns g c =
    row_of_named (Err c.in-Err-read_all.why)
    (not_read g.I.Reader.Read.remaining (g.I.Inputs.is_file c.args.inputs) (g.I.Inputs.fails c.args.inputs)
    c.args.name.now c.new-reader.result c.read_all.new.r c.in-Err-read_all.why
    (rw (sym c.new-reader.ensures.inner, c.in-Ok.ensures.cases.0) at c.in-Ok-file.ensures.opened)
    c.new-reader.ensures.calls c.in-Err-read_all.ensures.reading c.in-Err-read_all.ensures.device
    c.in-Err-read_all.ensures.too_long)
    c.tell_given-in-Err-read_all.ensures
