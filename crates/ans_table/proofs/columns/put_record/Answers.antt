use Rattle.std.proofs.Common.{ap, sym, option_map}
use Rattle.ans_write.proofs.PutsLemmas.{Puts-same, Puts-then}
use Rattle.ans_sauce.specs.RecordBytes.{sauce_bytes}
use Rattle.ans_table.specs.Columns.{record_columns}
use Rattle.ans_table.proofs.columns.put_record.Goals as goal

pub returns-in-Some : goal.returns-in-Some
returns-in-Some g c =
    Puts-same (sym (ap (λ o. record_columns (option_map sauce_bytes o)) c.in-Some.is))
    (Puts-then c.put_flags.ensures c.put_fields.ensures)

pub returns-in-None : goal.returns-in-None
returns-in-None g c = Puts-same (sym (ap (λ o. record_columns (option_map sauce_bytes o)) c.in-None.is)) c.put.ensures
