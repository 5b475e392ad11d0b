use Rattle.std.proofs.Common.{rules, ◌≡◌, decimal}
use Rattle.ans_write.proofs.PutsLemmas.{Puts-same, Puts-then}
use Rattle.ans_why.proofs.WhyLines.{found_kind}
use Rattle.ans_why.proofs.why_text.put_kind_found.Goals as goal

pub returns : goal.returns
returns g c =
    let kind : c.from-data_type.result ≡ c.args.data_type = search rules in
    let subkind : c.from-file_type.result ≡ c.args.file_type = search rules in
    Puts-same (found_kind (decimal c.args.data_type) (decimal c.args.file_type))
    (Puts-then (rw (kind, subkind) at c.put_numbers.ensures) c.put.ensures)
