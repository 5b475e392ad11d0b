use Rattle.std.proofs.Common.{◌≡◌, ◌++◌, append_assoc, arith, false}
use Rattle.std.specs.Prelude.{◌==◌, codes, decimal}
use Rattle.ans_table.specs.declared.counts.Counts.{Counts}
use Rattle.std.proofs.lemmas.Bool.Decides.{nat_tests}
use Rattle.ans_write.proofs.PutsLemmas.{Puts-same, Puts-then}
use Rattle.ans_check.specs.WhyRows.{unread_counts_line}
use Rattle.ans_check.proofs.why_rows.put_unread_counts.Goals as goal

line_is : (c : Counts)
    → codes "anscheck: " ++ (decimal c.unread ++ (codes " of " ++ (decimal c.files ++ codes " files not read\n")))
    ≡ unread_counts_line c
line_is c = simp append_assoc

pub returns : goal.returns
returns g c =
    let some : (c.args.counts.now.unread == 0) ≡ false = grind (arith, nat_tests, c.if-counts-eq0.false) in
    rw some
    (Puts-same (line_is c.args.counts.now)
    (Puts-then c.put.ensures (Puts-then c.put_decimal.ensures
    (Puts-then c.put-2.ensures (Puts-then c.put_decimal-2.ensures c.put-3.ensures)))))
