use Rattle.std.proofs.Common.{decimal}
use Rattle.ans_table.specs.Counting.{files_word}
use Rattle.ans_write.proofs.PutsLemmas.{Puts-same, Puts-then}
use Rattle.ans_table.proofs.CountLemmas.{counts_line}
use Rattle.ans_table.proofs.counts.put_counts.Goals as goal

pub returns : goal.returns
returns g c =
    let counts = c.args.counts.now in
    Puts-same
    (counts_line (decimal counts.files) (files_word counts.files) (decimal counts.pass) (decimal counts.cleared)
    (decimal counts.refused) (decimal counts.unread))
    (Puts-then c.put.ensures (Puts-then c.put_decimal.ensures (Puts-then (rw c.files_word.ensures at c.put-2.ensures)
    (Puts-then c.put_decimal-2.ensures (Puts-then c.put-3.ensures (Puts-then c.put_decimal-3.ensures
    (Puts-then c.put-4.ensures (Puts-then c.put_decimal-4.ensures (Puts-then c.put-5.ensures
    (Puts-then c.put_decimal-5.ensures c.put-6.ensures))))))))))
