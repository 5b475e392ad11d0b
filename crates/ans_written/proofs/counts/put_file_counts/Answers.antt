use Rattle.std.proofs.Common.{decimal}
use Rattle.ans_written.specs.Outcomes.{files_word, unwritten_note}
use Rattle.ans_write.proofs.PutsLemmas.{Puts-same, Puts-then}
use Rattle.ans_written.proofs.CountLemmas.{counts_line}
use Rattle.ans_written.proofs.counts.put_file_counts.Goals as goal

pub returns : goal.returns
returns g c =
    let counts = c.args.counts.now in
    Puts-same
    (counts_line (decimal counts.files) (files_word counts.files) (decimal counts.changed) (decimal counts.unchanged)
    (decimal counts.not_done) (decimal counts.not_written) (decimal counts.not_read) (unwritten_note counts.to_write))
    (Puts-then c.put.ensures (Puts-then c.put_decimal.ensures (Puts-then (rw c.files_word.ensures at c.put-2.ensures)
    (Puts-then c.put_decimal-2.ensures (Puts-then c.put-3.ensures (Puts-then c.put_decimal-3.ensures
    (Puts-then c.put-4.ensures (Puts-then c.put_decimal-4.ensures (Puts-then c.put-5.ensures
    (Puts-then c.put_decimal-5.ensures (Puts-then c.put-6.ensures (Puts-then c.put_decimal-6.ensures
    (Puts-then c.put-7.ensures (Puts-then c.put_unwritten_note.ensures c.put-8.ensures))))))))))))))
