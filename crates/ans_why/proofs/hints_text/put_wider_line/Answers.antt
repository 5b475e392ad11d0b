use Rattle.std.proofs.Common.{decimal, sym, ap, ◌∙◌}
use Rattle.ans_write.proofs.PutsLemmas.{Puts-same, Puts-then}
use Rattle.ans_why.specs.HintRows.{rows_over}
use Rattle.ans_why.specs.HintsText.{counted_words, wider_line}
use Rattle.ans_why.proofs.HintLines.{wider_line_is}
use Rattle.ans_why.proofs.hints_text.put_wider_line.Goals as goal

pub returns : goal.returns
returns g c =
    Puts-same (wider_line_is (counted_words rows_over c.in-Some.rows.times) (decimal c.in-Some.rows.columns)
    ∙ sym (ap wider_line c.in-Some.is))
    (Puts-then c.put.ensures (Puts-then c.put_counted_words.ensures (Puts-then c.put-2.ensures
    (Puts-then c.put_decimal.ensures (Puts-then c.put-3.ensures
    (Puts-then c.put_decimal-2.ensures c.put-4.ensures))))))
