use Rattle.std.proofs.Common.{sym, ap, ◌∙◌}
use Rattle.ans_why.specs.HintRows.{hint_of, words_for}
use Rattle.ans_why.specs.HintsText.{counted_line, counted_words}
use Rattle.ans_write.proofs.PutsLemmas.{Puts-same, Puts-then}
use Rattle.ans_why.proofs.HintLines.{counted_line_is}
use Rattle.ans_why.proofs.hints_text.put_counted_line.Goals as goal

pub returns : goal.returns
returns g c =
    let hint = hint_of c.args.row.now in
    let times = c.in-Some.times in
    Puts-same (counted_line_is hint.before (counted_words hint.what times) (words_for hint.advice times.count)
    ∙ sym (ap (λ o. counted_line hint o) c.in-Some.is))
    (Puts-then c.put.ensures (Puts-then c.put-2.ensures (Puts-then c.put_counted_words.ensures
    (Puts-then (rw c.of.ensures at c.put-3.ensures) c.put-4.ensures))))
