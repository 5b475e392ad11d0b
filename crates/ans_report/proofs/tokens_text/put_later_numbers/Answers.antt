use Rattle.std.proofs.Common.{rules, ◌≡◌, get_or}
use Rattle.ans_report.specs.TokenLines.{later_number}
use Rattle.ans_write.proofs.PutsLemmas.{Puts-then, Puts-next}
use Rattle.ans_report.proofs.tokens_text.put_later_numbers.Goals as goal

pub loop-number-preserved : goal.loop-number-preserved
loop-number-preserved g c =
    let numbers = c.args.numbers.now in
    let i = c.loop-number.number-index in
    let number : c.from.result ≡ get_or numbers i 0 = search rules in
    Puts-next later_number numbers i 0 c.loop-number-test.true c.loop-number.invariant
    (Puts-then c.put.ensures (rw number at c.put_decimal.ensures))
