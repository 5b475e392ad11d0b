use Rattle.std.proofs.Common.{rules, ◌≡◌}
use Rattle.ans_write.proofs.PutsLemmas.{Puts-same, Puts-then}
use Rattle.ans_report.proofs.QuotedTexts.{once, often}
use Rattle.ans_report.proofs.counted.put_times.Goals as goal

pub returns-then-count-eq1 : goal.returns-then-count-eq1
returns-then-count-eq1 g c =
    let one : c.args.count ≡ 1 = search rules in
    Puts-same (once c.args.count c.args.first one) (Puts-then c.put.ensures c.put_decimal.ensures)

pub returns : goal.returns
returns g c =
    let more : c.args.count ≡ 1 → ⊥ = search rules in
    Puts-same (often c.args.count c.args.first more)
    (Puts-then c.put_decimal-2.ensures (Puts-then c.put-2.ensures c.put_decimal-3.ensures))
