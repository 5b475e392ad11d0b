use Rattle.std.proofs.Common.{rules, ◌≡◌, ℕ, List, ◌++◌, codes, decimal, refl}
use Rattle.ans_write.proofs.PutsLemmas.{Puts-same, Puts-then}
use Rattle.std.proofs.lemmas.Bool.{ne_eqb}
use Rattle.ans_report.specs.Changes.{reset_line}
use Rattle.ans_sauce.specs.declared.writing.Reset.{Reset}
use Rattle.ans_report.proofs.changes.put_reset_line.Goals as goal

reset_other : (what : List ℕ) (number : Reset) → (number.was ≡ number.is → ⊥)
    → what ++ (decimal number.is ++ (codes ", was " ++ (decimal number.was ++ codes "\n"))) ≡ reset_line what number
reset_other what number e = rw (ne_eqb number.was number.is e) refl

pub returns : goal.returns
returns g c =
    let other : c.args.number.now.was ≡ c.args.number.now.is → ⊥ = search rules in
    Puts-same (reset_other c.args.what.now c.args.number.now other)
    (Puts-then c.put.ensures
    (Puts-then (rw c.from.ensures at c.put_decimal.ensures)
    (Puts-then c.put-2.ensures (Puts-then (rw c.from-2.ensures at c.put_decimal-2.ensures) c.put-3.ensures))))
