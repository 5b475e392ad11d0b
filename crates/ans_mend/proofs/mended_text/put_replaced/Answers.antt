use Rattle.std.proofs.Common.{rules, ◌≡◌}
use Rattle.ans_write.proofs.PutsLemmas.{Puts-same, Puts-then}
use Rattle.ans_mend.proofs.MendedTexts.{replaced_some}
use Rattle.ans_mend.proofs.mended_text.put_replaced.Goals as goal

pub returns : goal.returns
returns g c =
    let some : c.args.count ≡ 0 → ⊥ = search rules in
    Puts-same (replaced_some c.args.count some) (Puts-then c.put.ensures c.put_counted.ensures)
