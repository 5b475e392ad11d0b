use Rattle.std.proofs.Common.{rules, ◌≡◌}
use Rattle.ans_write.proofs.PutsLemmas.{Puts-same, Puts-then}
use Rattle.ans_why.proofs.HintLines.{empty_rows_line_is}
use Rattle.ans_why.proofs.hints_text.put_empty_rows_line.Goals as goal

pub returns : goal.returns
returns g c =
    let some : c.args.rows ≡ 0 → ⊥ = search rules in
    let more : c.args.rows ≡ 1 → ⊥ = search rules in
    Puts-same (empty_rows_line_is c.args.rows some more)
    (Puts-then c.put-2.ensures (Puts-then c.put_decimal.ensures c.put-3.ensures))
