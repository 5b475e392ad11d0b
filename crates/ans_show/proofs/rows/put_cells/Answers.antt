use Rattle.std.proofs.Common.{ℕ, length, drop, ap, ◌∙◌}
use Rattle.std.proofs.lemmas.List.{take_rest}
use Rattle.ans_write.proofs.PutsLemmas.{Puts-same, Puts-then}
use Rattle.ans_show.proofs.rows.put_cells.Goals as goal

pub returns : goal.returns
returns g c =
    let cells = c.args.cells.now in
    Puts-then
    (Puts-same (take_rest cells (length c.run_end.result.now) ∙ ap (λ (k : ℕ). drop k cells)
    (ap length c.run_end.ensures))
    c.put.ensures)
    (Puts-same c.line_end.ensures c.put-2.ensures)
