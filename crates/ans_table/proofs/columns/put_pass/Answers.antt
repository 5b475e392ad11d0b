use Rattle.std.proofs.Common.{rules, ◌≡◌}
use Rattle.ans_table.specs.Findings.{pass_outcome}
use Rattle.ans_table.specs.Labels.{taller_word, verdict_word}
use Rattle.ans_write.proofs.PutsLemmas.{Puts-then}
use Rattle.ans_table.proofs.columns.put_pass.Goals as goal

pub returns : goal.returns
returns g c =
    let said = c.args.said.now in
    let verdict : c.as_bytes.result.now ≡ verdict_word (pass_outcome said.needs) = search rules in
    let taller : c.as_bytes-2.result.now ≡ taller_word said.taller = search rules in
    Puts-then (rw verdict at c.put_column.ensures)
    (Puts-then (Puts-then c.put_needed_parts.ensures c.put.ensures)
    (Puts-then c.put_players.ensures
    (Puts-then (rw taller at c.put_column-2.ensures) c.put-2.ensures)))
