use Rattle.std.proofs.Common.{ap, codes, sym, [], ◌∷◌}
use Rattle.ans_table.specs.JsonRow.{Named, count, fault_values, found_values}
use Rattle.ans_table.proofs.JsonLemmas.{Adds-same, Adds-then}
use Rattle.ans_table.proofs.json_object.put_found.Goals as goal

pub returns-in_ok-put_number-in-Refused : goal.returns-in_ok-put_number-in-Refused
returns-in_ok-put_number-in-Refused c =
    let row : Named = (codes "row", count c.in-Refused.said.row) in
    let column : Named = (codes "column", count c.in-Refused.said.column) in
    let old = c.args.members.now.entries in
    let faulty = c.put_fault-in-Refused.new.members.entries in
    let placed = c.put_number.new.members.entries in
    let all = c.put_number-in-Refused.new.members.entries in
    let result = c.put_number-in-Refused.result in
    Adds-same old all result (sym (ap found_values c.in-Refused.is))
    (Adds-then old faulty all result (fault_values c.in-Refused.said.fault) (row ∷ column ∷ [])
    c.in_ok-put_fault-in-Refused.ensures
    (Adds-then faulty placed all result (row ∷ []) (column ∷ [])
    c.in_ok-put_number-in-Refused.ensures c.put_number-in-Refused.ensures))
