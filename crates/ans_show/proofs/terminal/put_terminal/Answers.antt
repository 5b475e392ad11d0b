use Rattle.ans_show.proofs.terminal.put_terminal.Goals as goal

pub returns : goal.returns
returns g c = rw c.new-tables.ensures at c.put_rows.ensures
