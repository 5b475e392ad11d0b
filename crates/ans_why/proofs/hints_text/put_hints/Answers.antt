use Rattle.ans_why.proofs.hints_text.put_hints.Goals as goal

pub returns : goal.returns
returns g c = rw c.wider_rows.ensures at c.put_told_hints.ensures
