use Rattle.ans_why.proofs.hints_text.put_pass_hints.Goals as goal

pub returns : goal.returns
returns g c = rw c.wider_told.ensures at c.put_told_hints.ensures
