use Rattle.ans_why.proofs.why_text.put_found.Goals as goal

pub returns-in-Width : goal.returns-in-Width
returns-in-Width g c = rw (c.in-Width.is, ← c.from-in-Width.ensures) c.put_count-in-Width.ensures
