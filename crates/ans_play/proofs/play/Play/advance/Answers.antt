use Rattle.ans_play.proofs.play.Play.advance.Goals as goal

-- src/play.rt:118:5
pub returns-in-0-clause-stopped : goal.returns-in-0-clause-stopped
returns-in-0-clause-stopped g c = rw (c.advance_fast.ensures.none c.in-0.is) at c.advance_slow-in-0.ensures.stopped
