use Rattle.ans_write.proofs.PutsLemmas.{Puts-then}
use Rattle.ans_check.proofs.answering.put_meant.Goals as goal

pub returns-in-Command : goal.returns-in-Command
returns-in-Command g c =
    rw c.in-Command.is
    (Puts-then c.put.ensures
    (Puts-then (rw (c.as_bytes.ensures.value, c.name.ensures) at c.put-in-Command.ensures) c.put-in-Command-2.ensures))

pub returns-in-Topic : goal.returns-in-Topic
returns-in-Topic g c =
    rw c.in-Topic.is
    (Puts-then c.put-in-Topic.ensures (Puts-then c.put_word.ensures c.put-in-Topic-2.ensures))
