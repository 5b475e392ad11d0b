use Rattle.ans_write.proofs.PutsLemmas.{Puts-then}
use Rattle.ans_check.proofs.last_words.put_names.Goals as goal

pub returns : goal.returns
returns g c =
    Puts-then c.put.ensures
    (Puts-then (rw c.as_bytes.ensures.value at c.put_shell_word.ensures)
    (Puts-then c.put-2.ensures (rw c.as_bytes-2.ensures.value at c.put_shell_word-2.ensures)))
