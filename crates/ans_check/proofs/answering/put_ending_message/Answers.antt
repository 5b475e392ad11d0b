use Rattle.std.proofs.Common.{◌≡◌, ◌++◌, ℕ, List, append_assoc, sym}
use Rattle.std.specs.Prelude.{codes}
use Rattle.ans_report.specs.Message.{message_line}
use Rattle.ans_write.proofs.PutsLemmas.{Puts-same, Puts-then}
use Rattle.ans_check.specs.Said.{named_message}
use Rattle.ans_check.proofs.answering.put_ending_message.Goals as goal

line_is : (text : List ℕ) → codes "anscheck: " ++ (text ++ codes "\n") ≡ message_line text
line_is text = simp append_assoc

pub returns-in-Some : goal.returns-in-Some
returns-in-Some g c =
    let message = rw c.in-Some.is at c.message.ensures in
    rw (sym message)
    (Puts-same (line_is (named_message c.args.naming.now c.args.ending.now c.in-Some.text.now))
    (Puts-then c.put.ensures (Puts-then c.put_named_message.ensures c.put-in-Some.ensures)))
