use Rattle.std.proofs.Common.{◌≡◌, ◌++◌, ℕ, List, append_assoc}
use Rattle.std.specs.Prelude.{codes}
use Rattle.ans_report.specs.Message.{message_line}
use Rattle.ans_write.proofs.PutsLemmas.{Puts-same, Puts-then}
use Rattle.ans_check.specs.Naming.{front_text}
use Rattle.ans_check.specs.Run.{run_error_text}
use Rattle.ans_check.specs.declared.errors.RunError.TheVariants.{Memory}
use Rattle.ans_check.proofs.filing.put_of_memory.Goals as goal

line_is : (text : List ℕ) → codes "anscheck: " ++ (text ++ codes "\n") ≡ message_line text
line_is text = simp append_assoc

pub returns : goal.returns
returns g c =
    Puts-same (line_is (front_text c.args.naming.now ++ run_error_text Memory))
    (Puts-then c.put.ensures (Puts-then (rw c.text.ensures at c.put_input_message.ensures) c.put-2.ensures))
