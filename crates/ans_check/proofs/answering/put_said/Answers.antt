use Rattle.ans_check.proofs.AnswerLemmas.{said_as_message}
use Rattle.ans_check.proofs.answering.put_said.Goals as goal

pub returns-in_default : goal.returns-in_default
returns-in_default g c =
    rw (said_as_message c.args.naming.now c.args.ending.now c.in_default.not-Table c.in_default.not-Explained
    c.in_default.not-Filed c.in_default.not-Mended c.in_default.not-NotMended c.in_default.not-Redrawn
    c.in_default.not-NotRedrawn)
    c.put_ending_message.ensures
