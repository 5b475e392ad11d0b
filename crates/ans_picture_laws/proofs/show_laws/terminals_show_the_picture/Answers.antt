use Rattle.ans_picture_laws.proofs.TerminalReads.{terminal_text_read}
use Rattle.ans_picture_laws.proofs.show_laws.terminals_show_the_picture.Goals as goal

pub returns : goal.returns
returns c = terminal_text_read
