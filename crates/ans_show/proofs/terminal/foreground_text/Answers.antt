use Rattle.std.proofs.Common.{rules, true, false}
use Rattle.std.specs.Fmt.{digits}
use Rattle.ans_show.specs.TerminalText.{foreground_text}
use Rattle.ans_show.proofs.Tables.{text_at}
use Rattle.ans_show.proofs.terminal.foreground_text.Goals as goal
use Rattle.ans_show.proofs.terminal.foreground_text.Goals.{then-vga, else-vga}

pub returns : goal.returns
unfolding digits
returns c = elim c.if-vga.branch [
  | then-vga w ↦ rw (w.texts-is, w.if-vga.true) (search (rules, text_at (foreground_text true)))
  | else-vga w ↦ rw (w.texts-is, w.if-vga.false) (search (rules, text_at (foreground_text false)))
]
