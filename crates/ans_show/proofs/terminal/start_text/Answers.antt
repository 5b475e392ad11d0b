use Rattle.std.proofs.Common.{refl}
use Rattle.std.specs.Fmt.{digits}
use Rattle.ans_show.proofs.terminal.start_text.Goals as goal

pub returns-then-blinks : goal.returns-then-blinks
unfolding digits
returns-then-blinks c = rw c.if-blinks.true refl
