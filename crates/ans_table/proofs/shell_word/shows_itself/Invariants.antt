use Rattle.std.proofs.Common.{◌≡◌, drop}
use Rattle.ans_table.specs.ShellWord.{shows_itself}
use Rattle.ans_table.proofs.shell_word.shows_itself.Given as goal

abbrev pub invariant-loop-i : goal.invariant-loop-i
invariant-loop-i l = shows_itself 0 l.name ≡ shows_itself l.passed (drop l.i l.name)
