use Rattle.std.proofs.Common.{◌≡◌, arith}
use Rattle.ans_table.proofs.ShellLemmas.{other_hidden, wide_shown}
use Rattle.ans_table.proofs.shell_word.pass_first.Goals as goal

pub returns-then-size-gt0-clause-some : goal.returns-then-size-gt0-clause-some
returns-then-size-gt0-clause-some c =
    let none : c.args.passed ≡ 0 = omega (arith, c.if-passed-gt0.false) in
    rw (none, c.wide_size-size.ensures)
    (wide_shown c.args.rest.now c.requires (omega (arith, c.if-byte-lt128.false))
    (rw c.wide_size-size.ensures at c.if-size-gt0.true))

pub returns-else-size-gt0-clause-none : goal.returns-else-size-gt0-clause-none
returns-else-size-gt0-clause-none c =
    let none : c.args.passed ≡ 0 = omega (arith, c.if-passed-gt0.false) in
    rw none
    (other_hidden c.args.rest.now c.requires (omega (arith, c.if-byte-lt128.false))
    (rw c.wide_size-size.ensures at c.if-size-gt0.false))
