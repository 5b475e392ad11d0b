use Rattle.std.proofs.Common.{arith, length-append}
use Rattle.ans_show.proofs.short_text.ShortText.joined.Goals as goal

pub then-requires : goal.then-requires
then-requires g c = rw c.empty.ensures (omega (arith, c.requires))

pub then-requires-2 : goal.then-requires-2
then-requires-2 g c =
    rw (c.then.ensures, c.empty.ensures) (simp length-append (omega (arith, c.requires)))

pub then-requires-3 : goal.then-requires-3
then-requires-3 g c =
    rw (c.then-2.ensures, c.then.ensures, c.empty.ensures) (simp length-append (omega (arith, c.requires)))

pub then-requires-4 : goal.then-requires-4
then-requires-4 g c =
    rw (c.then-3.ensures, c.then-2.ensures, c.then.ensures, c.empty.ensures)
    (simp length-append (omega (arith, c.requires)))
