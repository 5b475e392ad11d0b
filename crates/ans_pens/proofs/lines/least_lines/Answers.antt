use Rattle.std.proofs.Common.{◌≡◌, ◌+◌, ◌-◌, ◌/◌, ℕ, arith}
use Rattle.ans_pens.proofs.MoreLines.{good_from_on}
use Rattle.ans_pens.proofs.lines.least_lines.Goals as goal

pub returns-then-not-is_good-clause-none : goal.returns-then-not-is_good-clause-none
returns-then-not-is_good-clause-none c n le good =
    let no = rw c.new.ensures at c.is_good.ensures in
    absurd (cc (no.1 (good_from_on c.args.width n 8192 c.args.content.now le good), c.if-not-is_good.true))

pub halves-preserved : goal.halves-preserved
halves-preserved c =
    let h = c.halves.invariant in
    let middle : ℕ = c.halves.refused + (c.halves.enough - c.halves.refused) / 2 in
    record {
      enough = h.enough;
      fewer = λ n lt good.
          let no = rw c.new-in-halves.ensures at c.is_good-in-halves.ensures in
          absurd (cc (
            no.1 (good_from_on c.args.width n middle c.args.content.now (omega (arith, lt)) good),
            c.if-is_good.false,
          ));
      some = omega arith;
      order = omega (arith, c.halves-test.true);
      most = h.most;
    }

pub returns-clause-least : goal.returns-clause-least
returns-clause-least c =
    let h = c.halves.invariant in
    let there : c.halves.refused ≡ c.halves.enough = omega (arith, c.halves-test.false, h.order) in
    record { enough = h.enough; fewer = λ n lt good. h.fewer n (omega (arith, lt, there)) good }
