use Rattle.std.proofs.Common.{◌≡◌, arith}
use Rattle.std.proofs.lemmas.Bool.Decides.{nat_tests}
use Rattle.ans_redraw.proofs.RunTexts.{blanks_passed}
use Rattle.ans_redraw.proofs.run.begins_with_blanks.Goals as goal

pub returns-then-count_same-eq16 : goal.returns-then-count_same-eq16
returns-then-count_same-eq16 c = λ all.
    let spaces = c.count_same.ensures.same in
    let greys = c.count_same-then-count_same-eq16.ensures.same in
    let sixteen : c.count_same-then-count_same-eq16.result ≡ 16 = grind (arith, nat_tests, all) in
    blanks_passed 16 c.args.bytes.now c.args.attributes.now c.requires.bytes c.requires.attributes
    (λ k lt. spaces k (omega (arith, c.if-count_same-eq16.true))) (λ k lt. greys k (omega arith))
