use Rattle.std.proofs.Common.{sym, ap}
use Rattle.ans_write.proofs.PutsLemmas.{Puts-same, Puts-then}
use Rattle.ans_why.specs.HintsText.{hints_text}
use Rattle.ans_why.specs.WhyText.{enough_lines}
use Rattle.ans_why.proofs.why_text.put_enough.Goals as goal

pub returns : goal.returns
returns g c =
    let told = ap (λ hints. hints_text hints c.in-Some.enough.font.now) c.hints_beside.ensures in
    Puts-same (sym (ap (enough_lines c.args.damage.now) c.in-Some.is))
    (Puts-then (Puts-same told c.put_hints.ensures) (rw c.are_torn.ensures at c.put_lines_line.ensures))
