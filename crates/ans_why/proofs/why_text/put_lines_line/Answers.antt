use Rattle.std.proofs.Common.{decimal, sym, ap, ◌∙◌}
use Rattle.ans_write.proofs.PutsLemmas.{Puts-same, Puts-then}
use Rattle.ans_why.specs.WhyText.{lines_line, torn_text}
use Rattle.ans_why.proofs.WhyLines.{lines_line_is}
use Rattle.ans_why.proofs.why_text.put_lines_line.Goals as goal

pub returns : goal.returns
returns g c =
    Puts-same (lines_line_is (decimal c.in-Some.lines) (torn_text c.args.torn)
    ∙ sym (ap (λ o. lines_line o c.args.torn) c.in-Some.is))
    (Puts-then c.put.ensures (Puts-then c.put_decimal.ensures
    (Puts-then (Puts-same c.torn_text.ensures c.put-2.ensures) c.put-3.ensures)))
