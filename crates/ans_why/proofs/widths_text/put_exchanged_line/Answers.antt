use Rattle.std.proofs.Common.{rules, ◌≡◌, true, decimal, sym, ap, ◌∙◌}
use Rattle.ans_write.proofs.PutsLemmas.{Puts-same, Puts-then}
use Rattle.ans_why.specs.WidthsText.{exchanged_line}
use Rattle.ans_why.proofs.HintLines.{exchanged_line_is}
use Rattle.ans_why.proofs.widths_text.put_exchanged_line.Goals as goal

pub returns : goal.returns
returns g c =
    let exchanged : c.args.exchanged ≡ true = search rules in
    Puts-same (exchanged_line_is (decimal c.args.size.lines) (decimal c.args.size.width)
    ∙ sym (ap (exchanged_line c.args.size) exchanged))
    (Puts-then c.put.ensures (Puts-then (rw c.lines.ensures.lines at c.put_decimal.ensures)
    (Puts-then c.put-2.ensures
    (Puts-then (rw c.width.ensures.width at c.put_decimal-2.ensures) c.put-3.ensures))))
