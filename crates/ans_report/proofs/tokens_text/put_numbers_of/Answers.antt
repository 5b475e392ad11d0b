use Rattle.std.proofs.Common.{rules, ◌≡◌, sym, ap}
use Rattle.ans_model.specs.Inside.ShownKind.{shown_kind}
use Rattle.ans_report.specs.TokenLines.{numbers_of}
use Rattle.ans_write.proofs.PutsLemmas.{Puts-same, Puts-then}
use Rattle.ans_report.proofs.tokens_text.put_numbers_of.Goals as goal

pub returns-in-Place : goal.returns-in-Place
returns-in-Place g c =
    let row : c.from.result ≡ c.in-Place.row = search rules in
    let column : c.from-in-Place.result ≡ c.in-Place.column = search rules in
    Puts-same (sym (ap (λ k. numbers_of (shown_kind k)) c.in-Place.is))
    (Puts-then (rw row at c.put_decimal.ensures)
    (Puts-then c.put-in-Place.ensures (rw column at c.put_decimal-in-Place.ensures)))
