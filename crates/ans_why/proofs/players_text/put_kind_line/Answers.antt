use Rattle.std.proofs.Common.{rules, ◌≡◌, sym, ap, ◌∙◌}
use Rattle.ans_players.specs.Kinds.{kind_word}
use Rattle.ans_report.specs.Counted.{times_text}
use Rattle.ans_write.proofs.PutsLemmas.{Puts-same, Puts-then}
use Rattle.ans_why.specs.PlayersText.{kind_line}
use Rattle.ans_why.proofs.PlayerLines.{kind_line_is}
use Rattle.ans_why.proofs.players_text.put_kind_line.Goals as goal

pub returns : goal.returns
returns g c =
    let times = c.in-Some.times in
    let word : c.as_bytes.result.now ≡ kind_word c.args.kind = search rules in
    Puts-same (kind_line_is (kind_word c.args.kind) (times_text times.count times.first)
    ∙ sym (ap (kind_line c.args.kind) c.in-Some.is))
    (Puts-then c.put.ensures (Puts-then (rw word at c.put-2.ensures) (Puts-then c.put-3.ensures
    (Puts-then c.put_times.ensures c.put-4.ensures))))
