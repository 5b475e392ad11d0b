use Rattle.std.proofs.Common.{◌≡◌, ◌<◌, ◌+◌, ◌-◌, ◌∷◌, ◌++◌, ℕ, true, drop, arith, codes}
use Rattle.std.proofs.Common.{ap, ◌∙◌, refl, sym}
use Rattle.std.specs.Prelude.{nat_lt}
use Rattle.std.proofs.lemmas.List.{length-replicate}
use Rattle.ans_model.specs.Bytes.{escape}
use Rattle.ans_model.specs.Text.ReportText.{rows_of}
use Rattle.ans_play.specs.Shown.{cells_of_row}
use Rattle.ans_players.specs.Mends.{mending_spelled}
use Rattle.ans_redraw.specs.Form.{are_blank, opens_below, row_drawn, texts}
use Rattle.ans_redraw.proofs.RowsGiven.{begins, ends, follows_is, goes_on, not_blank_from, takes_same, there_is}
use Rattle.ans_redraw.proofs.form.give_form.Goals as goal

pub loop-row-init : goal.loop-row-init
loop-row-init g c = record {
  room = simp length-replicate refl;
  sent = (texts mending_spelled, c.take.ensures, begins c.args.picture.now);
}

pub loop-row-preserved : goal.loop-row-preserved
loop-row-preserved g c =
    let p = c.args.picture.now in
    let i = c.loop-row.row in
    let end = c.end_of_rows-end in
    let so_far = c.loop-row.invariant.sent in
    let row = cells_of_row p i in
    let lt : i < p.size.lines = omega arith in
    let some : 0 < end.result = omega arith in
    let last = end.ensures.before some in
    let follows = nat_lt (i + 1) end.result in
    let is_there = nat_lt (i + 1) p.size.lines in
    let here = texts (row_drawn (opens_below follows is_there row) follows i c.loop-row.attribute row) in
    record {
      room = c.give_row-attribute.ensures.length ∙ c.loop-row.invariant.room;
      sent = (
        so_far.0 ++ here,
        g.met.S.Sink.both _ _ _ so_far.0 here so_far.1 c.give_row-attribute.ensures.takes,
        goes_on p i c.loop-row.attribute c.give_row-attribute.result follows is_there so_far.0 lt
            (not_blank_from p i (end.result - 1) (omega arith) (omega arith) last)
            (follows_is p i end.result (omega arith) (omega arith) end.ensures.behind last) (there_is p i)
            c.give_row-attribute.ensures.attribute so_far.2,
      );
    }

pub returns : goal.returns
returns g c =
    let p = c.args.picture.now in
    let so_far = c.loop-row.invariant.sent in
    let end : c.loop-row.row ≡ c.end_of_rows-end.result = omega arith in
    let blank : are_blank (drop c.loop-row.row (rows_of p)) ≡ true =
    ap (λ (n : ℕ). are_blank (drop n (rows_of p))) end ∙ c.end_of_rows-end.ensures.behind in
    takes_same g.S.Sink.takes
    (ap (λ v. so_far.0 ++ v)
    (sym (ends c.loop-row.row c.loop-row.attribute (drop c.loop-row.row (rows_of p)) blank)) ∙ so_far.2)
    (g.met.S.Sink.both _ _ _ so_far.0 (escape ∷ codes "[0m") so_far.1 c.take-2.ensures)
