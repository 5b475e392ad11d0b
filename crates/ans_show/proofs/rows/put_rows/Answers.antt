use Rattle.std.proofs.Common.{rules, arith, ◌≡◌, ◌<◌, [], true, sym, ap, ◌∙◌}
use Rattle.ans_model.specs.Text.ReportText.{rows_of}
use Rattle.ans_write.specs.Puts.{device_failed}
use Rattle.ans_write.proofs.PutsLemmas.{Puts-nothing, Puts-same, Puts-next, Puts-all}
use Rattle.ans_show.specs.Markups.{line_in}
use Rattle.ans_play.proofs.PictureRows.{row_at, within_rows, all_rows}
use Rattle.ans_show.proofs.rows.put_rows.Goals as goal

pub loop-row-init : goal.loop-row-init
loop-row-init g c = record { room = search rules; puts = Puts-nothing c.args.out.now }

pub returns-then-has_failed : goal.returns-then-has_failed
returns-then-has_failed g c =
    let failed : device_failed c.loop-row.out ≡ true = search rules in
    Puts-all (line_in c.args.tables.now.markup) (rows_of c.args.picture.now) c.loop-row.row failed
    c.loop-row.invariant.puts

pub loop-row-preserved : goal.loop-row-preserved
loop-row-preserved g c =
    let p = c.args.picture.now in
    let i = c.loop-row.row in
    let line = line_in c.args.tables.now.markup in
    let lt : i < p.size.lines = omega arith in
    record {
      room = c.put_row.ensures.length ∙ c.loop-row.invariant.room;
      puts = Puts-next line (rows_of p) i [] (within_rows p i lt) c.loop-row.invariant.puts
          (Puts-same (ap line (sym (row_at p i lt))) c.put_row.ensures.puts);
    }

pub returns : goal.returns
returns g c = rw (all_rows c.args.picture.now c.loop-row.row (omega arith)) at c.loop-row.invariant.puts
