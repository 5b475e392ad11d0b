use Rattle.std.proofs.Common.{◌≡◌, length, take}
use Rattle.std.specs.List.{flat_map}
use Rattle.ans_model.specs.Text.ReportText.{rows_of}
use Rattle.ans_write.specs.Puts.{Puts}
use Rattle.ans_show.specs.Markups.{line_in}
use Rattle.ans_show.proofs.rows.put_rows.Given as goal

abbrev pub invariant-loop-row : goal.invariant-loop-row
invariant-loop-row g l = record {
  room : length l.text ≡ 57344;
  puts : Puts g.W.Write.contents l.fn.out l.out (flat_map (line_in l.tables.markup) (take l.row (rows_of l.picture)));
}
