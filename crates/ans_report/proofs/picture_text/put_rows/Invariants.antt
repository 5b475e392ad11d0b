use Rattle.std.proofs.Common.{◌≡◌, length, take}
use Rattle.std.specs.List.{flat_map}
use Rattle.ans_model.specs.Text.ReportText.{rows_of}
use Rattle.ans_write.specs.Puts.{Puts}
use Rattle.ans_report.specs.Rows.{line_text}
use Rattle.ans_report.proofs.picture_text.put_rows.Given as goal

abbrev pub invariant-loop-row : goal.invariant-loop-row
invariant-loop-row g l = record {
  room : length l.text ≡ 4096;
  puts : Puts g.W.Write.contents l.fn.out l.out (flat_map (line_text l.shown) (take l.row (rows_of l.picture)));
}
