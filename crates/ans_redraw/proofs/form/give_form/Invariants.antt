use Rattle.std.proofs.Common.{◌≡◌, ◌++◌, ℕ, List, length, drop}
use Rattle.ans_model.specs.Text.ReportText.{rows_of}
use Rattle.ans_redraw.specs.Form.{form_bytes, rows_drawn, texts}
use Rattle.ans_redraw.proofs.form.give_form.Given as goal

abbrev pub invariant-loop-row : goal.invariant-loop-row
invariant-loop-row g l = record {
  room : length l.text ≡ 13336;
  sent : (sent : List ℕ)
      × g.S.Sink.takes l.fn.sink l.sink sent
      × (sent ++ texts (rows_drawn l.row l.attribute (drop l.row (rows_of l.picture))) ≡ form_bytes l.picture);
}
