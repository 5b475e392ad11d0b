use Rattle.std.proofs.Common.{rules, ◌≡◌, ◌+◌, ◌-◌, ℕ, true, arith, ap, sym, ◌∙◌, drop}
use Rattle.std.specs.List.{list_all}
use Rattle.ans_model.specs.Text.ReportText.{rows_of}
use Rattle.ans_play.specs.Shown.{cells_of_row}
use Rattle.ans_redraw.specs.Form.{are_blank, is_blank}
use Rattle.ans_redraw.proofs.RowsGiven.{no_rows_below, row_zipped, blank_from}
use Rattle.ans_redraw.proofs.form.end_of_rows.Goals as goal

pub loop-end-init : goal.loop-end-init
loop-end-init g c = record {
  within = omega (arith, c.lines-end.ensures.lines);
  bytes = search rules;
  attributes = search rules;
  behind = ap (λ (n : ℕ). are_blank (drop n (rows_of c.args.picture.now))) c.lines-end.ensures.lines
      ∙ no_rows_below c.args.picture.now;
}

pub returns-then-not-are_blank-clause-before : goal.returns-then-not-are_blank-clause-before
returns-then-not-are_blank-clause-before g c = λ more.
    ap (list_all is_blank)
    (sym (row_zipped c.args.picture.now (c.loop-end.end - 1) c.copy_glyphs.new.bytes
    c.copy_attributes.new.attributes c.copy_glyphs.ensures c.copy_attributes.ensures))
    ∙ sym c.are_blank.ensures ∙ c.if-not-are_blank.true

pub loop-end-preserved : goal.loop-end-preserved
loop-end-preserved g c =
    let p = c.args.picture.now in
    let end = c.loop-end.end in
    let blank : list_all is_blank (cells_of_row p (end - 1)) ≡ true =
    ap (list_all is_blank)
    (sym (row_zipped p (end - 1) c.copy_glyphs.new.bytes
    c.copy_attributes.new.attributes c.copy_glyphs.ensures c.copy_attributes.ensures))
    ∙ sym c.are_blank.ensures ∙ c.if-not-are_blank.false in
    let same : (end - 1) + 1 ≡ end = omega arith in
    record {
      within = omega arith;
      bytes = search rules;
      attributes = search rules;
      behind = blank_from p (end - 1) (omega arith) blank
          (ap (λ (n : ℕ). are_blank (drop n (rows_of p))) same ∙ c.loop-end.invariant.behind);
    }
