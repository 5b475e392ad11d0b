use Rattle.std.proofs.Common.{◌≡◌, rules, refl, ap, sym, ◌∙◌, Some}
use Rattle.ans_model.specs.declared.fault.Fault.{Fault}
use Rattle.ans_model.specs.File.Layout.{file_parts}
use Rattle.ans_model.specs.File.Refusals.{record_fault}
use Rattle.ans_model.proofs.FirstRefusal.{refusal_within_file}
use Rattle.ans_sauce.proofs.Splitting.{refused_by_record, refused_at_end, accepts}
use Rattle.ans_sauce.proofs.layout.split.Goals as goal

pub returns-in_err-body : goal.returns-in_err-body
returns-in_err-body c =
    let refused : record_fault c.args.file.now ≡ Some c.in_err-body.field-0.0 =
    refused_by_record _ _ _ _ c.in-Some.ensures.cut c.in_err-body.ensures.err in
    let within = refusal_within_file c.args.file.now c.in_err-body.field-0.0 refused in
    search (rules, refused, within)

pub returns-in-Some-first_other_byte-clause-err : goal.returns-in-Some-first_other_byte-clause-err
returns-in-Some-first_other_byte-clause-err c =
    refused_at_end _ _ _ _ _ _ c.in-Some.ensures.cut c.in_ok-body.ensures.ok c.cut_content.ensures.rest _ _
    c.cut_content.ensures.content c.in-Some-first_other_byte.ensures
    ∙ ap (λ (v : Fault). Some v) (sym c.fault-in-Some-first_other_byte.ensures)

pub invariant_of-result : goal.invariant_of-result
invariant_of-result c =
    let a = accepts _ _ _ _ _ _ c.in-Some.ensures.cut c.in_ok-body.ensures.ok c.cut_content.ensures.rest
    c.in_default-first_other_byte.ensures in
    record {
      whole_lines = a.laid.comments;
      width_in_limit = a.width_in_limit;
      some_lines = a.lines_stated;
      lines_in_limit = a.lines_in_limit;
    }

pub returns-clause-ok : goal.returns-clause-ok
returns-clause-ok c = record {
  apart = file_parts c.in_ok-body.body.now c.in_ok-body.comments.now c.in-Some.sauce.bytes.now;
  accepts = accepts _ _ _ _ _ _ c.in-Some.ensures.cut c.in_ok-body.ensures.ok c.cut_content.ensures.rest
      c.in_default-first_other_byte.ensures;
  shows = record {
    content = c.cut_content.ensures.content;
    comments = refl;
    sauce = refl;
    notes = c.notes_on.ensures;
  };
}
