use Rattle.std.proofs.Common.{ap, inl, inr, length, subst, sym}
use Rattle.std.specs.Prelude.{is_err}
use Rattle.ans_c.proofs.Verdicts.{lent_lacking, record_told, refusal_told}
use Rattle.ans_model.specs.Screen.StartClass.{all_known}
use Rattle.ans_verdict.specs.FileNeeds.{NeedsClass}
use Rattle.ans_verdict.proofs.VerdictLemmas.{needs_class}
use Rattle.ans_c.proofs.files.ans_needs_on.Goals as goal

pub returns-in-Passes-clause-pass : goal.returns-in-Passes-clause-pass
returns-in-Passes-clause-pass c = λ _.
    let parts = c.in-Passes.field-0 in
    let judged = rw c.in-Passes.is at c.in-Ok.ensures.needs in
    let (apart, shows, needs) = needs_class c.args.file.now c.in-Passes.class parts judged.0 judged.1 in
    record {
      apart = apart;
      needs = subst (NeedsClass c.args.file.now apart) (sym c.bits_of.ensures.class_is) needs;
      bits_of_parts = c.bits_of.ensures.no_other;
    }

pub returns-in-NoContent-clause-refused : goal.returns-in-NoContent-clause-refused
returns-in-NoContent-clause-refused c = elim c.in-NoContent.is [
  | inl e ↦ λ _.
      record_told c.args.file.now all_known c.in-NoContent.found c.told.result (rw e at c.in-Ok.ensures.needs)
      c.told.ensures
  | inr (parts, e) ↦ λ _.
      let needs = rw e at c.in-Ok.ensures.needs in
      refusal_told c.args.file.now all_known parts c.in-NoContent.found c.told.result needs.0 needs.1 c.told.ensures
]

pub returns-in_default-clause-no_room : goal.returns-in_default-clause-no_room
returns-in_default-clause-no_room c = λ _.
    lent_lacking c.args.file.now c.new.result (length c.args.rows.now) (length c.args.bytes.now) c.new.ensures.rows
    c.new.ensures.bytes (c.needs_on.ensures.room.want (ap is_err c.in_default.is))
