use Rattle.std.proofs.Common.{◌≡◌, drop, map}
use Rattle.ans_forms.specs.Table.{entry_of}
use Rattle.ans_forms.specs.Unwanted.{first_form}
use Rattle.ans_forms.proofs.table.first_form.Given as goal

abbrev pub invariant-loop-form : goal.invariant-loop-form
invariant-loop-form l = first_form l.before l.bytes (map entry_of l.forms)
    ≡ first_form l.before l.bytes (map entry_of (drop l.form-index l.forms))
