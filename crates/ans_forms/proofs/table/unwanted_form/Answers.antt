use Rattle.ans_forms.specs.Unwanted.{unwanted_form}
use Rattle.ans_forms.proofs.table.unwanted_form.Goals as goal

pub returns : goal.returns
unfolding unwanted_form
returns c = c.first_form.ensures
