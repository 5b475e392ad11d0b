use Rattle.ans_forms.proofs.HereLemmas.{form_is}
use Rattle.ans_forms.proofs.next.going_form.Goals as goal

pub overflow_sub-result : goal.overflow_sub-result
overflow_sub-result c = (form_is c.args.before c.args.left.now c.args.place _ _ c.in_ok-kind.ensures).0

pub returns-clause-some : goal.returns-clause-some
returns-clause-some c = (form_is c.args.before c.args.left.now c.args.place _ _ c.in_ok-kind.ensures).1
