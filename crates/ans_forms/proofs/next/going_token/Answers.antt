use Rattle.std.proofs.Common.{refl}
use Rattle.ans_forms.proofs.HereLemmas.{form_goes_if, if_none, keys_go, no_keys_there, none_at_token}
use Rattle.ans_forms.proofs.next.going_token.Goals as goal

pub returns-then-stopped-clause-some : goal.returns-then-stopped-clause-some
returns-then-stopped-clause-some c =
    keys_go c.args.left.now _ _ c.requires c.args.stopped.now.before c.args.stopped.now.place c.if-stopped.true _ refl
    refl refl

pub returns-clause-some : goal.returns-clause-some
returns-clause-some c =
    form_goes_if _ _ _ c.going_form.result (no_keys_there c.args.left.now _ _ c.requires c.if-stopped.false)
    c.going_form.ensures.some

pub returns-clause-none : goal.returns-clause-none
returns-clause-none c =
    if_none c.going_form.result _ _ c.going_form.ensures.none
    (none_at_token c.args.left.now _ _ c.requires c.args.stopped.now.before c.if-stopped.false)
