use Rattle.std.proofs.Common.{refl, sym, ◌∙◌}
use Rattle.ans_forms.proofs.HereLemmas.{end_goes, form_goes, no_keys_refused, none_at_fault}
use Rattle.ans_forms.proofs.next.going_fault.Goals as goal

pub returns-in-Some-clause-some : goal.returns-in-Some-clause-some
returns-in-Some-clause-some c =
    form_goes _ _ _ c.in-Some.going (no_keys_refused c.args.left.now c.args.fault.now.cause c.requires)
    c.in-Some.ensures.some

pub returns-then-not-ends_plainly-clause-none : goal.returns-then-not-ends_plainly-clause-none
returns-then-not-ends_plainly-clause-none c =
    none_at_fault c.args.left.now c.args.fault.now.cause c.requires c.args.before
    (sym c.ends_plainly.ensures ∙ c.if-not-ends_plainly.true) c.in_default.ensures.none

pub returns-clause-some : goal.returns-clause-some
returns-clause-some c =
    end_goes c.args.left.now c.args.fault.now.cause c.requires c.args.before c.args.fault.now.offset _
    (sym c.ends_plainly.ensures ∙ c.if-not-ends_plainly.false) c.in_default.ensures.none refl refl refl
