use Rattle.std.proofs.Common.{sym, ◌∙◌}
use Rattle.ans_sauce.proofs.Lacking.{lacks_by_place}
use Rattle.ans_sauce.proofs.no_lines.without_lines.Goals as goal

pub returns-then-is_some-clause-none : goal.returns-then-is_some-clause-none
returns-then-is_some-clause-none c =
    lacks_by_place _ _ _ _ _ _ _ c.in_ok-front.ensures.cut (sym c.is_too_wide.ensures ∙ c.if-is_too_wide.false)
    c.body_before.ensures c.cut_content.ensures.rest c.first_other_byte.ensures
    (sym c.is_some.ensures ∙ c.if-is_some.true)

pub returns-clause-lacks : goal.returns-clause-lacks
returns-clause-lacks c =
    lacks_by_place _ _ _ _ _ _ _ c.in_ok-front.ensures.cut (sym c.is_too_wide.ensures ∙ c.if-is_too_wide.false)
    c.body_before.ensures c.cut_content.ensures.rest c.first_other_byte.ensures
    (sym c.is_some.ensures ∙ c.if-is_some.false)
