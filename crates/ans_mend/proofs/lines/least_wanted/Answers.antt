use Rattle.ans_mend.proofs.lines.least_wanted.Goals as goal

pub returns-then-lacks-clause-reason : goal.returns-then-lacks-clause-reason
returns-then-lacks-clause-reason c =
    (c.if-lacks.true, rw (c.width.ensures.width, c.content-content.ensures) at c.in_default.ensures.none)

pub returns-else-lacks-clause-none : goal.returns-else-lacks-clause-none
returns-else-lacks-clause-none c =
    (c.if-lacks.false, rw (c.width.ensures.width, c.content-content.ensures) at c.in_default.ensures.none)

pub returns-then-looks_torn-clause-reason : goal.returns-then-looks_torn-clause-reason
returns-then-looks_torn-clause-reason c = (
  c.in-Some.lines,
  (
    c.in-Some.ensures.within,
    rw (c.width.ensures.width, c.content-content.ensures) at c.in-Some.ensures.least,
    rw c.if-looks_torn.true at c.looks_torn.ensures,
  ),
)

pub returns-clause-least : goal.returns-clause-least
returns-clause-least c = (
  c.in-Some.ensures.within,
  rw (c.width.ensures.width, c.content-content.ensures) at c.in-Some.ensures.least,
  rw c.if-looks_torn.false at c.looks_torn.ensures,
)
