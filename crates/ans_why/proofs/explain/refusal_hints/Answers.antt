use Rattle.ans_why.proofs.explain.refusal_hints.Goals as goal

pub returns-in-None : goal.returns-in-None
returns-in-None c =
    rw c.in-None.is (record {
      end = c.end_of_hints.result;
      ends = c.end_of_hints.ensures.ends;
      hints_are =
          rw (c.size.ensures, c.is_non_blink-non_blink.ensures, c.sauce.ensures, c.content-content.ensures) at
          c.of.ensures;
    })
