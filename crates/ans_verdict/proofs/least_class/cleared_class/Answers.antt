use Rattle.ans_sauce.specs.Parts.{content_of, size_of}
use Rattle.ans_verdict.proofs.VerdictLemmas.{not_good}
use Rattle.ans_verdict.proofs.least_class.cleared_class.Goals as goal

pub returns-in-None-clause-passes : goal.returns-in-None-clause-passes
returns-in-None-clause-passes g c = record {
  good = rw c.in-None.is at c.in_ok-cleared.ensures.fault;
  refused = not_good (size_of c.args.parts.now) c.args.refused (content_of c.args.parts.now) c.args.fault
      c.requires.fault;
}
