use Rattle.ans_sauce.specs.Parts.{content_of, size_of}
use Rattle.ans_verdict.proofs.LeastLemmas.{unknown_unneeded, surely_needed, needed_by_play}
use Rattle.ans_verdict.proofs.least_class.needs_part.Goals as goal

pub returns-then-not-is_known_in-clause-needed : goal.returns-then-not-is_known_in-clause-needed
returns-then-not-is_known_in-clause-needed g c =
    unknown_unneeded (size_of c.args.parts.now) (content_of c.args.parts.now) c.args.passing.now.class c.args.part
    (cc) c.requires.passes.good

pub returns-then-covers-clause-needed : goal.returns-then-covers-clause-needed
returns-then-covers-clause-needed g c =
    surely_needed (size_of c.args.parts.now) (content_of c.args.parts.now) c.args.passing.now.class
    c.args.passing.now.refused c.args.part c.requires.passes.good c.requires.passes.refused
    (rw c.made_known-without.ensures at (c.covers.ensures.0 c.if-covers.true))

pub returns-clause-needed : goal.returns-clause-needed
returns-clause-needed g c =
    rw c.is_some.ensures (needed_by_play (size_of c.args.parts.now) (content_of c.args.parts.now)
    c.args.passing.now.class c.args.part c.in_ok-fault.fault c.requires.passes.good
    (rw c.made_known-without.ensures at c.in_ok-fault.ensures.fault))
