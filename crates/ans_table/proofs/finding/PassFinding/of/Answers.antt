use Rattle.ans_table.proofs.finding.PassFinding.of.Goals as goal

pub of-reach-requires-clause-needs : goal.of-reach-requires-clause-needs
of-reach-requires-clause-needs c = rw (c.content.ensures, c.size.ensures) c.requires.needs

pub returns : goal.returns
returns c = record {
  needs = c.requires.needs;
  players = rw (c.content.ensures, c.size.ensures) at c.of-reach.ensures.players;
  taller = rw (c.content.ensures, c.size.ensures) at c.of-reach.ensures.taller;
}
