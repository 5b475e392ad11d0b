use Rattle.ans_sauce.specs.Parts.{content_of, size_of}
use Rattle.ans_verdict.specs.FileVerdict.{Deserves}
use Rattle.ans_verdict.specs.ScreenRoom.{KeepsRoom}
use Rattle.ans_verdict.proofs.least_class.passing_class.Given as goal

abbrev pub invariant-loop : goal.invariant-loop
invariant-loop g l = record {
  deserved : Deserves (size_of l.parts) l.class (content_of l.parts) l.fault;
  keeps : KeepsRoom g.S.Screens.has_room g.S.Screens.may_lack (size_of l.parts) l.fn.screens l.screens;
}
