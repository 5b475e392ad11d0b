use Rattle.ans_sauce.specs.Parts.{size_of}
use Rattle.ans_verdict.specs.ScreenRoom.{KeepsRoom}
use Rattle.ans_verdict.proofs.least_class.part_that_mends.Given as goal

abbrev pub invariant-loop-part : goal.invariant-loop-part
invariant-loop-part g l =
    KeepsRoom g.S.Screens.has_room g.S.Screens.may_lack (size_of l.parts) l.fn.screens l.screens
