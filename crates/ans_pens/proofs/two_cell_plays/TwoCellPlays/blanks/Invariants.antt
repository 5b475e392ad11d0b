use Rattle.std.proofs.Common.{List, All}
use Rattle.ans_model.specs.Sequence.TokenKind.{TokenKind, PrintsByte}
use Rattle.ans_model.specs.declared.fault.Cause.{Cause}
use Rattle.ans_model.specs.declared.start.Start.{Start}
use Rattle.ans_model.specs.Verdict.TokenFault.{IsClean, HasTabFault}
use Rattle.ans_pens.specs.CellPlays.{AreKept, BothStandOn}
use Rattle.ans_pens.proofs.TabBlanks.{AreBlanksKept}
use Rattle.ans_pens.proofs.two_cell_plays.TwoCellPlays.blanks.Given as goal

-- so many blanks are played, and not more than there are before the one that decides
abbrev pub invariant-loop : goal.invariant-loop
invariant-loop l = record {
  stand : BothStandOn l.size l.self;
  kept : (class : Start) (tokens : List TokenKind) (cause : Cause) (fault : HasTabFault l.size class tokens cause)
      → All PrintsByte tokens → IsClean l.size class tokens → AreKept l.size class l.at tokens l.fn.self
      → AreBlanksKept l.size class l.at tokens cause fault l.counter l.self;
}
