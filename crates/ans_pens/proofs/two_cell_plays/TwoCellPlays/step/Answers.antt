use Rattle.std.proofs.Common.{arith}
use Rattle.ans_model.specs.Inside.ShownKind.{shown_kind}
use Rattle.ans_pens.proofs.CleanSteps.{kept_more}
use Rattle.ans_pens.proofs.two_cell_plays.TwoCellPlays.step.Goals as goal

pub returns-clause-kept : goal.returns-clause-kept
returns-clause-kept c class tokens clean was =
    kept_more c.args.size class c.args.at tokens (shown_kind c.args.kind.now) c.args.self.now _ (omega arith)
    clean was c.step.ensures.play c.step-2.ensures.play
