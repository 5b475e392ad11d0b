use Rattle.std.proofs.Common.{ap}
use Rattle.ans_model.specs.Inside.ShownKind.{shown_kind}
use Rattle.ans_model.specs.Screen.Step.{step}
use Rattle.ans_pens.specs.declared.cell_play.CellPlay.{CellPlay}
use Rattle.ans_pens.proofs.KeptCells.{play_with_screen}
use Rattle.ans_pens.proofs.CellPlaySteps.{same_screen}
use Rattle.ans_pens.proofs.cell_play.CellPlay.step.Goals as goal

pub returns-in_default-clause-play : goal.returns-in_default-clause-play
returns-in_default-clause-play c s e fits above =
    let z = c.args.size in
    let k = c.args.kind.now in
    let d = c.in_default in
    play_with_screen z c.args.at s (step z s (shown_kind k)) c.args.self.now c.step.new.self e
    (c.step.ensures.pen s (ap (λ (w : CellPlay). w.pen) e))
    (same_screen z s k d.not-Glyph d.not-Tab d.not-Clear d.not-EraseLine above)
