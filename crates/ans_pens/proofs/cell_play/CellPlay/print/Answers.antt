use Rattle.std.proofs.Common.{ap}
use Rattle.ans_model.specs.Screen.State.{State}
use Rattle.ans_model.specs.Screen.Step.{advanced, printed}
use Rattle.ans_model.proofs.StepLemmas.{advanced_is}
use Rattle.ans_pens.specs.declared.cell_play.CellPlay.{CellPlay}
use Rattle.ans_pens.proofs.KeptCells.{play_with_screen}
use Rattle.ans_pens.proofs.cell_play.CellPlay.print.Goals as goal

pub returns-clause-play : goal.returns-clause-play
returns-clause-play c s e fits above =
    let z = c.args.size in
    let there : State = printed z s c.args.byte in
    let put = c.put.ensures.play s e fits in
    play_with_screen z c.args.at there (advanced z there) c.put.new.self c.advance.new.self put
    (c.advance.ensures.pen there (ap (λ (w : CellPlay). w.pen) put))
    (ap (λ (t : State). t.screen) (advanced_is z there above))
