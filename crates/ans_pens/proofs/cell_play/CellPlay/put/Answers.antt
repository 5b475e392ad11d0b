use Rattle.std.proofs.Common.{◌≢◌, rules, sym, ap, ◌∙◌}
use Rattle.ans_pens.specs.declared.cell_play.CellPlay.{CellPlay}
use Rattle.ans_pens.proofs.KeptCells.{printed_elsewhere}
use Rattle.ans_pens.proofs.cell_play.CellPlay.put.Goals as goal

pub returns-else-eq-clause-play : goal.returns-else-eq-clause-play
returns-else-eq-clause-play c s e fits =
    let other : c.args.self.now.pen.cursor ≢ c.args.at = search rules in
    e ∙ sym (printed_elsewhere c.args.size c.args.at s fits c.requires.at c.args.byte
    (λ same. other (ap (λ (w : CellPlay). w.pen.cursor) e ∙ same)))
