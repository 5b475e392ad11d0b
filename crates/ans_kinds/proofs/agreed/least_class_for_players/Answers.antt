use Rattle.std.proofs.Common.{ap, refl}
use Rattle.ans_model.specs.Screen.StartClass.{all_but_colours, all_but_cursor, all_but_saved, all_but_wrap}
use Rattle.ans_model.specs.Screen.StartClass.{high_start, low_start}
use Rattle.ans_kinds.specs.KindsUsed.{is_used}
use Rattle.ans_pens.specs.declared.cell_play.CellPlay.{CellPlay}
use Rattle.ans_kinds.proofs.AgreedFound.{only_agreed_from_cleared, least_found}
use Rattle.ans_kinds.proofs.agreed.least_class_for_players.Goals as goal

pub returns : goal.returns
returns c only_agreed =
    let z = c.args.size in
    let read = only_agreed.same.0.1 in
    let only_agreed_there =
    only_agreed_from_cleared (is_used c.args.used.now) z c.args.content.now c.args.needs only_agreed in
    least_found (is_used c.args.used.now) z c.args.content.now c.args.needs _ only_agreed refl
    c.is_needed-colours.result
    (c.is_needed.ensures (high_start z all_but_cursor) read.tokens read.reads.0
    (ap (λ (w : CellPlay). w.pen) c.high.ensures.play) read.reads.1 only_agreed_there)
    (c.is_needed-2.ensures (high_start z all_but_saved) read.tokens read.reads.0
    (ap (λ (w : CellPlay). w.pen) c.high-2.ensures.play) read.reads.1 only_agreed_there)
    (c.is_needed-colours.ensures (low_start z all_but_colours) read.tokens read.reads.0
    (ap (λ (w : CellPlay). w.pen) c.low.ensures.play) read.reads.1 only_agreed_there)
    (c.is_needed-3.ensures (high_start z all_but_colours) read.tokens read.reads.0
    (ap (λ (w : CellPlay). w.pen) c.high-3.ensures.play) read.reads.1 only_agreed_there)
    (c.is_needed-4.ensures (low_start z all_but_wrap) read.tokens read.reads.0
    (ap (λ (w : CellPlay). w.pen) c.low-2.ensures.play) read.reads.1 only_agreed_there)
