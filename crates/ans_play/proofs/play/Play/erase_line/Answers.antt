use Rattle.std.proofs.Common.{◌≡◌, true, sym, ◌∙◌, subst}
use Rattle.ans_model.specs.Sequence.TokenKind.{EraseLine}
use Rattle.ans_play.specs.Brushes.{with_brush}
use Rattle.ans_play.specs.HalfFault.{is_one_position}
use Rattle.ans_play.specs.PlayView.{PlayView}
use Rattle.ans_play.specs.Plays.{Plays}
use Rattle.ans_play.proofs.play.Play.erase_line.Goals as goal

pub returns : goal.returns
returns g c =
    let one : is_one_position c.args.self.now.state.cursor ≡ true =
    rw (← c.self.view_is) (sym c.is_one_position.ensures ∙ c.if-not-is_one_position.false) in
    let new : PlayView = with_brush c.brush_erase-result.new.self c.brush-brush.result in
    rw c.lay.ensures
    (subst (λ (p : PlayView). Plays p new EraseLine c.brush_erase-result.result) (c.brush-brush.ensures.same one)
    c.brush_erase-result.ensures)
