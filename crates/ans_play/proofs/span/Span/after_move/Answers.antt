use Rattle.ans_model.specs.Inside.ShownKind.{shown_kind}
use Rattle.ans_play.proofs.SpanLemmas.{after_move_on_screen}
use Rattle.ans_play.proofs.span.Span.after_move.Goals as goal

pub returns-clause-on_screen : goal.returns-clause-on_screen
returns-clause-on_screen c =
    rw (c.destination.ensures, c.destination-2.ensures)
    (after_move_on_screen c.args.size (shown_kind c.args.kind.now) c.args.self c.requires)
