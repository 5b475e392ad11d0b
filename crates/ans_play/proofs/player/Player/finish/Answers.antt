use Rattle.std.proofs.Common.{◌≡◌, sym, ap, ◌∙◌, subst, None, rules}
use Rattle.ans_play.specs.PlayView.{PlayView}
use Rattle.ans_play.specs.PlayerView.{PlayerView, play_of}
use Rattle.ans_play.specs.Stands.{EndsPlay}
use Rattle.ans_play.proofs.Finishing.{finishes_played, finishes_faulted}
use Rattle.ans_play.proofs.player.Player.finish.Goals as goal

pub returns-in-Some-clause-finished : goal.returns-in-Some-clause-finished
returns-in-Some-clause-finished g c s st =
    finishes_faulted c.args.self s c.in-Some.fault st
    (ap (λ (p : PlayerView). p.fault) (sym c.self.view_is) ∙ c.in-Some.is)

pub returns-clause-finished : goal.returns-clause-finished
returns-clause-finished g c s st =
    let none : c.args.self.fault ≡ None = search rules in
    finishes_played c.args.self s c.finish.result st none
    (subst (λ (v : PlayView). EndsPlay v c.finish.result) (ap play_of c.self.view_is) c.finish.ensures.ends)
