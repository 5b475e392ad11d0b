use Rattle.ans_picture_laws.proofs.FormLaws.{form_is_shown}
use Rattle.ans_picture_laws.proofs.form_laws.form_shows_everywhere.Goals as goal

pub returns : goal.returns
returns g c =
    form_is_shown g.P.Family.size g.P.Family.agreed g.P.Family.behaviour g.P.Family.is_player
