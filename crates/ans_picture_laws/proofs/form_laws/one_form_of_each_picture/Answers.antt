use Rattle.ans_picture_laws.proofs.Redrawn.{form_tells_the_picture, form_is_kept}
use Rattle.ans_picture_laws.proofs.form_laws.one_form_of_each_picture.Goals as goal

pub returns : goal.returns
returns c = record { tells = form_tells_the_picture; kept = form_is_kept }
