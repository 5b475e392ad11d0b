use Rattle.ans_picture_laws.proofs.FormLaws.{form_is_agreed, form_is_same}
use Rattle.ans_picture_laws.proofs.form_laws.form_is_the_same_on_every_player.Goals as goal

pub returns : goal.returns
returns c = record { agreed = form_is_agreed; same = form_is_same }
