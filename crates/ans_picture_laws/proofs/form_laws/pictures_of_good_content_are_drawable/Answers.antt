use Rattle.ans_picture_laws.proofs.PrintedPictures.{good_pictures_are_drawable}
use Rattle.ans_picture_laws.proofs.form_laws.pictures_of_good_content_are_drawable.Goals as goal

pub returns : goal.returns
returns c = good_pictures_are_drawable
