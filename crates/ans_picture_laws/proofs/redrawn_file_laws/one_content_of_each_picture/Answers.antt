use Rattle.ans_picture_laws.proofs.RedrawnContents.{content_tells_the_picture}
use Rattle.ans_picture_laws.proofs.redrawn_file_laws.one_content_of_each_picture.Goals as goal

pub returns : goal.returns
returns c = content_tells_the_picture
