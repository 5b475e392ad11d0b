use Rattle.ans_picture_laws.proofs.PageReads.{page_read}
use Rattle.ans_picture_laws.proofs.show_laws.pages_show_the_picture.Goals as goal

pub returns : goal.returns
returns c = page_read
