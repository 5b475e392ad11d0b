use Rattle.ans_picture_laws.proofs.EachLook.{look_tells}
use Rattle.ans_picture_laws.proofs.show_laws.looks_tell_attributes.Goals as goal

pub returns : goal.returns
returns c = look_tells
