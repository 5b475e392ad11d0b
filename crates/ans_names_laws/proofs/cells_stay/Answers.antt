use Rattle.ans_names_laws.proofs.NamedPicture.{cells_stay}
use Rattle.ans_names_laws.proofs.cells_stay.Goals as goal

pub returns : goal.returns
returns c = cells_stay
