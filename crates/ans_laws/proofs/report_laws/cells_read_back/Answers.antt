use Rattle.ans_model.proofs.CellsBack.{cells_of_picture_back}
use Rattle.ans_laws.proofs.report_laws.cells_read_back.Goals as goal

pub returns : goal.returns
returns c = cells_of_picture_back
