use Rattle.ans_model.proofs.Reading.{refused_not_read, unfinished_not_read, spelled_not_unfinished}
use Rattle.ans_laws.proofs.text_laws.refused_or_read.Goals as goal

pub returns : goal.returns
returns c = record { refused = refused_not_read; unfinished = unfinished_not_read; ended = spelled_not_unfinished }
