use Rattle.ans_model.proofs.Reading.{one_reading, reads_bytes}
use Rattle.ans_laws.proofs.text_laws.one_reading.Goals as goal

pub returns : goal.returns
returns c = record { one = one_reading; prints_bytes = reads_bytes }
