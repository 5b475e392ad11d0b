use Rattle.ans_model.proofs.AcceptedFiles.{accepted, no_fault, one_layout}
use Rattle.ans_laws.proofs.file_laws.accepted_or_refused.Goals as goal

pub returns : goal.returns
returns c = record { accepted = accepted; no_fault = no_fault; one_layout = one_layout }
