use Rattle.ans_laws.proofs.OneTokensText as one
use Rattle.ans_laws.proofs.report_laws.one_text_of_tokens.Goals as goal

pub returns : goal.returns
returns c = record { text = one.one_text_of_tokens; fault = one.one_fault_of_tokens }
