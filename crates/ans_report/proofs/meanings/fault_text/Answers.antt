use Rattle.std.proofs.Common.{◌∙◌}
use Rattle.ans_report.proofs.RowTexts.{fault_text_is}
use Rattle.ans_report.proofs.meanings.fault_text.Goals as goal

pub returns : goal.returns
returns c = rw c.fault_place.ensures.place at c.fault_row.ensures.text ∙ fault_text_is c.args.fault.now.cause
