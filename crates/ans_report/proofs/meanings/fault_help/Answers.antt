use Rattle.std.proofs.Common.{◌∙◌}
use Rattle.ans_report.proofs.RowTexts.{fault_help_is}
use Rattle.ans_report.proofs.meanings.fault_help.Goals as goal

pub returns : goal.returns
returns c = rw c.fault_place.ensures.place at c.fault_row-help.ensures.help ∙ fault_help_is c.args.cause.now
