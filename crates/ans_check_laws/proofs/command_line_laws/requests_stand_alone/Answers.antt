use Rattle.ans_check_laws.proofs.HelpLemmas.{request_alone}
use Rattle.ans_check_laws.proofs.command_line_laws.requests_stand_alone.Goals as goal

pub returns : goal.returns
returns c = request_alone
