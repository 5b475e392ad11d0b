use Rattle.ans_options.proofs.HelpWords.{long_version, short_version}
use Rattle.ans_check_laws.proofs.command_line_laws.version_is_asked_for.Goals as goal

pub returns : goal.returns
returns c = record { long = long_version; short = short_version }
