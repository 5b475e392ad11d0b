use Rattle.ans_options.proofs.HelpWords.{help_alone, help_of_command, help_of_more, help_of_other}
use Rattle.ans_options.proofs.HelpWords.{help_of_files_and_more}
use Rattle.ans_check_laws.proofs.command_line_laws.help_takes_one_command.Goals as goal

pub returns : goal.returns
returns c = record {
  alone = help_alone;
  command = help_of_command;
  other = help_of_other;
  more = help_of_more;
  more_of_files = help_of_files_and_more;
}
