use Rattle.ans_options.proofs.TopicLemmas.{found_by_name, no_topic_of_command, topic_mistaken}
use Rattle.ans_check_laws.proofs.command_line_laws.topics_have_their_names.Goals as goal

pub returns : goal.returns
returns c = record { found = found_by_name; command = no_topic_of_command; mistake = topic_mistaken }
