use Rattle.ans_play_laws.proofs.OneOfThree.{has_an_answer}
use Rattle.ans_play_laws.proofs.play_laws.some_answer.Goals as goal

pub returns : goal.returns
returns c z class bytes size all = has_an_answer z class size bytes all
