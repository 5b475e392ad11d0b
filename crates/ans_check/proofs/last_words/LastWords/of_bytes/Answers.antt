use Rattle.ans_check.proofs.WordsLemmas.{stand_ins_for}
use Rattle.ans_check.proofs.last_words.LastWords.of_bytes.Goals as goal

pub returns-in-Err : goal.returns-in-Err
returns-in-Err c = stand_ins_for c.args.name.now c.in-Err.ensures.cases.0
