use Rattle.ans_pens.proofs.KeptSoFar.{both_stand, kept_all}
use Rattle.ans_pens.proofs.evidence.play_tokens.Goals as goal

pub returns-clause-stand : goal.returns-clause-stand
returns-clause-stand c = both_stand c.args.bytes.now _ _ c.walk.result c.walk.ensures

pub returns-clause-kept : goal.returns-clause-kept
returns-clause-kept c tokens reads clean =
    kept_all c.args.start c.args.bytes.now _ _ c.walk.result tokens c.walk.ensures c.new-plays.ensures.kept
    reads clean
