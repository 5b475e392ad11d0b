use Rattle.ans_mend.proofs.EditLemmas.{longer_by_returns, returns_fit}
use Rattle.ans_mend.proofs.editing.put_returns.Goals as goal

pub put_returns-requires : goal.put_returns-requires
put_returns-requires c =
    returns_fit c.args.mends.now c.args.draft.now.file c.args.draft.now.room c.if-mends.true c.requires

pub returns-then-mends-clause-longer : goal.returns-then-mends-clause-longer
returns-then-mends-clause-longer c =
    longer_by_returns c.args.mends.now c.args.draft.now.file c.put_returns.new.self.file c.if-mends.true
    c.put_returns.ensures.file
