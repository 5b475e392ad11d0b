use Rattle.ans_mend.proofs.EditLemmas.{named_if, too_many_names}
use Rattle.ans_mend.proofs.editing.name_colours.Goals as goal

pub returns-then-mends-clause-named : goal.returns-then-mends-clause-named
returns-then-mends-clause-named c =
    named_if c.args.mends.now c.args.draft.now.file c.name_colours.new.self.file c.name_colours.result c.if-mends.true
    c.name_colours.ensures.file

pub returns-then-mends-clause-reason : goal.returns-then-mends-clause-reason
returns-then-mends-clause-reason c =
    too_many_names c.args.mends.now c.args.draft.now.file _ c.name_colours.result c.if-mends.true
    c.name_colours.ensures.too_long
