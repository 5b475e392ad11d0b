use Rattle.std.proofs.Common.{◌∙◌}
use Rattle.ans_mend.proofs.MendLemmas.{split_reading}
use Rattle.ans_mend.proofs.judging.read.Goals as goal

pub returns-in-Ok-clause-reading : goal.returns-in-Ok-clause-reading
returns-in-Ok-clause-reading c =
    c.reading_of.ensures ∙ split_reading c.args.lacks c.args.file.now c.in-Ok.parts c.in-Ok.ensures.ok
