use Rattle.ans_mend.proofs.MendLemmas.{lines_read, lines_refused, lines_taken}
use Rattle.ans_mend.proofs.lines.lines_for.Goals as goal

pub returns-clause-lines : goal.returns-clause-lines
returns-clause-lines c =
    lines_taken c.args.mends.now c.args.lacks c.args.file.now c.in-Ok.parts c.in-Ok.ensures.ok c.number_wanted.result
    c.number_wanted.ensures.kept c.number_wanted.ensures.taken

pub returns-clause-reason : goal.returns-clause-reason
returns-clause-reason c =
    lines_refused c.args.mends.now c.args.lacks c.args.file.now c.in-Ok.parts c.in-Ok.ensures.ok c.number_wanted.result
    c.number_wanted.ensures.reason

pub returns-clause-read : goal.returns-clause-read
returns-clause-read c =
    lines_read c.args.mends.now c.args.lacks c.args.file.now c.in-Ok.parts c.in-Ok.ensures.ok c.number_wanted.result
