use Rattle.ans_mend.proofs.name_colours.naming_in.Goals as goal

pub returns-in-Err : goal.returns-in-Err
returns-in-Err c = absurd (c.in-Err.ensures.unread c.requires.reads.0 c.requires.reads.1)
