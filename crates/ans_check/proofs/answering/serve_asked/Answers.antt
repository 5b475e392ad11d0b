use Rattle.ans_check.proofs.answering.serve_asked.Goals as goal

pub returns-in-One-clause-ends : goal.returns-in-One-clause-ends
returns-in-One-clause-ends g c = rw c.in-One.is (rw c.name_of.ensures at c.serve_command.ensures.ends)

pub returns-in-Why-clause-ends : goal.returns-in-Why-clause-ends
returns-in-Why-clause-ends g c = rw c.in-Why.is (rw c.as_slice.ensures.value at c.serve_why.ensures.ends)

pub returns-in-Table-clause-ends : goal.returns-in-Table-clause-ends
returns-in-Table-clause-ends g c =
    rw c.in-Table.is (rw c.as_slice-in-Table.ensures.value at c.serve_table.ensures.ends)

pub returns-in-Mend-clause-ends : goal.returns-in-Mend-clause-ends
returns-in-Mend-clause-ends g c =
    rw c.in-Mend.is (rw c.as_slice-in-Mend.ensures.value at c.serve_mend.ensures.ends)

pub returns-in-Redraw-clause-ends : goal.returns-in-Redraw-clause-ends
returns-in-Redraw-clause-ends g c =
    rw c.in-Redraw.is (rw c.as_slice-in-Redraw.ensures.value at c.serve_redraw.ensures.ends)
