use Rattle.ans_check.specs.Fates.{Became}
use Rattle.ans_check.proofs.FilesLemmas.{FiledFirst}
use Rattle.ans_check.proofs.filing.file_each.Given as goal

abbrev pub invariant-loop-name : goal.invariant-loop-name
invariant-loop-name g l =
    FiledFirst g.E.Write.contents
    (Became g.D.Disk.did g.D.Disk.leads g.D.Disk.sees g.D.Disk.fails g.D.Disk.opens g.D.Disk.identifies
    (g.T.Task.tells l.task) (g.T.Task.ending_of l.task) g.I.Reader.Read.remaining (g.I.Inputs.is_file l.inputs)
    (g.I.Inputs.is_standard l.inputs) (g.I.Inputs.fails l.inputs) l.goal)
    l.names l.name-index l.fn.disk l.disk l.fn.saves l.saves l.fn.out l.out l.counts
