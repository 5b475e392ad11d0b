use Rattle.std.proofs.Common.{◌≡◌}
use Rattle.ans_write.specs.Puts.{device_of}
use Rattle.ans_check.specs.FileRows.{TellsNamed}
use Rattle.ans_check.specs.Rows.{IsReady}
use Rattle.ans_check.proofs.RowsLemmas.{TellsFirst}
use Rattle.ans_check.proofs.file_rows.tell_rows.Given as goal

abbrev pub invariant-loop-name : goal.invariant-loop-name
invariant-loop-name g l = IsReady l.out × (l.out.device.ghost_name ≡ l.fn.out.device.ghost_name)
    × TellsFirst g.W.Write.contents
    (TellsNamed g.I.Reader.Read.remaining (g.I.Inputs.is_file l.fn.inputs) (g.I.Inputs.fails l.fn.inputs)
    (g.T.FileRows.tells l.rows)) l.names l.name-index (device_of l.fn.out) (device_of l.out) l.counts
