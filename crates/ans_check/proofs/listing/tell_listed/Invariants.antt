use Rattle.std.proofs.Common.{◌≡◌, ℕ, false, List}
use Rattle.std.specs.Io.KnownBytes.{Consumes}
use Rattle.ans_write.specs.Puts.{device_of}
use Rattle.ans_write.specs.Tried.{has_failed, inner_of}
use Rattle.ans_check.specs.FileRows.{TellsNamed}
use Rattle.ans_check.specs.Rows.{IsReady}
use Rattle.ans_check.proofs.ListingLemmas.{TakesAll}
use Rattle.ans_check.proofs.listing.tell_listed.Given as goal

abbrev pub invariant-loop : goal.invariant-loop
invariant-loop g l = (has_failed l.reader ≡ false) × IsReady l.out
    × (l.out.device.ghost_name ≡ l.fn.out.device.ghost_name)
    × ((bytes : List ℕ)
    × Consumes (g.R.Read.remaining (inner_of l.fn.reader)) (g.R.Read.remaining (inner_of l.reader)) bytes
    × TakesAll g.W.Write.contents
    (TellsNamed g.I.Reader.Read.remaining (g.I.Inputs.is_file l.fn.inputs) (g.I.Inputs.fails l.fn.inputs)
    (g.T.FileRows.tells l.rows)) bytes l.listing (device_of l.fn.out) (device_of l.out))
