use Rattle.std.proofs.Common.{◌≡◌, ◌++◌, ℕ, List, length}
use Rattle.ans_write.specs.Puts.{device_of}
use Rattle.ans_check.specs.FileRows.{TellsNamed}
use Rattle.ans_check.specs.Listing.{TakesIn}
use Rattle.ans_check.specs.Rows.{IsReady}
use Rattle.ans_check.proofs.listing.tell_piece.Given as goal

abbrev pub invariant-loop-name : goal.invariant-loop-name
invariant-loop-name g l = IsReady l.out × (l.out.device.ghost_name ≡ l.fn.out.device.ghost_name)
    × ((done : List ℕ) × (l.piece ≡ done ++ l.left)
    × TakesIn g.W.Write.contents
    (TellsNamed g.I.Reader.Read.remaining (g.I.Inputs.is_file l.fn.inputs) (g.I.Inputs.fails l.fn.inputs)
    (g.T.FileRows.tells l.rows)) l.fn.listing done l.listing (device_of l.fn.out) (device_of l.out))

abbrev pub decreases-loop-name : goal.decreases-loop-name
decreases-loop-name g l = length l.left
