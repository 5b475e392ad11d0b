-- What is popped off the entries is put before what was to be visited.
use Rattle.std.proofs.Common.{◌≡◌, ◌++◌, map, vec_items, vec_len}
use Rattle.ans_folders.specs.Paths.{place_in}
use Rattle.ans_folders.specs.Pending.{pending_places}
use Rattle.ans_folders.proofs.walking.push_entries.Given as goal

abbrev pub invariant-loop-entry : goal.invariant-loop-entry
invariant-loop-entry l =
    map (place_in l.folder) (vec_items l.entries) ++ pending_places (vec_items l.pending)
    ≡ map (place_in l.folder) (vec_items l.initial.entries) ++ pending_places (vec_items l.initial.pending)

abbrev pub decreases-loop-entry : goal.decreases-loop-entry
decreases-loop-entry l = vec_len l.entries
