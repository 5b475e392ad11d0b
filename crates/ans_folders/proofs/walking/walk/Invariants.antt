-- The walk has come to what is still to be visited.
use Rattle.std.proofs.Common.{[], ◌∷◌, Ok, vec_items}
use Rattle.ans_folders.specs.Pending.{pending_places}
use Rattle.ans_folders.specs.Walk.{Walked, folder_at}
use Rattle.ans_folders.proofs.walking.walk.Given as goal

abbrev pub invariant-loop : goal.invariant-loop
invariant-loop g l =
    Walked {S = g.row.V-Stop.Denot} (g.F.Folders.lists l.folders) (g.F.Folders.fails l.folders) g.V.Visitor.takes
    g.V.Visitor.stops l.taken (folder_at l.folder ∷ []) (pending_places (vec_items l.pending)) l.initial.visitor
    l.visitor (Ok tt)
