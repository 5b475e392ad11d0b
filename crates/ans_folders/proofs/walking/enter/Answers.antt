use Rattle.std.proofs.Common.{[], refl}
use Rattle.ans_folders.specs.Walk.Finds.{nothing}
use Rattle.ans_folders.proofs.WalkLemmas.{Walked-listed, Walked-unlisted}
use Rattle.ans_folders.proofs.walking.enter.Goals as goal

pub returns-in-Ok-push_entries : goal.returns-in-Ok-push_entries
returns-in-Ok-push_entries g c = λ taken.
    Walked-listed {S = g.row.V-Stop.Denot} (g.F.Folders.lists c.args.folders) (g.F.Folders.fails c.args.folders)
    g.V.Visitor.takes g.V.Visitor.stops taken _ _ _ _ _ c.args.visitor.now c.in-Ok.ensures.listed c.sort.ensures
    c.in-Ok-push_entries.ensures

pub returns-in-Err-push_entries : goal.returns-in-Err-push_entries
returns-in-Err-push_entries g c = λ taken. ([], _, nothing, refl)

pub returns-in-Err : goal.returns-in-Err
returns-in-Err g c = λ taken.
    rw c.after.ensures
    (Walked-unlisted (g.F.Folders.lists c.args.folders) (g.F.Folders.fails c.args.folders) g.V.Visitor.takes
    g.V.Visitor.stops taken _ _ _ _ _ c.unreadable.result (rw c.kind.ensures c.in-Err.ensures.failed)
    c.unreadable.ensures.takes c.unreadable.ensures.stops)
