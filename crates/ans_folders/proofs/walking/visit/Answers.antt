use Rattle.std.proofs.Common.{◌∷◌, ◌∙◌, ap, sym, subst, vec_items}
use Rattle.ans_folders.specs.Paths.{Place}
use Rattle.ans_folders.specs.Pending.{pending_places}
use Rattle.ans_folders.specs.Walk.{Walked, folder_at}
use Rattle.ans_folders.proofs.WalkLemmas.{Walked-place, folder_place}
use Rattle.ans_folders.proofs.walking.visit.Goals as goal

pub returns-then-is_folder : goal.returns-then-is_folder
returns-then-is_folder g c =
    let P : Place → Type 0 = λ place. Walked (g.F.Folders.lists c.args.folders) (g.F.Folders.fails c.args.folders)
    g.V.Visitor.takes g.V.Visitor.stops c.args.taken
    (place ∷ pending_places (vec_items c.args.pending.now)) (pending_places (vec_items c.enter.new.pending))
    c.args.visitor.now c.enter.new.visitor c.enter.result in
    let is = sym c.is_folder.ensures ∙ c.if-is_folder.true in
    subst P (ap folder_at c.as_str.ensures.value ∙ sym (folder_place _ _ is)) (c.enter.ensures c.args.taken)

pub returns-else-is_folder : goal.returns-else-is_folder
returns-else-is_folder g c =
    rw c.after.ensures
    (Walked-place (g.F.Folders.lists c.args.folders) (g.F.Folders.fails c.args.folders) g.V.Visitor.takes
    g.V.Visitor.stops c.args.taken _ _ _ _ c.hand.result (sym c.is_folder.ensures ∙ c.if-is_folder.false)
    c.hand.ensures)
