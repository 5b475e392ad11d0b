use Rattle.std.proofs.Common.{rules, ◌≡◌, [], ◌∷◌, List, Ok, Err, refl, subst, sym}
use Rattle.ans_folders.specs.Paths.{Place}
use Rattle.ans_folders.specs.Walk.{Finds, folder_at}
use Rattle.ans_folders.specs.Walk.Finds.{nothing}
use Rattle.ans_folders.proofs.WalkLemmas.{Walked-then, popped}
use Rattle.ans_folders.proofs.walking.walk.Goals as goal

pub returns-in_default : goal.returns-in_default
returns-in_default g c = ([], _, nothing, refl)

pub loop-init : goal.loop-init
loop-init g c =
    let lists = g.F.Folders.lists c.args.folders in
    let fails = g.F.Folders.fails c.args.folders in
    let P : List Place → Type 0 = λ later. Finds lists fails c.args.taken (folder_at c.args.folder.now ∷ []) [] later in
    ([], subst P (sym c.in-Ok.ensures) nothing, refl)

pub loop-preserved : goal.loop-preserved
loop-preserved g c =
    let lists = g.F.Folders.lists c.args.folders in
    let fails = g.F.Folders.fails c.args.folders in
    let P : List Place → Type 0 =
    λ later. Finds lists fails c.args.taken (folder_at c.args.folder.now ∷ []) c.loop.invariant.0 later in
    let at = popped _ _ _ c.in-Some.ensures.items in
    Walked-then {S = g.row.V-Stop.Denot} lists fails g.V.Visitor.takes g.V.Visitor.stops c.args.taken _ _ _ _ _ _ tt
    (Ok tt) (c.loop.invariant.0, subst P at c.loop.invariant.1, c.loop.invariant.2) c.in_ok-visit.ensures

pub returns-in_err-visit : goal.returns-in_err-visit
returns-in_err-visit g c =
    let lists = g.F.Folders.lists c.args.folders in
    let fails = g.F.Folders.fails c.args.folders in
    let P : List Place → Type 0 =
    λ later. Finds lists fails c.args.taken (folder_at c.args.folder.now ∷ []) c.loop.invariant.0 later in
    let at = popped _ _ _ c.in-Some.ensures.items in
    let same : c.from_residual.result ≡ Err c.in_err-visit.field-0.0 = search rules in
    rw same
    (Walked-then {S = g.row.V-Stop.Denot} lists fails g.V.Visitor.takes g.V.Visitor.stops c.args.taken _ _ [] _ _ _ tt
    (Err c.in_err-visit.field-0.0) (c.loop.invariant.0, subst P at c.loop.invariant.1, c.loop.invariant.2)
    c.in_err-visit.ensures)
