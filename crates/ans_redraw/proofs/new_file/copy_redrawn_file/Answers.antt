use Rattle.std.proofs.Common.{rules, ◌≡◌, ◌∙◌, ℕ, length, take, refl, ap}
use Rattle.ans_redraw.specs.RedrawnFile.{redrawn_file}
use Rattle.ans_redraw.proofs.CopyLemmas.{copied}
use Rattle.ans_redraw.proofs.new_file.copy_redrawn_file.Goals as goal

pub returns-clause-file : goal.returns-clause-file
returns-clause-file g c =
    let new = redrawn_file c.args.file.now c.args.picture.now in
    let whole : c.args.redrawn.now.whole ≡ length new = c.requires.redrawn.told.whole in
    let taken : take c.args.redrawn.now.whole c.give_redrawn_file.new.sink.array.now ≡ new =
    ap (λ (n : ℕ). take n c.give_redrawn_file.new.sink.array.now) whole
    ∙ copied _ c.give_redrawn_file.new.sink new c.give_redrawn_file.ensures refl (rw whole at c.requires.room) in
    search rules
