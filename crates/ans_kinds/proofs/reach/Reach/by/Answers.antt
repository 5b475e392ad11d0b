use Rattle.std.proofs.Common.{refl}
use Rattle.ans_model.proofs.ClassLemmas.{covers_itself}
use Rattle.ans_pens.proofs.NoMoves.{taller_without_moves}
use Rattle.ans_kinds.proofs.reach.Reach.by.Goals as goal

pub is_taller-requires-clause-good : goal.is_taller-requires-clause-good
is_taller-requires-clause-good c = (c.requires.needs c.args.needs).1 (covers_itself c.args.needs)

pub returns-then-not-has_moves-clause-taller : goal.returns-then-not-has_moves-clause-taller
returns-then-not-has_moves-clause-taller c =
    let needs = c.args.needs in
    let good = (c.requires.needs needs).1 (covers_itself needs) in (
      λ t. taller_without_moves c.args.size needs c.args.content.now c.args.has_moves c.requires.moves good
          c.if-not-has_moves.true,
      λ t. rw c.if-not-has_moves.true refl,
    )
