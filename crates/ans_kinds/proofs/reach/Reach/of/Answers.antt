use Rattle.ans_model.specs.Screen.StartClass.{all_known}
use Rattle.ans_model.proofs.ClassLemmas.{covers_all_known}
use Rattle.ans_kinds.proofs.reach.Reach.of.Goals as goal

pub by-requires-clause-told : goal.by-requires-clause-told
by-requires-clause-told c =
    c.over-kinds.ensures.told ((c.requires.needs all_known).1 (covers_all_known c.args.needs))
