use Rattle.std.proofs.Common.{refl}
use Rattle.ans_model.proofs.BeginningLemmas.{leaves_cleared}
use Rattle.ans_model.proofs.beginning.beginning_leaves_cleared_screen.Goals as goal

pub returns : goal.returns
returns c = record { bytes = refl; cleared = leaves_cleared }
