-- A mended file is redrawn.
use Rattle.std.proofs.Common.{ℕ, List, ◌++◌}
use Rattle.ans_model.specs.File.Layout.{content}
use Rattle.ans_model.specs.File.Record.{stated_size}
use Rattle.ans_model.specs.Screen.StartClass.{all_known, none_known}
use Rattle.ans_model.proofs.ClassLemmas.{covers_good, none_known_covers}
use Rattle.ans_mend.specs.declared.outcome.Mended.{Mended}
use Rattle.ans_model.specs.declared.mends.Mends.{Mends}
use Rattle.ans_redraw.specs.RedrawnFile.{IsTooLong}
use Rattle.ans_redraw.specs.declared.outcome.Unredrawn.{Unredrawn}
use Rattle.ans_mend.specs.Mending.{IsMended, front_bytes}
use Rattle.ans_redraw.specs.Redrawing.{IsReasonNot}
use Rattle.ans_check_laws.proofs.UnredrawnFiles.{only_length}

-- it passes from every start, so from the cleared one
pub mended_redrawn : (mends : Mends) (file draft : List ℕ) (mended : Mended) (reason : Unredrawn)
    → (is : IsMended mends file mended draft) → IsReasonNot (front_bytes mended.front ++ draft) reason
    → IsTooLong (front_bytes mended.front ++ draft) is.picture reason
mended_redrawn mends file draft mended reason is why =
    let z = stated_size is.apart.record_bytes in
    let good = covers_good z none_known all_known (content is.apart.body) is.picture (none_known_covers all_known)
    is.from_every in
    only_length (front_bytes mended.front ++ draft) is.apart is.picture reason
    (record { accepts = is.accepts; good = good }) why
