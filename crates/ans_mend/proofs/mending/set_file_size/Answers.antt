use Rattle.std.proofs.Common.{ap, length, ◌∙◌}
use Rattle.ans_mend.proofs.DraftRoomLemmas.{sized_length}
use Rattle.ans_mend.proofs.mending.set_file_size.Goals as goal

pub returns-clause-same_length : goal.returns-clause-same_length
returns-clause-same_length c =
    ap (λ d. length d.file) c.state_file_size.ensures ∙ sized_length _ c.args.draft.now.file c.requires.record
