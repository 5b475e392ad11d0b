use Rattle.std.proofs.Common.{refl, rules}
use Rattle.ans_verdict.proofs.RoomLemmas.{takes_err, within_file}
use Rattle.ans_verdict.proofs.VerdictLemmas.{content_within, no_refusal}
use Rattle.ans_verdict.proofs.played.play_file.Goals as goal

pub least_class-requires : goal.least_class-requires
least_class-requires g c = content_within c.args.file.now c.in-Ok.parts c.in-Ok.ensures.ok c.requires

pub returns-in_err-least-clause-memory : goal.returns-in_err-least-clause-memory
returns-in_err-least-clause-memory g c some = absurd (no_refusal c.args.file.now c.in-Ok.parts c.in-Ok.ensures.ok some)

pub returns-in_err-least-clause-room : goal.returns-in_err-least-clause-room
returns-in_err-least-clause-room g c =
    within_file c.args.file.now c.in-Ok.parts c.in-Ok.ensures.ok
    (takes_err c.in_err-least.ensures.room refl (search rules))
