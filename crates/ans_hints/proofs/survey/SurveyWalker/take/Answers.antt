use Rattle.std.proofs.Common.{arith, ap, refl}
use Rattle.ans_hints.specs.Surveyed.{kinds_walk_of}
use Rattle.ans_hints.specs.declared.walk.Walk.{Walk}
use Rattle.ans_hints.proofs.RunHints as hints
use Rattle.ans_kinds.proofs.RunsFound as kinds
use Rattle.ans_hints.proofs.survey.SurveyWalker.take.Goals as goal

pub returns-clause-walked : goal.returns-clause-walked
returns-clause-walked c first front behind next h =
    let old = c.args.self.now in
    let past = c.go_past.ensures.past in
    record {
      hints = hints.walked_run first.walk old.walk front c.args.run.now behind c.args.offset h.hints
          (λ k l. omega (arith, c.type_inv.run k)) next c.requires.takes.stays c.requires.some _ past;
      kinds = kinds.walked_run (kinds_walk_of first) (kinds_walk_of old) _ front c.args.run.now behind c.args.offset
          h.kinds (λ k l. omega (arith, c.type_inv.run k)) next
          (record { in_sync = c.requires.takes.in_sync; stays = c.requires.takes.stays.stays })
          (ap (λ (w : Walk). w.size) past) refl (ap (λ (w : Walk). w.pen) past) refl refl refl
          (λ kind. rw c.are_both.ensures at (c.count_run.ensures.used kind));
    }
