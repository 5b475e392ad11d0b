use Rattle.std.proofs.Common.{Bool, ap, arith, refl, ◌∙◌}
use Rattle.std.specs.List.{list_any}
use Rattle.ans_model.specs.Sequence.TokenKind.{Colours}
use Rattle.ans_players.specs.Kinds.{is_kind}
use Rattle.ans_pens.specs.Counted.{counted}
use Rattle.ans_kinds.specs.SyncShown.{shown_sync}
use Rattle.ans_kinds.specs.KindsUsed.{used_of}
use Rattle.ans_kinds.specs.NamesShown.{shown_names}
use Rattle.ans_hints.specs.Surveyed.{kinds_walk_of}
use Rattle.ans_hints.proofs.HintsFound.{is_at_later, walked_token}
use Rattle.ans_kinds.proofs.KindsCounted.{any_of_kinds, kinds_parted}
use Rattle.ans_kinds.proofs.KindsFound.{walked_kinds}
use Rattle.ans_hints.proofs.survey.SurveyWalker.colours.Goals as goal

pub returns-clause-ready : goal.returns-clause-ready
returns-clause-ready c = record {
  at = is_at_later _ _ _ c.go_over_colours.ensures.at (omega (arith, c.requires.some));
  few = λ n within. omega (arith, c.count_colours.ensures.few n within, c.requires.some);
}

pub returns-clause-walked : goal.returns-clause-walked
returns-clause-walked c first front text next h =
    let old = c.args.self.now in
    let colours = c.args.colours.now in
    let over = c.go_over_colours.ensures.over _ in
    record {
      hints = walked_token first.walk old.walk front _ text _ h.hints next.whole _ colours.start next.starts over;
      kinds = walked_kinds (kinds_walk_of first) (kinds_walk_of old) front h.kinds (Colours colours.numbers.now) text _
          next.whole _ colours.start next.starts over.size refl refl over.pen (λ s e. refl) c.by-inked.ensures.names
          (λ s kind e. c.count_colours.ensures.used kind
          ∙ ap (λ (b : Bool). counted (used_of old.used kind) b colours.start)
          (rw c.by-inked.ensures.common (kinds_parted (list_any (is_kind kind)) (any_of_kinds kind) old.walk.size
          (record { sync = shown_sync old.sync; names = shown_names old.names; state = s }) colours text old.walk.pen e
          next.omits_is)));
    }
