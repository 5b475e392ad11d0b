use Rattle.std.proofs.Common.{Bool, ap, arith, refl, ◌∙◌}
use Rattle.std.specs.List.{list_any}
use Rattle.ans_model.specs.Sequence.TokenKind.{Colours}
use Rattle.ans_players.specs.Kinds.{is_kind}
use Rattle.ans_pens.specs.Counted.{counted}
use Rattle.ans_kinds.specs.SyncShown.{shown_sync}
use Rattle.ans_kinds.specs.KindsUsed.{used_of}
use Rattle.ans_kinds.specs.NamesShown.{shown_names}
use Rattle.ans_kinds.proofs.KindsCounted.{any_of_kinds, coloured, kinds_parted}
use Rattle.ans_kinds.proofs.KindsFound.{walked_kinds}
use Rattle.ans_kinds.proofs.kinds.KindsWalkWalker.colours.Goals as goal

pub returns-clause-ready : goal.returns-clause-ready
returns-clause-ready c = record {
  stands = record { cursor = c.requires.ready.stands.cursor; saved = c.requires.ready.stands.saved };
  few = λ number within. omega (arith, c.count_colours.ensures.few number within, c.requires.some);
}

pub returns-clause-walked : goal.returns-clause-walked
returns-clause-walked c first front text next h =
    let old = c.args.self.now in
    let colours = c.args.colours.now in
    let numbers = colours.numbers.now in
    walked_kinds first old front h (Colours numbers) text _ next.whole _ colours.start next.starts refl refl refl
    (λ s e. rw c.by-inked.ensures.attribute (coloured old.pen s numbers e))
    (λ s e. refl) c.by-inked.ensures.names
    (λ s kind e. c.count_colours.ensures.used kind
    ∙ ap (λ (b : Bool). counted (used_of old.used kind) b colours.start)
    (rw c.by-inked.ensures.common (kinds_parted (list_any (is_kind kind)) (any_of_kinds kind) old.size
    (record { sync = shown_sync old.sync; names = shown_names old.names; state = s }) colours text old.pen e
    next.omits_is)))
