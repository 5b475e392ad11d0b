use Rattle.std.proofs.Common.{refl, sym, ◌∙◌}
use Rattle.std.specs.List.{list_all}
use Rattle.std.proofs.lemmas.Bool.{not-false}
use Rattle.ans_model.specs.Sequence.TokenKind.{Colours}
use Rattle.ans_kinds.specs.SyncShown.{shown_sync}
use Rattle.ans_kinds.specs.KindsUsed.{is_used}
use Rattle.ans_kinds.specs.NamesShown.{shown_names}
use Rattle.ans_kinds.proofs.AgreedFound.{walked_apart, walked_on}
use Rattle.ans_kinds.proofs.KindsCounted.{all_of_kinds, coloured, kinds_parted}
use Rattle.ans_kinds.proofs.agreed.AgreedWalkWalker.colours.Goals as goal

pub returns-then-not-have_colours-clause-walked : goal.returns-then-not-have_colours-clause-walked
returns-then-not-have_colours-clause-walked c first front text next h =
    let old = c.args.self.now in
    let colours = c.args.colours.now in
    let agreed = is_used old.used.now in
    walked_apart first old _ front (Colours colours.numbers.now) text _ h next.whole refl refl refl
    (λ s e. sym c.if-not-have_colours.true ∙ c.have_colours.ensures
    ∙ rw c.by-inked.ensures.common (kinds_parted (list_all agreed) (all_of_kinds agreed) old.size
    (record { sync = shown_sync old.sync; names = shown_names old.names; state = s }) colours text old.pen e
    next.omits_is)) refl

pub returns-clause-walked : goal.returns-clause-walked
returns-clause-walked c first front text next h =
    let old = c.args.self.now in
    let colours = c.args.colours.now in
    let numbers = colours.numbers.now in
    let agreed = is_used old.used.now in
    walked_on first old _ front (Colours numbers) text _ h next.whole refl refl refl _
    (λ s e. sym c.if-not-have_colours.false ∙ c.have_colours.ensures
    ∙ rw c.by-inked.ensures.common (kinds_parted (list_all agreed) (all_of_kinds agreed) old.size
    (record { sync = shown_sync old.sync; names = shown_names old.names; state = s }) colours text old.pen e
    next.omits_is))
    (h.on refl) (λ stops. c.stand_alike.ensures (not-false _ stops))
    (λ s e. rw c.by-inked.ensures.attribute (coloured old.pen s numbers e), λ s e. refl)
    (c.colour_again.ensures.pen old.size, λ s e. refl) c.by-inked.ensures.names
