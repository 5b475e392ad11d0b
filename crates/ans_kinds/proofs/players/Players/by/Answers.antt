use Rattle.std.proofs.Common.{sym, subst, ◌∙◌, Option}
use Rattle.std.proofs.lemmas.Bool.{false≢true}
use Rattle.ans_players.specs.declared.difference.Difference.TheVariants.{OwnColours}
use Rattle.ans_kinds.specs.KindsUsed.{IsTold}
use Rattle.ans_pens.specs.declared.times.Times.{Times}
use Rattle.ans_kinds.proofs.NamedPlayers.{none_at_all, same_in_named_colours, same_on_every_player}
use Rattle.ans_kinds.proofs.NamedPlayers.{used_has_only_agreed}
use Rattle.ans_kinds.proofs.players.Players.by.Goals as goal

pub returns-then-not-are_own_colours_at_most : goal.returns-then-not-are_own_colours_at_most
returns-then-not-are_own_colours_at_most c = (
  c.requires.told,
  λ none. false≢true (sym c.if-not-are_own_colours_at_most.true ∙ c.are_own_colours_at_most.ensures.1 none),
)

pub returns-in-None : goal.returns-in-None
returns-in-None c =
    let used = c.args.used in
    let told = c.requires.told in
    same_on_every_player c.args.size c.args.content.now used _
    (none_at_all used (c.are_own_colours_at_most.ensures.0 c.if-not-are_own_colours_at_most.false)
    (sym c.of.ensures ∙ c.in-None.is))
    (c.least_class_for_players-class.ensures (used_has_only_agreed c.args.size c.args.content.now used told
    c.args.needs c.requires.needs))

pub returns-in-Some : goal.returns-in-Some
returns-in-Some c =
    let used = c.args.used in
    let told = c.requires.told in
    let some = sym c.of.ensures ∙ c.in-Some.is in (
      same_in_named_colours c.args.size c.args.content.now used _ c.in-Some.times
          (c.are_own_colours_at_most.ensures.0 c.if-not-are_own_colours_at_most.false) some
          (c.least_class_for_players-class.ensures (used_has_only_agreed c.args.size c.args.content.now used told
          c.args.needs c.requires.needs)),
      subst (λ (t : Option Times). IsTold c.args.size c.args.content.now OwnColours t) some (told OwnColours),
    )
