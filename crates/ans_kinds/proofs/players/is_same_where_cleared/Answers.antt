use Rattle.std.proofs.Common.{sym, ◌∙◌}
use Rattle.std.proofs.lemmas.Bool.{false≢true}
use Rattle.ans_model.specs.Screen.StartClass.{all_known}
use Rattle.ans_model.proofs.ClassLemmas.{covers_all_known}
use Rattle.ans_kinds.proofs.NamedPlayers.{good_where_cleared, same_by_least, used_has_only_agreed}
use Rattle.ans_kinds.proofs.players.is_same_where_cleared.Goals as goal

pub returns-then-not-covers : goal.returns-then-not-covers
returns-then-not-covers c = (
  λ is. absurd (false≢true is),
  λ same. sym c.if-not-covers.true
      ∙ c.covers.ensures.1 (good_where_cleared c.args.size c.args.content.now c.args.needs c.requires.needs same),
)

pub returns : goal.returns
returns c =
    let z = c.args.size in
    let content = c.args.content.now in
    let used = c.kinds_used-used.result in
    let good = (c.requires.needs all_known).1 (covers_all_known c.args.needs) in
    let told = c.kinds_used-used.ensures good in
    let same = same_by_least z content used _ good told
    (c.least_class_for_players.ensures (used_has_only_agreed z content used told c.args.needs c.requires.needs)) in
    let found = c.covers-2.ensures in
    (λ is. same.0 (found.0 is), λ so. found.1 (same.1 so))
