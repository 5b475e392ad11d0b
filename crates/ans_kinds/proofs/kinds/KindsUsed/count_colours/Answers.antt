use Rattle.std.proofs.Common.{Bool, List, ap, ◌∙◌}
use Rattle.std.specs.List.{list_any}
use Rattle.ans_players.specs.Kinds.{is_kind}
use Rattle.ans_players.specs.Situations.{kind_if}
use Rattle.ans_players.specs.declared.difference.Difference.{Difference}
use Rattle.ans_players.specs.declared.difference.Difference.TheVariants.{DosColours}
use Rattle.ans_pens.specs.Counted.{counted}
use Rattle.ans_kinds.specs.KindsUsed.{used_of}
use Rattle.ans_kinds.proofs.KindsCounted.{has}
use Rattle.ans_kinds.proofs.KindsFound.{few_more}
use Rattle.ans_kinds.proofs.kinds.KindsUsed.count_colours.Goals as goal

pub returns-clause-few : goal.returns-clause-few
returns-clause-few c =
    few_more c.args.self.now c.count_kind.new.self (has c.kind_if.result) c.args.colours.now.start c.requires.few
    c.count_kind.ensures.used

pub returns-clause-used : goal.returns-clause-used
returns-clause-used c kind =
    c.count_kind.ensures.used kind
    ∙ ap (λ (kinds : List Difference). counted (used_of c.args.self.now kind) (list_any (is_kind kind) kinds)
    c.args.colours.now.start)
    (c.kind_if.ensures ∙ ap (λ (b : Bool). kind_if b DosColours) c.parts_at-may_part.ensures)
