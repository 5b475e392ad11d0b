use Rattle.std.proofs.Common.{sym, ◌∙◌}
use Rattle.ans_kinds.proofs.KindsFound.{all_others_none, each_other_none}
use Rattle.ans_kinds.proofs.kinds.KindsUsed.are_own_colours_at_most.Goals as goal

pub returns : goal.returns
returns c = (
  λ is. each_other_none c.args.self.now (sym c.has_no_others.ensures ∙ is),
  λ each. c.has_no_others.ensures ∙ all_others_none c.args.self.now each,
)
