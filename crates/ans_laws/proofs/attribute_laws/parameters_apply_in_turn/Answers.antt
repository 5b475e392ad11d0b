use Rattle.std.proofs.Common.{refl, [], ◌∷◌}
use Rattle.std.proofs.lemmas.List.Sums.{fold-append}
use Rattle.ans_model.specs.Screen.Attribute.{attribute_after}
use Rattle.ans_laws.proofs.attribute_laws.parameters_apply_in_turn.Goals as goal

pub returns : goal.returns
returns c = record { none = λ a. refl; each = λ a p others. fold-append attribute_after a others (p ∷ []) }
