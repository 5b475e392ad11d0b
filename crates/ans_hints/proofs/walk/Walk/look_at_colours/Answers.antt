use Rattle.std.proofs.Common.{◌≡◌, ◌∙◌, false, refl, sym}
use Rattle.std.specs.List.{list_any}
use Rattle.ans_hints.specs.Conditions.{is_modern}
use Rattle.ans_hints.proofs.ModernNumbers.{none_later, none_off}
use Rattle.ans_hints.proofs.walk.Walk.look_at_colours.Goals as goal

pub returns-else-has_modern-clause-hints : goal.returns-else-has_modern-clause-hints
returns-else-has_modern-clause-hints c =
    let none : list_any is_modern c.args.numbers.now ≡ false = sym c.has_modern.ensures ∙ c.if-has_modern.false in
    rw (none_later c.args.numbers.now none, none_off c.args.numbers.now none) refl
