use Rattle.ans_screen.proofs.KnownAfter.{after_found}
use Rattle.ans_screen.proofs.attr.Attr.apply.Goals as goal

pub invariant_of-result : goal.invariant_of-result
invariant_of-result c =
    let after = after_found _ c.args.self c.args.parameter _ c.self.view_is c.self.invariant
    c.change_of-change.ensures in after.known_bits

pub returns-clause-bits : goal.returns-clause-bits
returns-clause-bits c =
    (after_found _ c.args.self c.args.parameter _ c.self.view_is c.self.invariant c.change_of-change.ensures).bits

pub returns-clause-sound : goal.returns-clause-sound
returns-clause-sound c =
    (after_found _ c.args.self c.args.parameter _ c.self.view_is c.self.invariant c.change_of-change.ensures).sound

pub returns-clause-exact : goal.returns-clause-exact
returns-clause-exact c =
    (after_found _ c.args.self c.args.parameter _ c.self.view_is c.self.invariant c.change_of-change.ensures).exact
