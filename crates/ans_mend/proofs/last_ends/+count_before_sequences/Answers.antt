use Rattle.std.proofs.Common.{◌≡◌, ℕ, suc, ◌-◌, None, Option, arith, rules, subst}
use Rattle.std.specs.Prelude.{IfNone, IfSome}
use Rattle.ans_mend.specs.LastEnds.{LeavesMost, NeverPasses}
use Rattle.ans_mend.proofs.SequencesLeft.{most_of_ends, never_without, none_deeper, some_deeper}
use Rattle.ans_mend.proofs.last_ends.+count_before_sequences.Goals as goal

pub returns-in-Some-clause-some : goal.returns-in-Some-clause-some
returns-in-Some-clause-some t c =
    most_of_ends c.args.sequences c.args.size c.args.content.now c.in-Some.count c.in-Some.ensures.some

pub returns-in_err-start-clause-none : goal.returns-in_err-start-clause-none
returns-in_err-start-clause-none t c =
    let at : c.from_residual.result ≡ None = search rules in
    rw at (never_without c.args.sequences c.args.size c.args.content.now c.in_default.ensures.none
    c.in_err-start.ensures.none)

pub returns-clause-some : goal.returns-clause-some
returns-clause-some t c =
    let one_more : suc (c.args.sequences - 1) ≡ c.args.sequences = omega (arith, c.if-sequences-eq0.false) in
    subst (λ (n : ℕ). IfSome c.count_before_sequences.result (LeavesMost n c.args.size c.args.content.now)) one_more
    (some_deeper (c.args.sequences - 1) c.args.size c.args.content.now c.in_ok-start.start c.in_default.ensures.none
    c.in_ok-start.ensures.some c.count_before_sequences.result c.count_before_sequences.ensures.some)

pub returns-clause-none : goal.returns-clause-none
returns-clause-none t c =
    let one_more : suc (c.args.sequences - 1) ≡ c.args.sequences = omega (arith, c.if-sequences-eq0.false) in
    subst (λ (n : ℕ). IfNone c.count_before_sequences.result (NeverPasses n c.args.size c.args.content.now)) one_more
    (none_deeper (c.args.sequences - 1) c.args.size c.args.content.now c.in_ok-start.start c.in_default.ensures.none
    c.in_ok-start.ensures.some c.count_before_sequences.result c.count_before_sequences.ensures.none)
