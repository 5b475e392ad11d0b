use Rattle.std.proofs.Common.{length, sym, get_or}
use Rattle.std.specs.Prelude.{◌==◌}
use Rattle.std.proofs.lemmas.Bool.{and_right, ne_eqb}
use Rattle.ans_hints.specs.Conditions.{is_seen}
use Rattle.ans_hints.specs.Walks.{dark_at}
use Rattle.ans_pens.proofs.CountedRuns.{never_along}
use Rattle.ans_hints.proofs.seen.count_dark.Goals as goal

pub returns-else-attribute-eq8-clause-value : goal.returns-else-attribute-eq8-clause-value
returns-else-attribute-eq8-clause-value c =
    sym (never_along c.args.times.now (dark_at c.args.run.now c.args.attribute) c.args.offset (length c.args.run.now)
    (λ i. and_right (is_seen (get_or c.args.run.now i 0)) (c.args.attribute == 0x08)
    (ne_eqb c.args.attribute 0x08 c.if-attribute-eq8.false)))
