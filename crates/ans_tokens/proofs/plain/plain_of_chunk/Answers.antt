use Rattle.std.proofs.Common.{arith, sym, ◌∙◌}
use Rattle.std.proofs.lemmas.Simd.{none_from_empty_mask}
use Rattle.ans_tokens.specs.Glyphs.{is_stop}
use Rattle.ans_tokens.proofs.TextFront.{none_before_lowest}
use Rattle.ans_tokens.proofs.plain.plain_of_chunk.Goals as goal

pub returns-then-found-eq0-clause-plain : goal.returns-then-found-eq0-clause-plain
returns-then-found-eq0-clause-plain c =
    none_from_empty_mask is_stop c.args.bytes.now c.args.from 16 0 c.requires
    (sym c.stops-found.ensures ∙ c.if-found-eq0.true)

pub returns-else-found-eq0-clause-within : goal.returns-else-found-eq0-clause-within
returns-else-found-eq0-clause-within c =
    (none_before_lowest is_stop c.args.bytes.now c.args.from c.stops-found.result c.requires c.stops-found.ensures
    (omega arith)).0

pub returns-else-found-eq0-clause-plain : goal.returns-else-found-eq0-clause-plain
returns-else-found-eq0-clause-plain c =
    (none_before_lowest is_stop c.args.bytes.now c.args.from c.stops-found.result c.requires c.stops-found.ensures
    (omega arith)).1
