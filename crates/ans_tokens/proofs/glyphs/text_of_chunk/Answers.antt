use Rattle.std.proofs.Common.{arith, sym, ◌∙◌}
use Rattle.std.proofs.lemmas.Simd.{none_from_empty_mask}
use Rattle.ans_tokens.specs.Glyphs.{is_low}
use Rattle.ans_tokens.proofs.TextFront.{none_before_lowest}
use Rattle.ans_tokens.proofs.glyphs.text_of_chunk.Goals as goal

pub returns-then-low-eq0-clause-text : goal.returns-then-low-eq0-clause-text
returns-then-low-eq0-clause-text c =
    none_from_empty_mask is_low c.args.bytes.now c.args.from 16 0 c.requires
    (sym c.low_bytes-low.ensures ∙ c.if-low-eq0.true)

pub returns-else-low-eq0-clause-within : goal.returns-else-low-eq0-clause-within
returns-else-low-eq0-clause-within c =
    (none_before_lowest is_low c.args.bytes.now c.args.from c.low_bytes-low.result c.requires
    c.low_bytes-low.ensures (omega arith)).0

pub returns-else-low-eq0-clause-text : goal.returns-else-low-eq0-clause-text
returns-else-low-eq0-clause-text c =
    (none_before_lowest is_low c.args.bytes.now c.args.from c.low_bytes-low.result c.requires
    c.low_bytes-low.ensures (omega arith)).1
