use Rattle.std.proofs.Common.{◌≡◌, ℕ, ◌+◌, ◌*◌, subst, arith}
use Rattle.std.proofs.lemmas.Bool.{both_ways}
use Rattle.ans_screen.specs.CellPlanes.{AreKnown}
use Rattle.ans_screen.proofs.KnownChunks.{chunk_at, known_more, chunk_of_known}
use Rattle.ans_screen.proofs.planes.known_chunks.Goals as goal

pub returns-then-not-is_known_chunk-clause-longest : goal.returns-then-not-is_known_chunk-clause-longest
returns-then-not-is_known_chunk-clause-longest c = λ room known.
    let glyphs = chunk_at c.args.glyphs_known.now _ c.loop-i.i c.as_chunks.ensures.front (omega arith) in
    let bits = chunk_at c.args.bits_known.now _ c.loop-i.i c.as_chunks-2.ensures.front (omega arith) in
    both_ways _ c.if-not-is_known_chunk.true
    (c.is_known_chunk.ensures.1 (chunk_of_known _ _ _ _ c.loop-i.i glyphs bits known))

pub loop-i-preserved : goal.loop-i-preserved
loop-i-preserved c =
    let glyphs = chunk_at c.args.glyphs_known.now _ c.loop-i.i c.as_chunks.ensures.front (omega arith) in
    let bits = chunk_at c.args.bits_known.now _ c.loop-i.i c.as_chunks-2.ensures.front (omega arith) in
    let next : 32 * c.loop-i.i + 32 ≡ 32 * (c.loop-i.i + 1) = omega arith in
    subst (λ (n : ℕ). AreKnown c.args.glyphs_known.now c.args.bits_known.now n) next
    (known_more _ _ _ _ c.loop-i.i glyphs bits c.loop-i.invariant
    (c.is_known_chunk.ensures.0 c.if-not-is_known_chunk.false))
