use Rattle.std.proofs.Common.{◌≡◌, ◌∙◌, ◌+◌, ℕ, List, ◌++◌, ap, append_assoc, arith, drop, get_or, nat_eq, sym}
use Rattle.std.proofs.lemmas.List.{at_drop_more}
use Rattle.ans_write.proofs.PutsLemmas.{Puts-then}
use Rattle.ans_written.specs.NamedLines.{byte_after, lines_after}
use Rattle.ans_written.proofs.named_lines.put_named_lines.Goals as goal

pub loop-byte-preserved : goal.loop-byte-preserved
loop-byte-preserved g c =
    let (front, put, is) = c.loop-byte.invariant in
    let name = c.args.name.now in
    let text = c.args.text.now in
    let i = c.loop-byte.byte-index in
    let byte = get_or text i 0 in
    let rest = lines_after name (nat_eq byte 0x0A) (drop (i + 1) text) in
    let step : lines_after name c.loop-byte.starts (drop i text) ≡ byte_after name c.loop-byte.starts byte ++ rest =
    at_drop_more (lines_after name c.loop-byte.starts) text i 0 (omega (arith, c.loop-byte-test.true)) in (
      front ++ byte_after name c.loop-byte.starts byte,
      Puts-then put c.put_byte.ensures,
      is ∙ ap (λ (v : List ℕ). front ++ v) step
          ∙ sym (append_assoc front (byte_after name c.loop-byte.starts byte) rest),
    )
