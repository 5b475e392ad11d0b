use Rattle.std.proofs.Common.{rules, ◌≡◌, ◌/◌, ◌++◌, [], length, decimal, refl, ap, ◌∙◌, arith}
use Rattle.ans_report.proofs.GlyphsPut.{ones_ready, tens_ready, told_at_ok}
use Rattle.ans_report.proofs.tokens_text.Tens.go_to.Goals as goal

pub returns-then-tens-gt0-clause-ready : goal.returns-then-tens-gt0-clause-ready
returns-then-tens-gt0-clause-ready c =
    let empty : c.clear.new.self.items ≡ [] = c.clear.ensures in
    let text : c.as_bytes.result.now ≡ decimal (c.args.offset / 10) = search rules in
    let added : c.try_extend_from_slice.new.self.items ≡ c.clear.new.self.items ++ c.as_bytes.result.now =
    told_at_ok c.try_extend_from_slice.result c.try_extend_from_slice.ensures.variant
    (omega (arith, ap length empty, ap length c.as_bytes.ensures.value, c.format.ensures.fits))
    c.try_extend_from_slice.ensures.ok in
    tens_ready _ c.args.offset (omega (arith, c.ranges.offset.fits)) (omega (arith, c.if-tens-gt0.true)) refl
    (added ∙ rw (empty, text) refl)

pub returns-else-tens-gt0-clause-ready : goal.returns-else-tens-gt0-clause-ready
returns-else-tens-gt0-clause-ready c =
    ones_ready _ c.args.offset (omega (arith, c.if-tens-gt0.false)) c.clear.ensures
