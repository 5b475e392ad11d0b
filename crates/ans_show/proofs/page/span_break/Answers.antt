use Rattle.std.proofs.Common.{◌≤◌, length, arith}
use Rattle.ans_show.proofs.ShortTextLengths.{length_ground, length_span, length_span_end}
use Rattle.ans_show.proofs.page.span_break.Goals as goal

pub joined-requires : goal.joined-requires
joined-requires c =
    let front : length c.foreground_text.result.now ≤ 16 =
    rw c.foreground_text.ensures (length_span c.foreground.result c.foreground.ensures.sixteen) in
    let back : length c.background_text.result.now ≤ 4 =
    rw c.background_text.ensures (length_ground c.background.result c.background.ensures.sixteen) in
    let end : length c.span_end.result.now ≤ 4 = rw c.span_end.ensures (length_span_end c.blinks.result) in
    omega (arith, front, back, end)
