use Rattle.std.proofs.Common.{◌≤◌, length, arith}
use Rattle.ans_show.proofs.ShortTextLengths.{length_back, length_front, length_start}
use Rattle.ans_show.proofs.terminal.colours.Goals as goal

pub joined-requires : goal.joined-requires
joined-requires c =
    let start : length c.start_text.result.now ≤ 5 = rw c.start_text.ensures (length_start c.blinks.result) in
    let front : length c.foreground_text.result.now ≤ 17 =
    rw c.foreground_text.ensures (length_front c.args.vga c.foreground.result c.foreground.ensures.sixteen) in
    let back : length c.background_text.result.now ≤ 17 =
    rw c.background_text.ensures (length_back c.args.vga c.background.result c.background.ensures.sixteen) in
    omega (arith, start, front, back)
