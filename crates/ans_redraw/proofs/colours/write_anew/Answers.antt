use Rattle.std.proofs.Common.{take, ap, ◌∙◌}
use Rattle.ans_redraw.specs.Colours.{ansi_number}
use Rattle.ans_redraw.proofs.NumberTexts.{anew_text}
use Rattle.ans_redraw.proofs.colours.write_anew.Goals as goal

pub returns-clause-text : goal.returns-clause-text
returns-clause-text c =
    anew_text (take c.args.end c.args.text.now) _ _ _ _ _ c.args.to c.ansi_number-number.result
    c.ansi_number-number-2.result c.is_bright.result c.blinks.result c.is_bright.ensures c.blinks.ensures
    (c.ansi_number-number.ensures ∙ ap ansi_number c.foreground_of.ensures)
    (c.ansi_number-number-2.ensures ∙ ap ansi_number c.background_of.ensures)
    c.write_digit-zero.ensures.text c.write_digit-bright.ensures.text c.write_digit-blink.ensures.text
    c.write_number-front.ensures.text c.write_number.ensures.text
