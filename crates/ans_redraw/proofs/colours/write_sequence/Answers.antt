use Rattle.std.proofs.Common.{arith, ◌≤◌, take, ◌∙◌}
use Rattle.std.specs.Prelude.{◌<◌}
use Rattle.ans_redraw.specs.Form.{texts}
use Rattle.ans_redraw.specs.Colours.{colours_to}
use Rattle.ans_redraw.proofs.NumberTexts.{end_is, colours_written}
use Rattle.ans_redraw.proofs.ColourLengths.{colours_to_length}
use Rattle.ans_redraw.proofs.colours.write_sequence.Goals as goal

pub overflow_sub-numbers : goal.overflow_sub-numbers
overflow_sub-numbers c =
    let numbers = c.write_numbers-numbers in
    let from : c.args.from < 256 = omega (arith, c.ranges.from.fits) in
    let to : c.args.to < 256 = omega (arith, c.ranges.to.fits) in
    (colours_written (take c.args.end c.args.text.now) c.write-start.new.text numbers.new.text c.write-start.result
    numbers.result c.args.from c.args.to from to c.requires.apart numbers.ensures.within
    c.write-start.ensures.text numbers.ensures.text).0

pub returns-clause-text : goal.returns-clause-text
returns-clause-text c =
    let numbers = c.write_numbers-numbers in
    let from : c.args.from < 256 = omega (arith, c.ranges.from.fits) in
    let to : c.args.to < 256 = omega (arith, c.ranges.to.fits) in
    c.write.ensures.text
    ∙ (colours_written (take c.args.end c.args.text.now) c.write-start.new.text numbers.new.text c.write-start.result
    numbers.result c.args.from c.args.to from to c.requires.apart numbers.ensures.within
    c.write-start.ensures.text numbers.ensures.text).1

pub returns-clause-within : goal.returns-clause-within
returns-clause-within c =
    let numbers = c.write_numbers-numbers in
    let from : c.args.from < 256 = omega (arith, c.ranges.from.fits) in
    let to : c.args.to < 256 = omega (arith, c.ranges.to.fits) in
    let written =
    colours_written (take c.args.end c.args.text.now) c.write-start.new.text numbers.new.text c.write-start.result
    numbers.result c.args.from c.args.to from to c.requires.apart numbers.ensures.within
    c.write-start.ensures.text numbers.ensures.text in
    let some : 1 ≤ numbers.result = written.0 in
    let is =
    end_is c.args.text.now c.write.new.text c.args.end c.write.result (texts (colours_to c.args.from c.args.to))
    (omega arith) (omega arith) (c.write.ensures.text ∙ written.1) in
    omega (arith, is, colours_to_length c.args.from c.args.to)
