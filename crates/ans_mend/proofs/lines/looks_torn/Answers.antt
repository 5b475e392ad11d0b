use Rattle.std.proofs.Common.{ap, ◌∙◌, sym, Bool}
use Rattle.std.specs.Prelude.{◌||◌}
use Rattle.ans_model.specs.Screen.State.{sized}
use Rattle.ans_model.specs.File.Record.{is_non_blink, stated_width}
use Rattle.ans_sauce.specs.Parts.{content_of, record_of}
use Rattle.ans_why.proofs.AllHints.{hints_of_all}
use Rattle.ans_hints.specs.OtherWidths.{has_other_widths}
use Rattle.ans_mend.proofs.lines.looks_torn.Goals as goal

pub returns-then-are_torn : goal.returns-then-are_torn
returns-then-are_torn c =
    let sauce = record_of c.args.parts.now in (
      c.of-hints.result,
      hints_of_all (sized (stated_width sauce) c.args.lines) (is_non_blink sauce) (content_of c.args.parts.now)
          c.of-hints.result
          (rw (
            c.new-size.ensures,
            c.width.ensures.width,
            c.content-content.ensures,
            c.is_non_blink.ensures,
            c.sauce.ensures,
          ) at c.of-hints.ensures),
      c.of-widths.result,
      rw (c.width-2.ensures.width, c.lines_before-stated.ensures.lines, c.content-content.ensures)
          at c.of-widths.ensures,
      ap (λ (b : Bool). b || has_other_widths c.of-widths.result) (rw c.are_torn.ensures at c.if-are_torn.true)
          ∙ sym c.if-are_torn.true,
    )

pub returns-else-are_torn : goal.returns-else-are_torn
returns-else-are_torn c =
    let sauce = record_of c.args.parts.now in (
      c.of-hints.result,
      hints_of_all (sized (stated_width sauce) c.args.lines) (is_non_blink sauce) (content_of c.args.parts.now)
          c.of-hints.result
          (rw (
            c.new-size.ensures,
            c.width.ensures.width,
            c.content-content.ensures,
            c.is_non_blink.ensures,
            c.sauce.ensures,
          ) at c.of-hints.ensures),
      c.of-widths.result,
      rw (c.width-2.ensures.width, c.lines_before-stated.ensures.lines, c.content-content.ensures)
          at c.of-widths.ensures,
      ap (λ (b : Bool). b || has_other_widths c.of-widths.result) (rw c.are_torn.ensures at c.if-are_torn.false)
          ∙ sym c.are_some.ensures,
    )
