use Rattle.ans_play.specs.Shown.{cells_of_row}
use Rattle.ans_write.proofs.RowTexts.{digits_of_row}
use Rattle.ans_report.proofs.picture_text.write_digits.Goals as goal

pub returns-clause-text : goal.returns-clause-text
returns-clause-text g c =
    rw c.width-width.ensures.width
    (digits_of_row c.write_digits.new.text c.args.bytes.now _ (cells_of_row c.args.picture.now c.args.row) _
    c.write_digits.ensures c.requires.bytes c.copy_attributes.ensures c.requires.width)
