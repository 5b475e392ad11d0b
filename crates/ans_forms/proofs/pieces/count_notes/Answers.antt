use Rattle.ans_forms.specs.Pieces.{is_note}
use Rattle.ans_forms.proofs.FrontCounted.{front_counted}
use Rattle.ans_forms.proofs.pieces.count_notes.Goals as goal

pub returns-clause-count : goal.returns-clause-count
returns-clause-count c =
    front_counted is_note c.args.bytes.now c.first_no_note.result c.unwrap_or.result c.first_no_note.ensures
    c.unwrap_or.ensures
