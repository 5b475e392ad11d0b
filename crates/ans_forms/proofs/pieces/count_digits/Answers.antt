use Rattle.ans_forms.specs.Pieces.{is_digit}
use Rattle.ans_forms.proofs.FrontCounted.{front_counted}
use Rattle.ans_forms.proofs.pieces.count_digits.Goals as goal

pub returns-clause-count : goal.returns-clause-count
returns-clause-count c =
    front_counted is_digit c.args.bytes.now c.first_no_digit.result c.unwrap_or.result c.first_no_digit.ensures
    c.unwrap_or.ensures
