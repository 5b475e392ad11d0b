use Rattle.ans_forms.specs.Pieces.{is_parameter}
use Rattle.ans_forms.proofs.FrontCounted.{front_counted}
use Rattle.ans_forms.proofs.pieces.count_parameters.Goals as goal

pub returns-clause-count : goal.returns-clause-count
returns-clause-count c =
    front_counted is_parameter c.args.bytes.now c.first_no_parameter.result c.unwrap_or.result
    c.first_no_parameter.ensures c.unwrap_or.ensures
