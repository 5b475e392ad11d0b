use Rattle.std.proofs.Common.{ap, length}
use Rattle.std.specs.Prelude.{is_err}
use Rattle.ans_c.proofs.Verdicts.{lent_lacking}
use Rattle.ans_c.proofs.row.ans_row_on.Goals as goal

pub returns-in_default-clause-no_room : goal.returns-in_default-clause-no_room
returns-in_default-clause-no_room c = λ _.
    lent_lacking c.args.file.now c.new.result (length c.args.rows.now) (length c.args.bytes.now) c.new.ensures.rows
    c.new.ensures.bytes (c.why_on.ensures.room.want (ap is_err c.in_default.is))
