use Rattle.std.proofs.Common.{ap, sym}
use Rattle.ans_fix.specs.Suggested.{if_mended}
use Rattle.ans_fix.proofs.fixes.fix_by.Goals as goal

pub returns-in-Ok : goal.returns-in-Ok
returns-in-Ok c =
    (c.in_ok-tried.field-0, c.in_ok-tried.ensures, sym (ap (if_mended c.args.mends.now) c.in-Ok.is))

pub returns-in-Err : goal.returns-in-Err
returns-in-Err c =
    (c.in_ok-tried.field-0, c.in_ok-tried.ensures, sym (ap (if_mended c.args.mends.now) c.in-Err.is))
