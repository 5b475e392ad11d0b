use Rattle.std.proofs.Common.{refl}
use Rattle.ans_check.proofs.rows.row_by.Goals as goal

pub returns : goal.returns
returns c = record {
  found = c.finding_by-finding.result;
  finding_is = refl;
  finding = c.finding_by-finding.ensures;
  fix = c.in_ok-fix.ensures;
  digits = c.in_ok-digits.ensures;
}
