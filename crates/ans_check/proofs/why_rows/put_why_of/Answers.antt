use Rattle.std.proofs.Common.{inr, refl}
use Rattle.ans_table.specs.declared.counts.Outcome.TheVariants.{Unread}
use Rattle.ans_table.specs.declared.finding.Unread.TheVariants as why
use Rattle.ans_check.specs.WhyRows.{error_line}
use Rattle.ans_check.proofs.why_rows.put_why_of.Goals as goal

pub returns-in_default : goal.returns-in_default
returns-in_default g c = rw c.in-Ok.is (record {
  outcome = Unread;
  text = error_line why.Memory;
  told = inr (refl, refl);
  puts = c.put_error_line-in_default.ensures.puts;
  is = c.put_error_line-in_default.ensures.unread;
})
