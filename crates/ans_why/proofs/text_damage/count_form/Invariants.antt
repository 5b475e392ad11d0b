use Rattle.std.proofs.Common.{length}
use Rattle.ans_why.specs.TextDamage.{form_of}
use Rattle.ans_why.proofs.TextCounts.{Counts-on}
use Rattle.ans_why.proofs.text_damage.count_form.Given as goal

abbrev pub invariant-bytes : goal.invariant-bytes
invariant-bytes l = Counts-on (form_of l.fn.sought) l.fn.bytes l.rest l.before l.times

abbrev pub decreases-bytes : goal.decreases-bytes
decreases-bytes l = length l.rest
