use Rattle.std.proofs.Common.{◌≡◌, length}
use Rattle.ans_why.specs.TextDamage.{comes_in, form_of}
use Rattle.ans_why.proofs.text_damage.has_form.Given as goal

abbrev pub invariant-bytes : goal.invariant-bytes
invariant-bytes l = comes_in (form_of l.fn.sought) 0x00 l.fn.bytes ≡ comes_in (form_of l.fn.sought) l.before l.rest

abbrev pub decreases-bytes : goal.decreases-bytes
decreases-bytes l = length l.rest
