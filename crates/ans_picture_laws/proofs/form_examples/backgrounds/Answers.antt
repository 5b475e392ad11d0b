use Rattle.std.proofs.Common.{refl}
use Rattle.std.specs.Fmt.{digits}
use Rattle.ans_picture_laws.proofs.form_examples.backgrounds.Goals as goal

pub returns : goal.returns
unfolding digits
returns c = record {
  blank_at_the_end = refl;
  line_end = refl;
  bright_line_end = refl;
  blink_line_end = refl;
  full = refl;
  full_below_full = refl;
  last = refl;
  last_in_blink = refl;
  last_line = refl;
}
