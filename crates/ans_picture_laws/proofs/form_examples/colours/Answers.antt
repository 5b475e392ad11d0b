use Rattle.std.proofs.Common.{refl}
use Rattle.std.specs.Fmt.{digits}
use Rattle.ans_picture_laws.proofs.form_examples.colours.Goals as goal

pub returns : goal.returns
unfolding digits
returns c = record {
  none = refl;
  bright = refl;
  bright_goes = refl;
  blink = refl;
  blink_goes = refl;
  bright_goes_from_blink = refl;
  background = refl;
  background_goes = refl;
  both = refl;
  other_colours = refl;
  most = refl;
  all = refl;
}
