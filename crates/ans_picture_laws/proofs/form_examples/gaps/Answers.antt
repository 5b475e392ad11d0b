use Rattle.std.proofs.Common.{refl}
use Rattle.std.specs.Fmt.{digits}
use Rattle.ans_picture_laws.proofs.form_examples.gaps.Goals as goal

pub returns : goal.returns
unfolding digits
returns c = record {
  four = refl;
  five = refl;
  one_in_bright = refl;
  three_in_colour = refl;
  most = refl;
  one_more = refl;
  four_more = refl;
  five_more = refl;
}
