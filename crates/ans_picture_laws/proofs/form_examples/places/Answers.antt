use Rattle.std.proofs.Common.{refl}
use Rattle.std.specs.Fmt.{digits}
use Rattle.ans_picture_laws.proofs.form_examples.places.Goals as goal

pub returns : goal.returns
unfolding digits
returns c = record {
  second = refl;
  near = refl;
  far = refl;
  farther = refl;
  most = refl;
}
