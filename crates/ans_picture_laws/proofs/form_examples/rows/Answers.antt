use Rattle.std.proofs.Common.{refl}
use Rattle.std.specs.Fmt.{digits}
use Rattle.ans_picture_laws.proofs.form_examples.rows.Goals as goal

pub returns : goal.returns
unfolding digits
returns c = record {
  hi = refl;
  empty = refl;
  one = refl;
  short = refl;
}
