use Rattle.std.proofs.Common.{refl}
use Rattle.std.specs.Fmt.{digits}
use Rattle.ans_picture_laws.proofs.form_examples.full_rows.Goals as goal

pub returns : goal.returns
unfolding digits
returns c = record {
  before_a_byte = refl;
  before_a_full_one = refl;
  before_empty = refl;
  before_a_blank = refl;
  before_nothing = refl;
  one_column = refl;
}
