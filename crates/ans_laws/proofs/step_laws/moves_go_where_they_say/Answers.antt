use Rattle.std.proofs.Common.{refl, arith}
use Rattle.ans_model.specs.Sequence.TokenKind.{BackSpace, Up, Down, Forward, Backward, Place}
use Rattle.ans_model.specs.Screen.Step.{step}
use Rattle.ans_model.proofs.PositionLemmas.{same_position}
use Rattle.ans_laws.proofs.MoveLemmas.{less_by, more_by, nearest}
use Rattle.ans_laws.proofs.step_laws.moves_go_where_they_say.Goals as goal

pub returns : goal.returns
returns c = λ z s. record {
  up = λ n. (less_by n s.cursor.row (step z s (Up n)).cursor.row (omega arith), refl);
  down = λ n. (more_by n z.lines s.cursor.row (step z s (Down n)).cursor.row (omega arith), refl);
  forward = λ n last e.
      (refl, more_by n last s.cursor.column (step z s (Forward n)).cursor.column (omega (arith, e)));
  backward = λ n. (refl, less_by n s.cursor.column (step z s (Backward n)).cursor.column (omega arith));
  back_space = (refl, less_by 1 s.cursor.column (step z s BackSpace).cursor.column (omega arith));
  carriage_return = (refl, refl);
  restore = refl;
  place = λ p on. same_position _ p (omega (arith, on.0)) (omega (arith, on.1));
  place_edges = λ row column last e. (
    nearest row z.lines (step z s (Place row column)).cursor.row (omega arith),
    nearest column last (step z s (Place row column)).cursor.column (omega (arith, e)),
  );
}
