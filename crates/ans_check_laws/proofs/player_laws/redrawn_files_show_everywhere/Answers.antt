use Rattle.ans_check_laws.proofs.RedrawnShown.{any_is_said, redrawn_is_shown}
use Rattle.ans_check_laws.proofs.player_laws.redrawn_files_show_everywhere.Goals as goal

pub returns : goal.returns
returns g c = record {
  shown = λ file new redrawn class apart picture h size agreed passes.
      redrawn_is_shown file new redrawn h class apart picture passes g.P.Family.size g.P.Family.agreed
      g.P.Family.behaviour g.P.Family.is_player size agreed;
  any = any_is_said;
}
