use Rattle.ans_players.specs.declared.difference.Difference.TheVariants.{OwnColours}
use Rattle.ans_players.specs.Kinds.{is_kind}
use Rattle.ans_check_laws.proofs.PlayersShown.{needs_nothing, is_same_where_cleared, none_agreed}
use Rattle.ans_check_laws.proofs.player_laws.mended_files_are_same_where_cleared.Goals as goal

pub returns : goal.returns
returns c = record {
  same = λ mends file draft mended is. is_same_where_cleared mends file mended draft is;
  any = λ mends file draft mended class is. needs_nothing mends file mended draft is none_agreed class;
  named = λ mends file draft mended class times is said.
      needs_nothing mends file mended draft is (is_kind OwnColours) class said.0;
}
