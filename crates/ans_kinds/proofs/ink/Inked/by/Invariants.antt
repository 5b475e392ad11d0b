use Rattle.std.proofs.Common.{◌≡◌, fold, drop}
use Rattle.std.specs.Prelude.{◌&&◌}
use Rattle.std.specs.List.{list_all}
use Rattle.ans_model.specs.Screen.Attribute.{attribute_after_all}
use Rattle.ans_players.specs.Names.{names_behind}
use Rattle.ans_players.specs.Situations.{is_common_colour}
use Rattle.ans_kinds.specs.NamesShown.{shown_names}
use Rattle.ans_kinds.proofs.ink.Inked.by.Given as goal

-- what is left to go over leads where all do
abbrev pub invariant-loop-number : goal.invariant-loop-number
invariant-loop-number l = record {
  attribute : attribute_after_all l.inked.attribute (drop l.number-index l.numbers)
      ≡ attribute_after_all l.attribute l.numbers;
  names : fold names_behind (shown_names l.inked.names) (drop l.number-index l.numbers)
      ≡ fold names_behind (shown_names l.fn.names) l.numbers;
  common : (l.inked.are_common && list_all is_common_colour (drop l.number-index l.numbers))
      ≡ list_all is_common_colour l.numbers;
}
