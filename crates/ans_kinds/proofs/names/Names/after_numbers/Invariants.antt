use Rattle.std.proofs.Common.{◌≡◌, fold, drop}
use Rattle.ans_players.specs.Names.{names_behind}
use Rattle.ans_kinds.specs.NamesShown.{shown_names}
use Rattle.ans_kinds.proofs.names.Names.after_numbers.Given as goal

abbrev pub invariant-loop-number : goal.invariant-loop-number
invariant-loop-number l =
    fold names_behind (shown_names l.names) (drop l.number-index l.fn.numbers)
    ≡ fold names_behind (shown_names l.fn.self) l.fn.numbers
