use Rattle.std.proofs.Common.{◌≡◌, ◌≤◌, ◌++◌, drop, length}
use Rattle.std.specs.Prelude.{map}
use Rattle.std.specs.List.{filter}
use Rattle.ans_model.specs.Text.Words.{texts_of}
use Rattle.ans_players.specs.Kinds.{all_kinds, kind_word}
use Rattle.ans_kinds.specs.KindsUsed.{is_used, words_used}
use Rattle.ans_kinds.proofs.kinds.KindsUsed.words.Given as goal

-- at most one word of each kind so far, and behind them come those of the others
abbrev pub invariant-loop-kind : goal.invariant-loop-kind
invariant-loop-kind l = record {
  few : length l.words.items ≤ l.kind-index;
  words : texts_of l.words.items ++ map kind_word (filter (is_used l.self) (drop l.kind-index all_kinds))
      ≡ words_used l.self;
}
