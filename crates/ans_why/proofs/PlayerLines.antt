-- The lines on players, piece by piece.
use Rattle.std.proofs.Common.{◌≡◌, ℕ, false, List, [], ◌++◌, codes, sym, ap, append_assoc}
use Rattle.std.specs.Prelude.{if◌then◌else◌}
use Rattle.ans_model.specs.declared.start.Start.{Start}
use Rattle.ans_model.specs.Text.NeedsText.{needed_parts}
use Rattle.ans_model.specs.Text.RecordText.{named_line}
use Rattle.ans_why.specs.PlayersText.{everywhere_line, is_same_class}

pub kind_line_is : (word times : List ℕ)
    → codes "players differ: " ++ (word ++ (codes ", " ++ (times ++ codes "\n")))
    ≡ named_line (codes "players differ") (word ++ (codes ", " ++ times))
kind_line_is word times = simp append_assoc

pub everywhere_line_is : (needs class : Start) → is_same_class needs class ≡ false
    → codes "needs on all players: " ++ (needed_parts class ++ codes "\n") ≡ everywhere_line needs class
everywhere_line_is needs class other =
    sym (ap (λ b. if b then [] else named_line (codes "needs on all players") (needed_parts class)) other)
