-- Counts, and the line of them by the pieces that are put.
use Rattle.std.proofs.Common.{◌≡◌, ℕ, List, ◌++◌, codes, append_assoc}
use Rattle.ans_model.specs.Text.RecordText.{named_line}

pub counts_line : (files word pass cleared refused unread : List ℕ)
    → codes "anscheck: " ++ (files ++ (word ++ (pass ++ (codes " pass, "
    ++ (cleared ++ (codes " pass on a cleared screen, "
    ++ (refused ++ (codes " refused, " ++ (unread ++ codes " not read\n")))))))))
    ≡ named_line (codes "anscheck")
    (files ++ (word ++ (pass ++ (codes " pass, "
    ++ (cleared ++ (codes " pass on a cleared screen, "
    ++ (refused ++ (codes " refused, " ++ (unread ++ codes " not read")))))))))
counts_line files word pass cleared refused unread = simp append_assoc
