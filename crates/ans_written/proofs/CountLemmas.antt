-- The line of the counts by the pieces that are put.
use Rattle.std.proofs.Common.{◌≡◌, ℕ, List, ◌++◌, codes, append_assoc}
use Rattle.ans_model.specs.Text.RecordText.{named_line}

pub counts_line : (files word changed unchanged done written read note : List ℕ)
    → codes "anscheck: " ++ (files ++ (word ++ (changed ++ (codes " changed, "
    ++ (unchanged ++ (codes " unchanged, "
    ++ (done ++ (codes " not done, "
    ++ (written ++ (codes " not written, " ++ (read ++ (codes " not read" ++ (note ++ codes "\n")))))))))))))
    ≡ named_line (codes "anscheck")
    (files ++ (word ++ (changed ++ (codes " changed, "
    ++ (unchanged ++ (codes " unchanged, "
    ++ (done ++ (codes " not done, "
    ++ (written ++ (codes " not written, " ++ (read ++ (codes " not read" ++ note))))))))))))
counts_line files word changed unchanged done written read note = simp append_assoc
