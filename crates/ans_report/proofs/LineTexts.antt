-- Lines as they are put, piece by piece.
use Rattle.std.proofs.Common.{◌≡◌, ℕ, List, ◌++◌, codes, append_assoc}
use Rattle.ans_model.specs.Text.FaultText.{line_of}
use Rattle.ans_model.specs.Text.RecordText.{named_line}

-- a name, a colon, a text and a line feed
pub named_line_is : (name text : List ℕ)
    → name ++ (codes ": " ++ (text ++ codes "\n")) ≡ named_line name text
named_line_is name text = simp append_assoc

-- the line of a size, by its digits
pub size_line_is : (width lines : List ℕ)
    → codes "size: " ++ (width ++ (codes " x " ++ (lines ++ codes "\n")))
    ≡ named_line (codes "size") (width ++ (codes " x " ++ lines))
size_line_is width lines = simp append_assoc

-- the line of a length in bytes, by its digits
pub length_line_is : (digits : List ℕ)
    → codes "content: " ++ (digits ++ codes " bytes\n") ≡ line_of (codes "content: " ++ (digits ++ codes " bytes"))
length_line_is digits = simp append_assoc
