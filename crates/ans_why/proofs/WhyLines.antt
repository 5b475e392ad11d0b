-- The lines of `why`, by the pieces that are put.
use Rattle.std.proofs.Common.{◌≡◌, ℕ, ◌<◌, List, [], ◌∷◌, ◌++◌, length, codes}
use Rattle.std.proofs.Common.{refl, arith, append_assoc}
use Rattle.ans_model.specs.Text.Characters.{shown_bytes}
use Rattle.ans_model.specs.Text.RecordText.{named_line}
use Rattle.ans_why.specs.WhyText.{quoted, blamed_text}

-- ---- the bytes to blame
pub blamed_text_is : (bytes : List ℕ) → 0 < length bytes → codes ": " ++ quoted bytes ≡ blamed_text bytes
blamed_text_is [] some = absurd (omega (arith, some))
blamed_text_is (byte ∷ more) some = refl

pub blamed_line_is : (name fault blamed : List ℕ)
    → name ++ (codes ": " ++ (fault ++ (blamed ++ codes "\n"))) ≡ named_line name (fault ++ blamed)
blamed_line_is name fault blamed = simp append_assoc

-- ---- the number of lines
pub lines_line_is : (number torn : List ℕ) → codes "lines: " ++ (number ++ (torn ++ codes "\n"))
    ≡ named_line (codes "lines") (number ++ torn)
lines_line_is number torn = simp append_assoc

-- ---- what is found
pub found_version : (bytes : List ℕ) → codes "found: version " ++ (shown_bytes bytes ++ codes "\n")
    ≡ named_line (codes "found") (codes "version " ++ shown_bytes bytes)
found_version bytes = simp append_assoc

pub found_count : (count what : List ℕ) → codes "found: " ++ (count ++ (what ++ codes "\n"))
    ≡ named_line (codes "found") (count ++ what)
found_count count what = simp append_assoc

pub found_record : (offset after : List ℕ)
    → codes "found: a record at " ++ (offset ++ (codes ", and " ++ (after ++ codes " after it\n")))
    ≡ named_line (codes "found")
    (codes "a record at " ++ (offset ++ (codes ", and " ++ (after ++ codes " after it"))))
found_record offset after = simp append_assoc

pub found_kind : (kind subkind : List ℕ)
    → (codes "found: data type " ++ (kind ++ (codes ", file type " ++ subkind))) ++ codes "\n"
    ≡ named_line (codes "found") (codes "data type " ++ (kind ++ (codes ", file type " ++ subkind)))
found_kind kind subkind = simp append_assoc

pub found_remains : (offset bytes : List ℕ)
    → codes "found: what is left of a record, at " ++ (offset ++ (codes ", " ++ (bytes ++ codes "\n")))
    ≡ named_line (codes "found") (codes "what is left of a record, at " ++ (offset ++ (codes ", " ++ bytes)))
found_remains offset bytes = simp append_assoc

pub found_grown : (offset bytes returns text : List ℕ)
    → (codes "found: a record at " ++ (offset ++ (codes ", " ++ bytes)))
    ++ (codes " bytes, " ++ (returns ++ (text ++ codes "\n")))
    ≡ named_line (codes "found")
    ((codes "a record at " ++ (offset ++ (codes ", " ++ bytes))) ++ (codes " bytes, " ++ (returns ++ text)))
found_grown offset bytes returns text = simp append_assoc
