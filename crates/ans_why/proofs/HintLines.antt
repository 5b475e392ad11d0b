-- The lines of hints as they are put, piece by piece.
use Rattle.std.proofs.Common.{◌≡◌, ℕ, true, List, ◌++◌, codes, decimal, sym, ap, ◌∙◌, append_assoc}
use Rattle.std.proofs.lemmas.Bool.{ne_eqb}
use Rattle.ans_model.specs.Text.Characters.{shown_bytes}
use Rattle.ans_why.specs.Fonts.{font_name, has_other_code_page}
use Rattle.ans_why.specs.HintsText.{hint_line, font_line, empty_rows_line}

-- the line of what is counted, by its parts
pub counted_line_is : (before counted advice : List ℕ)
    → codes "hint: " ++ (before ++ (counted ++ (advice ++ codes "\n")))
    ≡ hint_line (before ++ (counted ++ advice))
counted_line_is before counted advice = simp append_assoc

pub font_line_is : (field : List ℕ) → has_other_code_page (font_name field) ≡ true
    → codes "hint: the font "
    ++ (shown_bytes (font_name field) ++ codes " is not a code page 437 font; some characters may look different\n")
    ≡ font_line field
font_line_is field other =
    let name = font_name field in
    rw other (sym (append_assoc (codes "hint: the font ")
    (shown_bytes name ++ codes " is not a code page 437 font; some characters may look different") (codes "\n")
    ∙ ap (λ (v : List ℕ). codes "hint: the font " ++ v)
    (append_assoc (shown_bytes name) (codes " is not a code page 437 font; some characters may look different")
    (codes "\n"))))

pub empty_rows_line_is : (rows : ℕ) → (rows ≡ 0 → ⊥) → (rows ≡ 1 → ⊥)
    → codes "hint: the last " ++ (decimal rows ++ codes " lines are empty\n") ≡ empty_rows_line rows
empty_rows_line_is rows some more =
    rw (ne_eqb rows 0 some, ne_eqb rows 1 more)
    (ap (λ (v : List ℕ). codes "hint: the last " ++ v)
    (sym (append_assoc (decimal rows) (codes " lines are empty") (codes "\n"))))

pub wider_line_is : (counted columns : List ℕ)
    → codes "hint: "
    ++ (counted
    ++ (codes "; they need at least " ++ (columns ++ (codes " columns: --columns " ++ (columns ++ codes "\n")))))
    ≡ hint_line (counted
    ++ (codes "; they need at least " ++ (columns ++ (codes " columns: --columns " ++ columns))))
wider_line_is counted columns = simp append_assoc

pub fitting_line_is : (width lines words : List ℕ)
    → codes "hint: with "
    ++ (width ++ (codes " columns the " ++ (lines ++ (words ++ (width ++ codes "\n")))))
    ≡ hint_line (codes "with " ++ (width ++ (codes " columns the " ++ (lines ++ (words ++ width)))))
fitting_line_is width lines words = simp append_assoc

pub exchanged_line_is : (columns lines : List ℕ)
    → codes "hint: columns and lines may be exchanged in the record: --columns "
    ++ (columns ++ (codes " --lines " ++ (lines ++ codes "\n")))
    ≡ hint_line (codes "columns and lines may be exchanged in the record: --columns "
    ++ (columns ++ (codes " --lines " ++ lines)))
exchanged_line_is columns lines = simp append_assoc
