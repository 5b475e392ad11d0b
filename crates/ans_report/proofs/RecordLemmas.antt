-- The lines of a record.
use Rattle.std.proofs.Common.{◌≡◌, ℕ, ◌+◌, ◌-◌, ◌≤◌, true, suc, zero, List, [], ◌++◌, codes, refl, ap, sym, ◌∙◌}
use Rattle.std.proofs.Common.{arith, append_assoc, append-nil}
use Rattle.std.specs.Prelude.{Option}
use Rattle.ans_model.specs.declared.note.Note.{Note}
use Rattle.ans_model.specs.Text.Characters.{shown_bytes}
use Rattle.ans_model.specs.File.Record.{comment}
use Rattle.ans_model.specs.Text.RecordText.{named_line, comment_lines, record_lines, record_text}
use Rattle.ans_sauce.specs.declared.parts.Parts.{Parts}
use Rattle.ans_sauce.specs.Parts.{ShowsParts, comments_of, notes_of}
use Rattle.ans_report.specs.RecordLines.{parts_text}
use Rattle.ans_write.specs.Puts.{Puts, device_failed}
use Rattle.ans_write.specs.declared.outbox.Outbox.{Outbox}
use Rattle.ans_write.proofs.PutsLemmas.{Puts-same, Puts-then, Puts-longer}
use Rattle.ans_model.specs.File.Layout.{FileParts}

-- the line of the i-th comment
abbrev pub comment_line : List ℕ → ℕ → List ℕ
comment_line comment_bytes i = named_line (codes "comment") (shown_bytes (comment comment_bytes i))

-- the lines of comments are those of the first and those of the others
comment_lines-add : (j m n : ℕ) (bytes : List ℕ)
    → comment_lines j (m + n) bytes ≡ comment_lines j m bytes ++ comment_lines (j + m) n bytes
comment_lines-add j zero n bytes =
    let none : zero + n ≡ n = omega arith in
    let same : j + zero ≡ j = omega arith in
    rw (none, same) refl
comment_lines-add j (suc m) n bytes =
    let one : suc m + n ≡ suc (m + n) = omega arith in
    let next : (j + 1) + m ≡ j + suc m = omega arith in
    let later : comment_lines (j + 1) (m + n) bytes
    ≡ comment_lines (j + 1) m bytes ++ comment_lines (j + suc m) n bytes =
    rw next at (comment_lines-add (j + 1) m n bytes) in
    rw one (ap (λ (rest : List ℕ). comment_line bytes j ++ rest) later
    ∙ sym (append_assoc (comment_line bytes j) (comment_lines (j + 1) m bytes) (comment_lines (j + suc m) n bytes)))

-- one more comment was put
pub comment_put : {W : Type 0} {contents : W → Option (List ℕ)} {a b c : Outbox W} (i : ℕ) (bytes : List ℕ)
    → Puts contents a b (comment_lines 0 i bytes) → Puts contents b c (comment_line bytes i)
    → Puts contents a c (comment_lines 0 (i + 1) bytes)
comment_put i bytes p q =
    let at : 0 + i ≡ i = omega arith in
    let next : comment_lines 0 (i + 1) bytes ≡ comment_lines 0 i bytes ++ comment_line bytes i =
    comment_lines-add 0 i 1 bytes ∙ ap (λ (k : ℕ). comment_lines 0 i bytes ++ (comment_line bytes k ++ [])) at
    ∙ ap (λ (rest : List ℕ). comment_lines 0 i bytes ++ rest) (append-nil (comment_line bytes i)) in
    Puts-same (sym next) (Puts-then p q)

-- once the device has failed, all comments may be said to have been put
pub comments_put : {W : Type 0} {contents : W → Option (List ℕ)} {a b : Outbox W} (i n : ℕ) (bytes : List ℕ) → i ≤ n
    → device_failed b ≡ true
    → Puts contents a b (comment_lines 0 i bytes) → Puts contents a b (comment_lines 0 n bytes)
comments_put i n bytes le failed p =
    let all : i + (n - i) ≡ n = omega arith in
    let split : comment_lines 0 i bytes ++ comment_lines (0 + i) (n - i) bytes ≡ comment_lines 0 n bytes =
    sym (comment_lines-add 0 i (n - i) bytes) ∙ ap (λ (k : ℕ). comment_lines 0 k bytes) all in
    Puts-same split (Puts-longer (comment_lines (0 + i) (n - i) bytes) failed p)

-- the text of what the parts show is the record's
pub parts_text_is : (apart : FileParts) (parts : Parts) → ShowsParts apart parts → parts_text parts ≡ record_text apart
parts_text_is apart parts h =
    ap (λ (r : List ℕ). record_lines r (comments_of parts) (notes_of parts)) h.sauce
    ∙ ap (λ (c : List ℕ). record_lines apart.record_bytes c (notes_of parts)) h.comments
    ∙ ap (λ (ns : List Note). record_lines apart.record_bytes apart.comment_bytes ns) h.notes
