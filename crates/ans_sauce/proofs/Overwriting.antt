-- Bytes of a record, at the end of a file, that are written over as many.
use Rattle.std.proofs.Common.{◌≡◌, ℕ, ◌+◌, ◌-◌, ◌≤◌, List, ◌++◌, length, take, drop, ap, ap₂, sym, ◌∙◌, arith}
use Rattle.std.proofs.Common.{append_assoc, length-append}
use Rattle.std.proofs.Math.Seq.{take-add}
use Rattle.std.proofs.lemmas.List.{drop-drop, length-drop, length-take-le}
use Rattle.ans_sauce.specs.Found.{front_in, record_in}
use Rattle.ans_sauce.specs.Fields.{overwritten, with_record}

pub of_record : (file bytes : List ℕ) (offset : ℕ) → 128 ≤ length file
    → overwritten (length file - 128 + offset) bytes file ≡ with_record (overwritten offset bytes (record_in file)) file
of_record file bytes offset long =
    let start : ℕ = length file - 128 in
    let front : take (start + offset) file ≡ take start file ++ take offset (drop start file) =
    take-add start offset file in
    let behind : drop (start + offset + length bytes) file ≡ drop (offset + length bytes) (drop start file) =
    ap (λ (v : ℕ). drop v file) (omega arith) ∙ sym (drop-drop (offset + length bytes) start file) in
    ap₂ (λ (v w : List ℕ). v ++ (bytes ++ w)) front behind
    ∙ append_assoc (take start file) (take offset (drop start file))
    (bytes ++ drop (offset + length bytes) (drop start file))

pub overwritten_length : (offset : ℕ) (bytes file : List ℕ) → offset + length bytes ≤ length file
    → length (overwritten offset bytes file) ≡ length file
overwritten_length offset bytes file within =
    length-append (take offset file) (bytes ++ drop (offset + length bytes) file)
    ∙ ap₂ (λ (v w : ℕ). v + w) (length-take-le offset file (omega (arith, within)))
    (length-append bytes (drop (offset + length bytes) file)
    ∙ ap (λ (v : ℕ). length bytes + v) (length-drop (offset + length bytes) file))
    ∙ omega (arith, within)

-- with another record that is as long
pub recorded_length : (offset : ℕ) (bytes file : List ℕ) → 128 ≤ length file → offset + length bytes ≤ 128
    → length (with_record (overwritten offset bytes (record_in file)) file) ≡ length file
recorded_length offset bytes file long within =
    let record_long : length (record_in file) ≡ 128 = length-drop (length file - 128) file ∙ omega (arith, long) in
    let front_long : length (front_in file) ≡ length file - 128 =
    length-take-le (length file - 128) file (omega arith) in
    let new_long : length (overwritten offset bytes (record_in file)) ≡ 128 =
    overwritten_length offset bytes (record_in file) (rw record_long within) ∙ record_long in
    length-append (front_in file) (overwritten offset bytes (record_in file))
    ∙ omega (arith, long, front_long, new_long)
