-- The offset of a refusal lies within the file or at its end.
use Rattle.std.proofs.lemmas.Bool.{and_parts}
use Rattle.std.proofs.Common.{◌≡◌, ℕ, ◌+◌, ◌-◌, ◌≤◌, Bool, true, false, not, nat_le, List, [], ◌∷◌, length, take, drop}
use Rattle.std.proofs.Common.{codes, refl, arith, length-take, length-drop, Some, bytes_eq, if◌then◌else◌}
use Rattle.std.specs.Prelude.{IfSome}
use Rattle.std.specs.List.{AllByRecursion, position_or_len}
use Rattle.std.proofs.lemmas.List.Sums.{prefix_len-le-length}
use Rattle.ans_model.specs.declared.fault.Fault.{Fault}
use Rattle.ans_model.specs.File.Refusals.{Refusal, fault_at, first_refusal, block_size, has_record, refusals}
use Rattle.ans_model.specs.File.Refusals.{record_fault}
use Rattle.ans_model.specs.File.Record.{comment_count}
use Rattle.ans_model.specs.File.Layout.{content, after_content, is_end_mark}
use Rattle.ans_model.proofs.AcceptedFiles.{le_true}

-- a bound on each refusal's offset is one on the fault's
within_first : (n : ℕ) (rs : List Refusal) → AllByRecursion (λ r. r.offset ≤ n) rs
    → IfSome (first_refusal rs) (λ f. f.offset ≤ n)
within_first n [] h = tt
within_first n (r ∷ rs) h = here r.applies (within_first n rs h.1)
  where
    here : (b : Bool) → IfSome (first_refusal rs) (λ f. f.offset ≤ n)
        → IfSome (if b then Some (fault_at r.offset r.cause) else first_refusal rs) (λ f. f.offset ≤ n)
    here true behind = h.0
    here false behind = behind

-- the first byte that is no end mark lies in the body
content_and_end : (body : List ℕ) → length (content body) + position_or_len (λ b. not (is_end_mark b))
    (after_content body) ≤ length body
content_and_end body =
    let front : length (content body) ≤ length body = simp length-take (omega arith) in
    let behind : position_or_len (λ b. not (is_end_mark b)) (after_content body) ≤ length body - length (content body) =
    rw (← length-drop (length (content body)) body)
    (prefix_len-le-length (λ b. not (not (is_end_mark b))) (after_content body)) in
    omega (arith, front, behind)

-- each refusal of a record has its offset in the file
refusals_within : (n : ℕ) (front record_bytes : List ℕ) → length front + 128 ≡ n
    → AllByRecursion (λ r. r.offset ≤ n) (refusals front record_bytes)
refusals_within n front record_bytes e =
    let body = take (length front - block_size (comment_count record_bytes)) front in
    let short : length body ≤ length front = simp length-take (omega arith) in
    let end : length (content body) + position_or_len (λ b. not (is_end_mark b)) (after_content body) ≤ length body =
    content_and_end body in (
      omega arith,
      (omega arith, (omega arith, (omega arith, (omega arith, (omega arith, (omega (arith, short, end, e), tt)))))),
    )

-- so has each refusal of a file
file_within : (file : List ℕ) (b : Bool) → has_record file ≡ b
    → IfSome (record_fault file) (λ f. f.offset ≤ length file)
file_within file false e = rw e (omega arith)
file_within file true e =
    let long : 128 ≤ length file = le_true 128 (length file)
    (and_parts (nat_le 128 (length file)) (bytes_eq (take 5 (drop (length file - 128) file)) (codes "SAUCE")) e).0 in
    let front : length (take (length file - 128) file) + 128 ≡ length file = simp length-take (omega arith) in
    rw e (within_first (length file) (refusals (take (length file - 128) file) (drop (length file - 128) file))
    (refusals_within (length file) (take (length file - 128) file) (drop (length file - 128) file) front))

-- the offset of a fault of the record lies in the file or at its end
pub refusal_within_file : (file : List ℕ) (f : Fault) → record_fault file ≡ Some f → f.offset ≤ length file
refusal_within_file file f e = rw e at (file_within file (has_record file) refl)
