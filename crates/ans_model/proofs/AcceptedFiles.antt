-- A file is accepted exactly where it has no fault.
use Rattle.std.proofs.lemmas.Bool.{and_from, and_parts}
use Rattle.std.proofs.Common.{◌≡◌, ℕ, ◌+◌, ◌-◌, ◌*◌, ◌≤◌, Bool, true, false, not, ◌&&◌, ◌==◌, nat_lt, nat_le, List}
use Rattle.std.proofs.Common.{[], ◌++◌, length, take, drop, codes, refl, ap, ap₂, sym, ◌∙◌, arith, append_assoc}
use Rattle.std.proofs.Common.{length-append, length-drop, Option, Some, None, bytes_eq, if◌then◌else◌}
use Rattle.std.proofs.lemmas.Bool.Decides.{nat_tests}
use Rattle.std.proofs.lemmas.Slice.Eq.{bytes_eq-Decides}
use Rattle.std.proofs.lemmas.List.{take-append-drop, nil_from_length, append-nil, append_cancel_left}
use Rattle.std.proofs.Math.Seq.{drop-append_seam, take-append_seam, take-length}
use Rattle.ans_model.specs.Bytes.{most_columns, most_lines}
use Rattle.ans_model.specs.declared.fault.Fault.{Fault}
use Rattle.ans_model.specs.File.Record.{version_field, data_type, file_type, tinfo, comment_count}
use Rattle.ans_model.specs.File.Layout.{FileParts, file_parts, Laid, comment_block, is_clean_end}
use Rattle.ans_model.specs.File.Refusals.{first_refusal, block_size, has_block, has_record, refusals, record_fault}
use Rattle.ans_model.specs.File.Refusals.{Accepts}

-- the first does not apply, and none after it
not_first : (b : Bool) (f : Fault) (r : Option Fault) → (if b then Some f else r) ≡ None → (b ≡ false) × (r ≡ None)
not_first true f r e = absurd (some_none f e)
  where
    some_none : (g : Fault) → Some g ≡ None → ⊥
    some_none g h = cc
not_first false f r e = (refl, e)

not_false : (b : Bool) → not b ≡ false → b ≡ true
not_false true h = refl
not_false false h = cc

not_true : (b : Bool) → b ≡ true → not b ≡ false
not_true true h = refl
not_true false h = cc

same_bytes : (a b : List ℕ) → bytes_eq a b ≡ true → a ≡ b
same_bytes a b h = (bytes_eq-Decides a b).0 h

equal_bytes : (a b : List ℕ) → a ≡ b → bytes_eq a b ≡ true
equal_bytes a b h = (bytes_eq-Decides a b).1 h

eq_true : (a b : ℕ) → (a == b) ≡ true → a ≡ b
eq_true a b h = grind (arith, nat_tests)

eq_from : (a b : ℕ) → a ≡ b → (a == b) ≡ true
eq_from a b h = grind (arith, nat_tests)

zero_false : (a : ℕ) → (a == 0) ≡ false → 1 ≤ a
zero_false a h = grind (arith, nat_tests)

nonzero_false : (a : ℕ) → 1 ≤ a → (a == 0) ≡ false
nonzero_false a h = grind (arith, nat_tests)

lt_false : (a b : ℕ) → nat_lt a b ≡ false → b ≤ a
lt_false a b h = grind (arith, nat_tests)

not_lt : (a b : ℕ) → b ≤ a → nat_lt a b ≡ false
not_lt a b h = grind (arith, nat_tests)

pub le_true : (a b : ℕ) → nat_le a b ≡ true → a ≤ b
le_true a b h = grind (arith, nat_tests)

le_from : (a b : ℕ) → a ≤ b → nat_le a b ≡ true
le_from a b h = grind (arith, nat_tests)

-- where there is a block, the front is a body and the block
record Cut (n : ℕ) (front : List ℕ) : Type 0 where
  comment_bytes : List ℕ
  size : length comment_bytes ≡ 64 * n
  whole : front ≡ take (length front - block_size n) front ++ comment_block n comment_bytes

-- a front that has a block ends in one
block_cut : (c : Bool) (n : ℕ) (front : List ℕ) → (n == 0) ≡ c → has_block n front ≡ true → Cut n front
block_cut true n front e h =
    let zero : n ≡ 0 = eq_true n 0 e in
    let all : length front - 0 ≡ length front = omega arith in
    record {
      comment_bytes = [];
      size = rw zero refl;
      whole = rw e
          (sym (append-nil (take (length front - 0) front) ∙ ap (λ (v : ℕ). take v front) all ∙ take-length front));
    }
block_cut false n front e h =
    let at = length front - (5 + 64 * n) in
    let block = drop at front in
    let t = and_parts (nat_le (5 + 64 * n) (length front)) (bytes_eq (take 5 block) (codes "COMNT")) (rw e at h) in
    let fits : 5 + 64 * n ≤ length front = le_true (5 + 64 * n) (length front) t.0 in
    let id : take 5 block ≡ codes "COMNT" = same_bytes (take 5 block) (codes "COMNT") t.1 in
    record {
      comment_bytes = drop 5 block;
      size = simp (length-drop) (omega arith);
      whole = rw e
          (sym (ap (λ (v : List ℕ). take at front ++ v)
          (ap (λ (v : List ℕ). v ++ drop 5 block) (sym id) ∙ take-append-drop 5 block) ∙ take-append-drop at front));
    }

-- what a file is where none of the refusals applies
none_applies : (front record_bytes : List ℕ) → first_refusal (refusals front record_bytes) ≡ None →
    (version_field record_bytes ≡ codes "00") × (data_type record_bytes ≡ 1) × (file_type record_bytes ≡ 1)
    × (has_block (comment_count record_bytes) front ≡ true) × (1 ≤ tinfo 2 record_bytes)
    × (tinfo 1 record_bytes ≤ most_columns) × (tinfo 2 record_bytes ≤ most_lines)
    × (is_clean_end (take (length front - block_size (comment_count record_bytes)) front) ≡ true)
none_applies front record_bytes h =
    let at = length front in
    let body = take (at - block_size (comment_count record_bytes)) front in
    let t2 = not_first (not (bytes_eq (version_field record_bytes) (codes "00"))) _ _ h in
    let t3 = not_first (not (data_type record_bytes == 1 && file_type record_bytes == 1)) _ _ t2.1 in
    let t4 = not_first (not (has_block (comment_count record_bytes) front)) _ _ t3.1 in
    let t5 = not_first (tinfo 2 record_bytes == 0) _ _ t4.1 in
    let t6 = not_first (nat_lt most_columns (tinfo 1 record_bytes)) _ _ t5.1 in
    let t7 = not_first (nat_lt most_lines (tinfo 2 record_bytes)) _ _ t6.1 in
    let t8 = not_first (not (is_clean_end body)) _ _ t7.1 in
    let kinds = and_parts (data_type record_bytes == 1) (file_type record_bytes == 1)
    (not_false (data_type record_bytes == 1 && file_type record_bytes == 1) t3.0) in (
      same_bytes (version_field record_bytes) (codes "00")
          (not_false (bytes_eq (version_field record_bytes) (codes "00")) t2.0),
      eq_true (data_type record_bytes) 1 kinds.0,
      eq_true (file_type record_bytes) 1 kinds.1,
      not_false (has_block (comment_count record_bytes) front) t4.0,
      zero_false (tinfo 2 record_bytes) t5.0,
      lt_false most_columns (tinfo 1 record_bytes) t6.0,
      lt_false most_lines (tinfo 2 record_bytes) t7.0,
      not_false (is_clean_end body) t8.0,
    )

-- A file without a fault of its record is accepted.
pub accepted : (file : List ℕ) → record_fault file ≡ None → (parts : FileParts) × Accepts file parts
accepted file h =
    let at = length file - 128 in
    let record_bytes = drop at file in
    let front = take at file in
    let n = comment_count record_bytes in
    let t1 = not_first (not (has_record file)) _ _ h in
    let first = and_parts (nat_le 128 (length file)) (bytes_eq (take 5 record_bytes) (codes "SAUCE"))
    (not_false (has_record file) t1.0) in
    let long : 128 ≤ length file = le_true 128 (length file) first.0 in
    let facts = none_applies front record_bytes t1.1 in
    let cut = block_cut (n == 0) n front refl facts.3 in (
      file_parts (take (length front - block_size n) front) cut.comment_bytes record_bytes,
      record {
        laid = record {
          size = simp length-drop (omega arith);
          id = same_bytes (take 5 record_bytes) (codes "SAUCE") first.1;
          comments = cut.size;
          whole = sym (take-append-drop at file) ∙ ap (λ (v : List ℕ). v ++ record_bytes) cut.whole
              ∙ append_assoc (take (length front - block_size n) front)
              (comment_block n cut.comment_bytes) record_bytes;
        };
        version_00 = facts.0;
        character = facts.1;
        ansi = facts.2;
        lines_stated = facts.4;
        width_in_limit = facts.5;
        lines_in_limit = facts.6;
        clean_end = facts.7;
      },
    )

-- the front of a file that is laid out: its block is found, and its body
record Found (n : ℕ) (body front : List ℕ) : Type 0 where
  has : has_block n front ≡ true
  body_is : take (length front - block_size n) front ≡ body

-- the block of a front is found, and its body
block_found : (c : Bool) (n : ℕ) (body comment_bytes : List ℕ) → (n == 0) ≡ c → length comment_bytes ≡ 64 * n
    → Found n body (body ++ comment_block n comment_bytes)
block_found true n body comment_bytes e s =
    let all : length body - 0 ≡ length body = omega arith in
    record {
      has = rw e;
      body_is = rw (e, append-nil) (ap (λ (v : ℕ). take v body) all ∙ take-length body);
    }
block_found false n body comment_bytes e s =
    let block = codes "COMNT" ++ comment_bytes in
    let size : length (body ++ block) ≡ length body + (5 + 64 * n) =
    length-append body block ∙ ap (λ (v : ℕ). length body + v) (omega (arith, s)) in
    let at : length (body ++ block) - (5 + 64 * n) ≡ length body = omega (arith, size) in
    let fits : nat_le (5 + 64 * n) (length (body ++ block)) ≡ true =
    le_from (5 + 64 * n) (length (body ++ block)) (omega (arith, size)) in
    let there : drop (length (body ++ block) - (5 + 64 * n)) (body ++ block) ≡ block =
    ap (λ (v : ℕ). drop v (body ++ block)) at ∙ drop-append_seam body block in
    let id : bytes_eq (take 5 (drop (length (body ++ block) - (5 + 64 * n)) (body ++ block))) (codes "COMNT") ≡ true =
    equal_bytes (take 5 (drop (length (body ++ block) - (5 + 64 * n)) (body ++ block))) (codes "COMNT")
    (ap (λ (v : List ℕ). take 5 v) there) in
    record {
      has = rw e (and_from (nat_le (5 + 64 * n) (length (body ++ block)))
          (bytes_eq (take 5 (drop (length (body ++ block) - (5 + 64 * n)) (body ++ block))) (codes "COMNT")) fits id);
      body_is = rw e (ap (λ (v : ℕ). take v (body ++ block)) at ∙ take-append_seam body block);
    }

-- no refusal applies to a file that is accepted
no_refusals : (file front : List ℕ) (parts : FileParts) → Accepts file parts
    → front ≡ parts.body ++ comment_block (comment_count parts.record_bytes) parts.comment_bytes
    → first_refusal (refusals front parts.record_bytes) ≡ None
no_refusals file front parts h e =
    let body = parts.body in
    let comment_bytes = parts.comment_bytes in
    let record_bytes = parts.record_bytes in
    let n = comment_count record_bytes in
    let f : Found n body front = rw e (block_found (n == 0) n body comment_bytes refl h.laid.comments) in
    let clean : is_clean_end (take (length front - block_size n) front) ≡ true =
    ap is_clean_end f.body_is ∙ h.clean_end in
    let t2 : not (bytes_eq (version_field record_bytes) (codes "00")) ≡ false =
    not_true (bytes_eq (version_field record_bytes) (codes "00"))
    (equal_bytes (version_field record_bytes) (codes "00") h.version_00) in
    let t3 : not (data_type record_bytes == 1 && file_type record_bytes == 1) ≡ false =
    not_true (data_type record_bytes == 1 && file_type record_bytes == 1)
    (and_from (data_type record_bytes == 1) (file_type record_bytes == 1)
    (eq_from (data_type record_bytes) 1 h.character) (eq_from (file_type record_bytes) 1 h.ansi)) in
    let t4 : not (has_block n front) ≡ false = not_true (has_block n front) f.has in
    let t5 : (tinfo 2 record_bytes == 0) ≡ false = nonzero_false (tinfo 2 record_bytes) h.lines_stated in
    let t6 : nat_lt most_columns (tinfo 1 record_bytes) ≡ false =
    not_lt most_columns (tinfo 1 record_bytes) h.width_in_limit in
    let t7 : nat_lt most_lines (tinfo 2 record_bytes) ≡ false =
    not_lt most_lines (tinfo 2 record_bytes) h.lines_in_limit in
    let t8 : not (is_clean_end (take (length front - block_size n) front)) ≡ false =
    not_true (is_clean_end (take (length front - block_size n) front)) clean in
    rw (t2, t3, t4, t5, t6, t7, t8)

-- the last 128 bytes of a file that is laid out, and what stands before them
pub record Cuts (file front record_bytes : List ℕ) : Type 0 where
  pub front_is : take (length file - 128) file ≡ front
  pub sauce_is : drop (length file - 128) file ≡ record_bytes
  pub long : 128 ≤ length file

-- the last 128 bytes are the record
last_bytes_are_record : (file : List ℕ) (parts : FileParts) → Laid file parts
    → Cuts file (parts.body ++ comment_block (comment_count parts.record_bytes) parts.comment_bytes) parts.record_bytes
last_bytes_are_record file parts h =
    let body = parts.body in
    let comment_bytes = parts.comment_bytes in
    let record_bytes = parts.record_bytes in
    let n = comment_count record_bytes in
    let front = body ++ comment_block n comment_bytes in
    let joined : file ≡ front ++ record_bytes = h.whole ∙ sym
    (append_assoc body (comment_block n comment_bytes) record_bytes) in
    let size : length record_bytes ≡ 128 = h.size in
    let whole : length file ≡ length front + 128 = ap length joined ∙ length-append front record_bytes
    ∙ ap (λ (v : ℕ). length front + v) size in
    let at : length file - 128 ≡ length front = omega (arith, whole) in
    record {
      front_is = ap₂ (λ (v : ℕ) (w : List ℕ). take v w) at joined ∙ take-append_seam front record_bytes;
      sauce_is = ap₂ (λ (v : ℕ) (w : List ℕ). drop v w) at joined ∙ drop-append_seam front record_bytes;
      long = omega (arith, whole);
    }

-- A file that is accepted has no fault of its record.
pub no_fault : (file : List ℕ) (parts : FileParts) → Accepts file parts → record_fault file ≡ None
no_fault file parts h =
    let front = parts.body ++ comment_block (comment_count parts.record_bytes) parts.comment_bytes in
    let cut = last_bytes_are_record file parts h.laid in
    let id : bytes_eq (take 5 (drop (length file - 128) file)) (codes "SAUCE") ≡ true =
    equal_bytes (take 5 (drop (length file - 128) file)) (codes "SAUCE")
    (ap (λ (v : List ℕ). take 5 v) cut.sauce_is ∙ h.laid.id) in
    let t1 : not (has_record file) ≡ false =
    not_true (has_record file) (and_from (nat_le 128 (length file))
    (bytes_eq (take 5 (drop (length file - 128) file)) (codes "SAUCE")) (le_from 128 (length file) cut.long) id) in
    rw t1
    (ap₂ (λ (v w : List ℕ). first_refusal (refusals v w)) cut.front_is cut.sauce_is
    ∙ no_refusals file front parts h refl)

-- the comment_bytes are what the block says
block_comments : (c : Bool) (n : ℕ) (xs ys : List ℕ) → (n == 0) ≡ c → length xs ≡ 64 * n → length ys ≡ 64 * n
    → comment_block n xs ≡ comment_block n ys → xs ≡ ys
block_comments true n xs ys e hx hy h =
    let zero : n ≡ 0 = eq_true n 0 e in
    nil_from_length xs (omega (arith, hx)) ∙ sym (nil_from_length ys (omega (arith, hy)))
block_comments false n xs ys e hx hy h = ap (λ (v : List ℕ). drop 5 v) (rw e at h)

-- A file is laid out in one way at most.
pub one_layout : (file : List ℕ) (p q : FileParts) → Laid file p → Laid file q → p ≡ q
one_layout file p q h g =
    let a = last_bytes_are_record file p h in
    let b = last_bytes_are_record file q g in
    let same : p.record_bytes ≡ q.record_bytes = sym a.sauce_is ∙ b.sauce_is in
    let n = comment_count p.record_bytes in
    let count : comment_count q.record_bytes ≡ n = ap comment_count (sym same) in
    let size : length q.comment_bytes ≡ 64 * n = g.comments ∙ ap (λ (v : ℕ). 64 * v) count in
    let fronts : p.body ++ comment_block n p.comment_bytes ≡ q.body ++ comment_block n q.comment_bytes =
    sym a.front_is ∙ b.front_is ∙ ap (λ (v : ℕ). q.body ++ comment_block v q.comment_bytes) count in
    let one = (block_found (n == 0) n p.body p.comment_bytes refl h.comments).body_is in
    let two = (block_found (n == 0) n q.body q.comment_bytes refl size).body_is in
    let bodies : p.body ≡ q.body = sym one ∙ ap (λ (v : List ℕ). take (length v - block_size n) v) fronts ∙ two in
    let blocks : comment_block n p.comment_bytes ≡ comment_block n q.comment_bytes =
    append_cancel_left q.body (comment_block n p.comment_bytes) (comment_block n q.comment_bytes)
    (ap (λ (v : List ℕ). v ++ comment_block n p.comment_bytes) (sym bodies) ∙ fronts) in
    let comments : p.comment_bytes ≡ q.comment_bytes =
    block_comments (n == 0) n p.comment_bytes q.comment_bytes refl h.comments size blocks in
    ap (λ (v : List ℕ). file_parts v p.comment_bytes p.record_bytes) bodies
    ∙ ap₂ (λ (v w : List ℕ). file_parts q.body v w) comments same
