-- A file is split as it is laid out, or gets its first refusal.
use Rattle.std.proofs.lemmas.Bool.{and_parts}
use Rattle.std.proofs.Common.{◌≡◌, ℕ, suc, ◌+◌, ◌-◌, ◌*◌, ◌≤◌, ◌<◌, Bool, true, false, not, ◌&&◌, ◌||◌, ◌==◌, nat_lt}
use Rattle.std.proofs.Common.{List, [], ◌∷◌, ◌++◌, length, take, drop, codes, refl, ap, ap₂, sym, ◌∙◌, arith}
use Rattle.std.proofs.Common.{append_assoc, length-append, length-drop, bytes_eq, nat_le, Option, Some, None}
use Rattle.std.proofs.Common.{if◌then◌else◌, cond, unwrap_or, slice_index}
use Rattle.std.specs.Prelude.{is_some}
use Rattle.std.specs.List.{list_any, list_all, position, position_or_len}
use Rattle.std.proofs.lemmas.Bool.Decides.{nat_tests}
use Rattle.std.proofs.lemmas.Slice.Eq.{bytes_eq-Decides}
use Rattle.std.proofs.lemmas.List.{append-nil, take-append-drop}
use Rattle.std.proofs.lemmas.List.Sums.{position_or_len_is, prefix_len-le-length}
use Rattle.std.proofs.lemmas.List.Folds.{length-prefix_len}
use Rattle.std.proofs.Math.Seq.{take-append_seam, take-length}
use Rattle.ans_model.specs.declared.fault.Fault.{Fault}
use Rattle.ans_model.specs.declared.fault.Cause.TheVariants.{CommentsMissing, BytesAfterEndMark}
use Rattle.ans_model.specs.File.Record.{version_field, data_type, file_type, comment_count}
use Rattle.ans_model.specs.File.Layout.{FileParts, file_parts, Laid, comment_block, content, after_content}
use Rattle.ans_model.specs.File.Layout.{is_end_mark, is_clean_end}
use Rattle.ans_model.specs.File.Refusals.{Refusal, first_refusal, fault_at, refused_if, block_size, has_block}
use Rattle.ans_model.specs.File.Refusals.{refusals, record_fault, Accepts}
use Rattle.ans_model.proofs.AcceptedFiles.{accepted, one_layout, le_true}
use Rattle.memchr.specs.Find.{IsFirstByte}
use Rattle.ans_sauce.specs.Split.{EndsInRecord, IsCut, PassesRecord, record_refusals}

same_bytes : (a b : List ℕ) → bytes_eq a b ≡ true → a ≡ b
same_bytes a b h = (bytes_eq-Decides a b).0 h

-- ---- the first element that passes a test
first_or_length : {X : Type 0} (p : X → Bool) (xs : List X) → position_or_len p xs ≤ length xs
first_or_length p xs = prefix_len-le-length (λ x. not (p x)) xs

unwrapped_or : (b : Bool) (n m : ℕ) → nat_lt n m ≡ b → n ≤ m → unwrap_or (cond b (Some n) None) m ≡ n
unwrapped_or true n m e h = refl
unwrapped_or false n m e h = grind (arith, nat_tests)

none_passes : (b : Bool) → (b ≡ true → ⊥) → b ≡ false
none_passes true h = absurd (h refl)
none_passes false h = refl

nat_lt-true : (n m : ℕ) → n < m → nat_lt n m ≡ true
nat_lt-true n m h = grind (arith, nat_tests)

nat_lt-false : (n : ℕ) → nat_lt n n ≡ false
nat_lt-false n = grind (arith, nat_tests)

position_at : (p : ℕ → Bool) (xs : List ℕ) (k : ℕ) → position_or_len p xs ≡ k → k < length xs → position p xs ≡ Some k
position_at p xs k same lt = rw (same, nat_lt-true k (length xs) lt) refl

no_position : (p : ℕ → Bool) (xs : List ℕ) → position_or_len p xs ≡ length xs → position p xs ≡ None
no_position p xs same = rw (same, nat_lt-false (length xs)) refl

-- the first place whose byte passes is the position
pub first_is_position : (p : ℕ → Bool) (xs : List ℕ) (r : Option ℕ) → IsFirstByte p xs r → r ≡ position p xs
first_is_position p xs None h = sym (no_position p xs
    (position_or_len_is p xs (length xs) 0 (omega arith)
    (λ k lt. none_passes (p (slice_index xs k)) (h k (omega arith) lt)) (λ lt. absurd (omega (arith, lt)))))
first_is_position p xs (Some k) h = sym (position_at p xs k
    (position_or_len_is p xs k 0 (omega (arith, h.0.high))
    (λ j lt. none_passes (p (slice_index xs j)) (h.0.before j (omega arith) lt)) (λ lt. h.1))
    h.0.high)

position-or_length : (p : ℕ → Bool) (xs : List ℕ) → unwrap_or (position p xs) (length xs) ≡ position_or_len p xs
position-or_length p xs = unwrapped_or (nat_lt (position_or_len p xs) (length xs)) (position_or_len p xs)
    (length xs) refl (first_or_length p xs)

-- where the content ends
pub end_of_content : (body : List ℕ) (place : Option ℕ) (n : ℕ) → place ≡ position is_end_mark body
    → n ≡ unwrap_or place (length body) → n ≡ position_or_len is_end_mark body
end_of_content body place n p e = e ∙ ap (λ (v : Option ℕ). unwrap_or v (length body)) p
    ∙ position-or_length is_end_mark body

pub length-content : (body : List ℕ) → length (content body) ≡ position_or_len is_end_mark body
length-content body = length-prefix_len (λ b. not (is_end_mark b)) body

-- some element passes exactly where the first that does stands before the end
any_is_first : (p : ℕ → Bool) (xs : List ℕ) → list_any p xs ≡ nat_lt (position_or_len p xs) (length xs)
any_is_first p [] = refl
any_is_first p (x ∷ xs) = here (p x) (any_is_first p xs)
  where
    here : (b : Bool) → list_any p xs ≡ nat_lt (position_or_len p xs) (length xs)
        → (b || list_any p xs) ≡ nat_lt (cond (not b) (1 + position_or_len p xs) 0) (length (x ∷ xs))
    here true more = grind (arith, nat_tests)
    here false more = more ∙ grind (arith, nat_tests)

-- there is an end mark exactly where the content is not the whole body
pub any_end_mark : (body front : List ℕ) → front ≡ content body
    → not (length front == length body) ≡ list_any is_end_mark body
any_end_mark body front e =
    let size : length front ≡ position_or_len is_end_mark body = ap length e ∙ length-content body in
    let within : position_or_len is_end_mark body ≤ length body = first_or_length is_end_mark body in
    rw size (shorter (position_or_len is_end_mark body) (length body) within ∙ sym (any_is_first is_end_mark body))
  where
    shorter : (n m : ℕ) → n ≤ m → not (n == m) ≡ nat_lt n m
    shorter n m h = grind (arith, nat_tests)

lt-suc : (n m : ℕ) → nat_lt n m ≡ nat_lt (1 + n) (suc m)
lt-suc n m = grind (arith, nat_tests)

zero-lt : (m : ℕ) → false ≡ not (nat_lt 0 (suc m))
zero-lt m = grind (arith, nat_tests)

-- all pass exactly where none fails before the end
all_is_first : (p : ℕ → Bool) (xs : List ℕ)
    → list_all p xs ≡ not (nat_lt (position_or_len (λ x. not (p x)) xs) (length xs))
all_is_first p [] = refl
all_is_first p (x ∷ xs) = here (p x) (all_is_first p xs)
  where
    here : (b : Bool) → list_all p xs ≡ not (nat_lt (position_or_len (λ x. not (p x)) xs) (length xs))
        → (b && list_all p xs) ≡ not (nat_lt (cond (not (not b)) (1 + position_or_len (λ x. not (p x)) xs) 0)
        (length (x ∷ xs)))
    here true more = more ∙ ap not (lt-suc (position_or_len (λ x. not (p x)) xs) (length xs))
    here false more = zero-lt (length xs)

-- the first that fails, and where it stands
record FirstFails (p : ℕ → Bool) (xs : List ℕ) (i : ℕ) : Type 0 where
  fails : list_all p xs ≡ false
  place : position_or_len (λ x. not (p x)) xs ≡ i

first_fails : (p : ℕ → Bool) (xs : List ℕ) (i : ℕ) → position (λ x. not (p x)) xs ≡ Some i → FirstFails p xs i
first_fails p xs i e = here (nat_lt (position_or_len (λ x. not (p x)) xs) (length xs)) refl e
  where
    here : (b : Bool) → nat_lt (position_or_len (λ x. not (p x)) xs) (length xs) ≡ b
        → cond b (Some (position_or_len (λ x. not (p x)) xs)) None ≡ Some i → FirstFails p xs i
    here true t s = record { fails = all_is_first p xs ∙ ap not t; place = cc }
    here false t s = absurd (cc)

none_fails : (p : ℕ → Bool) (xs : List ℕ) → position (λ x. not (p x)) xs ≡ None → list_all p xs ≡ true
none_fails p xs e = here (nat_lt (position_or_len (λ x. not (p x)) xs) (length xs)) refl e
  where
    here : (b : Bool) → nat_lt (position_or_len (λ x. not (p x)) xs) (length xs) ≡ b
        → cond b (Some (position_or_len (λ x. not (p x)) xs)) None ≡ None → list_all p xs ≡ true
    here true t s = cc
    here false t s = all_is_first p xs ∙ ap not t

-- there is one that fails, or all pass
pub pass_by_place : (p : ℕ → Bool) (xs : List ℕ) (place : Option ℕ) (fails : Bool)
    → place ≡ position (λ x. not (p x)) xs → is_some place ≡ fails → list_all p xs ≡ not fails
pass_by_place p xs None fails at some = rw (← some) (none_fails p xs (sym at))
pass_by_place p xs (Some i) fails at some = rw (← some) (first_fails p xs i (sym at)).fails

-- ---- the first refusal of several lists of them
first_of_both : (rs more : List Refusal) (f : Fault) → first_refusal rs ≡ Some f → first_refusal (rs ++ more) ≡ Some f
first_of_both [] more f e = cc
first_of_both (r ∷ rs) more f e = here r.applies (first_of_both rs more f) e
  where
    here : (b : Bool) → (first_refusal rs ≡ Some f → first_refusal (rs ++ more) ≡ Some f)
        → (if b then Some (fault_at r.offset r.cause) else first_refusal rs) ≡ Some f
        → (if b then Some (fault_at r.offset r.cause) else first_refusal (rs ++ more)) ≡ Some f
    here true behind s = s
    here false behind s = behind s

-- where none of the first refusals applies, it is the first of the others
first_of_rest : (rs more : List Refusal) → first_refusal rs ≡ None → first_refusal (rs ++ more) ≡ first_refusal more
first_of_rest [] more e = refl
first_of_rest (r ∷ rs) more e = here r.applies (first_of_rest rs more) e
  where
    here : (b : Bool) → (first_refusal rs ≡ None → first_refusal (rs ++ more) ≡ first_refusal more)
        → (if b then Some (fault_at r.offset r.cause) else first_refusal rs) ≡ None
        → (if b then Some (fault_at r.offset r.cause) else first_refusal (rs ++ more)) ≡ first_refusal more
    here true behind s = cc
    here false behind s = behind s

-- F4
pub block_missing : (n : ℕ) (front r : List ℕ) → bytes_eq (version_field r) (codes "00") ≡ true
    → (data_type r == 1 && file_type r == 1) ≡ true → n ≡ comment_count r → has_block n front ≡ false
    → first_refusal (record_refusals front r) ≡ Some (fault_at (length front + 104) CommentsMissing)
block_missing n front r version kind count missing =
    let none : has_block (comment_count r) front ≡ false = ap (λ (v : ℕ). has_block v front) (sym count) ∙ missing in
    rw (version, kind, none) refl

-- ---- a file with a record
-- the last refusal, F8
end_refusal : List ℕ → Refusal
end_refusal body = refused_if (not (is_clean_end body))
    (length (content body) + position_or_len (λ b. not (is_end_mark b)) (after_content body)) BytesAfterEndMark

-- the body of a front, by what the record counts
body_of : List ℕ → List ℕ → List ℕ
body_of front r = take (length front - block_size (comment_count r)) front

-- the refusals of a record are the first six and then F8
refusals_split : (front r : List ℕ) → refusals front r ≡ record_refusals front r ++ end_refusal (body_of front r) ∷ []
unfolding end_refusal body_of
refusals_split front r = refl

-- a file with a record gets the first of its refusals
fault_of_refusals : (file front r : List ℕ) → EndsInRecord file front r
    → record_fault file ≡ first_refusal (refusals front r)
fault_of_refusals file front r h = rw (h.found, h.front_is, h.record_is) refl

-- F2 to F7
pub refused_by_record : (file front r : List ℕ) (f : Fault) → EndsInRecord file front r
    → first_refusal (record_refusals front r) ≡ Some f → record_fault file ≡ Some f
refused_by_record file front r f h e =
    fault_of_refusals file front r h ∙ ap first_refusal (refusals_split front r)
    ∙ first_of_both (record_refusals front r) (end_refusal (body_of front r) ∷ []) f e

-- the body is what stands before the block
cut_body : (b : Bool) (n : ℕ) (front body comment_bytes : List ℕ) → (n == 0) ≡ b → IsCut n front body comment_bytes
    → take (length front - block_size n) front ≡ body
cut_body true n front body comment_bytes e h =
    let bare : front ≡ body = h.whole ∙ rw e (append-nil body) in
    let all : length front - 0 ≡ length front = omega arith in
    rw e (ap (λ (v : ℕ). take v front) all ∙ take-length front ∙ bare)
cut_body false n front body comment_bytes e h =
    let block = codes "COMNT" ++ comment_bytes in
    let whole : front ≡ body ++ block = h.whole ∙ rw e refl in
    let size : length front ≡ length body + (5 + 64 * n) = ap length whole ∙ length-append body block
    ∙ ap (λ (v : ℕ). length body + v) (omega (arith, h.comments)) in
    let at : length front - (5 + 64 * n) ≡ length body = omega (arith, size) in
    rw e (ap₂ (λ (v : ℕ) (w : List ℕ). take v w) at whole ∙ take-append_seam body block)

-- the body that was cut off is that of the front
body_is : (front body comment_bytes r : List ℕ) → IsCut (comment_count r) front body comment_bytes
    → body_of front r ≡ body
unfolding body_of
body_is front body comment_bytes r h = cut_body (comment_count r == 0) (comment_count r) front body comment_bytes refl h

-- ---- a file whose record passes
module _ (file front body comment_bytes r rest : List ℕ) (there : EndsInRecord file front r)
    (passes : PassesRecord front r body comment_bytes) (rest_is : rest ≡ after_content body) where
  -- the last refusal decides
  last_refusal : record_fault file ≡ first_refusal (end_refusal body ∷ [])
  last_refusal =
      fault_of_refusals file front r there ∙ ap first_refusal (refusals_split front r)
      ∙ first_of_rest (record_refusals front r) (end_refusal (body_of front r) ∷ []) passes.none
      ∙ ap (λ (v : List ℕ). first_refusal (end_refusal v ∷ [])) (body_is front body comment_bytes r passes.cut)

  -- F8
  pub refused_at_end : (before_mark : List ℕ) (i : ℕ) → before_mark ≡ content body
      → Some i ≡ position (λ b. not (is_end_mark b)) rest
      → record_fault file ≡ Some (fault_at (length before_mark + i) BytesAfterEndMark)
  unfolding end_refusal
  refused_at_end before_mark i content_is place =
      let e : FirstFails is_end_mark (after_content body) i = first_fails is_end_mark (after_content body) i
      (ap (λ (v : List ℕ). position (λ b. not (is_end_mark b)) v) (sym rest_is) ∙ sym place) in
      last_refusal ∙ rw (e.fails, e.place, content_is) refl

  -- a body with a clean end is not refused
  no_refusal : is_clean_end body ≡ true → record_fault file ≡ None
  unfolding end_refusal
  no_refusal e = last_refusal ∙ rw e refl

  -- the file is laid out so
  laid_out : Laid file (file_parts body comment_bytes r)
  laid_out =
      let found = and_parts (nat_le 128 (length file))
      (bytes_eq (take 5 (drop (length file - 128) file)) (codes "SAUCE")) there.found in
      let long : 128 ≤ length file = le_true 128 (length file) found.0 in
      record {
        size = ap length there.record_is ∙ simp length-drop (omega arith);
        id = ap (λ (v : List ℕ). take 5 v) there.record_is ∙ same_bytes (take 5 (drop (length file - 128) file))
            (codes "SAUCE") found.1;
        comments = passes.cut.comments;
        whole = sym (take-append-drop (length file - 128) file)
            ∙ ap₂ (λ (v w : List ℕ). v ++ w) (sym there.front_is ∙ passes.cut.whole) (sym there.record_is)
            ∙ append_assoc body (comment_block (comment_count r) comment_bytes) r;
      }

  -- no refusal applies
  pub accepts : None ≡ position (λ b. not (is_end_mark b)) rest → Accepts file (file_parts body comment_bytes r)
  accepts end =
      let clean : is_clean_end body ≡ true = none_fails is_end_mark (after_content body)
      (ap (λ (v : List ℕ). position (λ b. not (is_end_mark b)) v) (sym rest_is) ∙ sym end) in
      let some = accepted file (no_refusal clean) in
      let other : Accepts file some.0 = some.1 in
      let same = one_layout file some.0 (file_parts body comment_bytes r) other.laid laid_out in
      let record_is : some.0.record_bytes ≡ r = ap (λ (v : FileParts). v.record_bytes) same in
      record {
        laid = laid_out;
        version_00 = ap version_field (sym record_is) ∙ other.version_00;
        character = ap data_type (sym record_is) ∙ other.character;
        ansi = ap file_type (sym record_is) ∙ other.ansi;
        lines_stated = rw record_is at other.lines_stated;
        width_in_limit = rw record_is at other.width_in_limit;
        lines_in_limit = rw record_is at other.lines_in_limit;
        clean_end = clean;
      }
