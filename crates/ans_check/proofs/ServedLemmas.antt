-- A run whose writer then hands on what it holds back.
use Rattle.std.proofs.Common.{◌≡◌, ◌∙◌, ℕ, Bool, true, false, List, Option, Some, None, arith}
use Rattle.std.proofs.Common.{refl, sym, subst, true≢false}
use Rattle.std.specs.Prelude.{◌+◌, ◌<◌, ◌↔◌, length, Ok, Err, IfSome, IsErrOf, IsTrue}
use Rattle.std.specs.Io.KnownBytes.{Appends, Keeps}
use Rattle.std.proofs.lemmas.List.{take_all}
use Rattle.ans_model.specs.Bytes.{longest_file}
use Rattle.ans_write.specs.Tried.{has_failed, inner_of}
use Rattle.ans_write.specs.declared.tried.Tried.{Tried}
use Rattle.ans_check.specs.Served.{ServesAs}
use Rattle.ans_check.specs.declared.errors.RunError.{RunError}
use Rattle.ans_check.specs.declared.errors.RunError.TheVariants as error

-- what was appended is there after a call that keeps the bytes
pub appended_and_kept : (old between new : Option (List ℕ)) (text : List ℕ) → Appends old between text
    → Keeps between new
    → Appends old new text
appended_and_kept None between new text h k = tt
appended_and_kept (Some xs) None new text h k = absurd h
appended_and_kept (Some xs) (Some ys) None text h k = absurd k
appended_and_kept (Some xs) (Some ys) (Some zs) text h k = k ∙ h

-- a failed write leaves open no more than an answer whether the input is too long
never_longer : {A : Type 0} (a b : Option (List ℕ)) (answer : A)
    → IfSome a (λ xs. IfSome b (λ ys.
    IsErrOf {E = RunError} (Ok answer) error.TooLong ↔ (longest_file + length ys < length xs)))
    → IfSome a (λ xs. IfSome b (λ ys.
    IsErrOf {T = A} (Err error.Write) error.TooLong ↔ (longest_file + length ys < length xs)))
never_longer None b answer h = tt
never_longer (Some xs) None answer h = tt
never_longer (Some xs) (Some ys) answer h = (λ e. absurd (cc), λ longer. absurd (never (h.1 longer)))
  where
    never : IsErrOf {E = RunError} (Ok answer) error.TooLong → ⊥
    never e = cc

-- a device whose call did not fail still works
pub works_on : (failed error : Bool) → (IsTrue failed → error ≡ true) → error ≡ false → failed ≡ false
works_on false error h e = refl
works_on true error h e = absurd (true≢false (sym (h refl) ∙ e))

-- the answer stands where the flush did not fail
pub flushed : {R W A : Type 0} (remaining : R → Option (List ℕ)) (contents : W → Option (List ℕ))
    (tells : List ℕ → A → List ℕ → Type 0) (reader reader_after : Tried R) (writer between after : Tried W) (answer : A)
    → ServesAs remaining contents tells reader reader_after writer between (Ok answer)
    → Keeps (contents (inner_of between)) (contents (inner_of after)) → has_failed after ≡ false
    → ServesAs remaining contents tells reader reader_after writer after (Ok answer)
flushed remaining contents options reader reader_after writer between after answer h keeps works = record {
  ok = (
    h.ok.0,
    h.ok.1,
    h.ok.2,
    h.ok.3,
    appended_and_kept (contents (inner_of writer)) (contents (inner_of between)) (contents (inner_of after)) h.ok.1
        h.ok.4 keeps,
  );
  prefix = λ e. absurd (cc);
  unwritten = tt;
  read = h.read;
  write = (λ e. absurd (cc), λ failed. absurd (cc));
  too_long = h.too_long;
  calls = h.calls;
}

-- where it failed, the text was written nonetheless
pub unflushed : {R W A : Type 0} (remaining : R → Option (List ℕ)) (contents : W → Option (List ℕ))
    (tells : List ℕ → A → List ℕ → Type 0) (reader reader_after : Tried R) (writer between after : Tried W) (answer : A)
    → ServesAs remaining contents tells reader reader_after writer between (Ok answer)
    → Keeps (contents (inner_of between)) (contents (inner_of after)) → has_failed after ≡ true
    → ServesAs remaining contents tells reader reader_after writer after (Err error.Write)
unflushed remaining contents options reader reader_after writer between after answer h keeps failed = record {
  ok = tt;
  prefix = λ _. (
    h.ok.0,
    answer,
    h.ok.1,
    h.ok.2,
    h.ok.3,
    (
      length h.ok.1,
      omega arith,
      subst (λ (v : List ℕ). Appends (contents (inner_of writer)) (contents (inner_of after)) v)
          (sym (take_all (length h.ok.1) h.ok.1 (omega arith)))
          (appended_and_kept (contents (inner_of writer)) (contents (inner_of between)) (contents (inner_of after))
          h.ok.1 h.ok.4 keeps),
    ),
  );
  unwritten = λ e. absurd (e refl);
  read = (λ e. absurd (cc), λ gone. absurd (no_read (h.read.1 gone)));
  write = (λ _. failed, λ _. refl);
  too_long = never_longer (remaining (inner_of reader)) (remaining (inner_of reader_after)) answer h.too_long;
  calls = h.calls;
}
  where
    no_read : IsErrOf {E = RunError} (Ok answer) error.Read → ⊥
    no_read e = cc

-- where an answer came, the writer still works
pub still_works : {R W A : Type 0} (remaining : R → Option (List ℕ)) (contents : W → Option (List ℕ))
    (tells : List ℕ → A → List ℕ → Type 0) (reader reader_after : Tried R) (writer after : Tried W) (answer : A)
    → ServesAs remaining contents tells reader reader_after writer after (Ok answer) → has_failed after ≡ false
still_works remaining contents tells reader reader_after writer after answer h = go (has_failed after) h.write
  where
    never : IsErrOf {E = RunError} (Ok answer) error.Write → ⊥
    never e = cc

    go : (failed : Bool) → IsErrOf {E = RunError} (Ok answer) error.Write ↔ IsTrue failed → failed ≡ false
    go false d = refl
    go true d = absurd (never (d.1 refl))
