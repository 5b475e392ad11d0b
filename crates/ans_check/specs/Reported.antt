-- What a command has put when it returns.
use Rattle.std.specs.declared.alloc.AllocError.{AllocError}
use Rattle.std.specs.Prelude.{◌≡◌, ℕ, false, List, Option, Result, Ok, Err}
use Rattle.ans_write.specs.Puts.{Puts, device_failed}
use Rattle.ans_write.specs.declared.outbox.Outbox.{Outbox}

-- `tells` says, of an answer and a text, that they are right of a file. Such a text was put, and while the device works
-- the answer is that of the text.
pub record IsPut {W A : Type 0} (contents : W → Option (List ℕ)) (tells : A → List ℕ → Type 0) (old new : Outbox W)
    (answer : A) : Type 0 where
  pub told : A
  pub text : List ℕ
  pub right : tells told text
  pub puts : Puts contents old new text
  pub answers : device_failed new ≡ false → answer ≡ told

-- such a text was put; or memory ran out, and nothing was
abbrev pub PutsTold : {W A : Type 0} → (W → Option (List ℕ)) → (A → List ℕ → Type 0) → Outbox W → Outbox W
    → Result A AllocError → Type 0
PutsTold contents tells old new (Ok answer) = IsPut contents tells old new answer
PutsTold contents tells old new (Err e) = new ≡ old
