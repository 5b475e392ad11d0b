-- What the writing of one of many texts has done when it returns.
use Rattle.std.specs.declared.alloc.AllocError.{AllocError}
use Rattle.std.specs.Prelude.{◌≡◌, ◌↔◌, ℕ, false, List, [], Option, Result, Ok, Err, IfOk, IfErr}
use Rattle.std.specs.Prelude.{OnOk, IsErrOf, IsTrue}
use Rattle.ans_table.specs.declared.counts.Outcome.{Outcome}
use Rattle.ans_write.specs.Puts.{Puts, device_failed, device_of, waiting_of}
use Rattle.ans_write.specs.Tried.{inner_of}
use Rattle.ans_write.specs.Writes.{WritesText}
use Rattle.ans_write.specs.declared.outbox.Outbox.{Outbox}
use Rattle.ans_check.specs.declared.errors.RunError.{RunError}
use Rattle.ans_check.specs.declared.errors.RunError.TheVariants as error

-- the text was put; or memory ran out for it, which it may, and nothing was
abbrev pub PutsText : {W T : Type 0} → (W → Option (List ℕ)) → Type 0 → List ℕ → Outbox W → Outbox W
    → Result T AllocError → Type 0
PutsText contents may_lack text old new (Ok done) = Puts contents old new text
PutsText contents may_lack text old new (Err e) = may_lack × (new ≡ old)

-- such a text was put, with its outcome
pub record PutsRow {W : Type 0} (contents : W → Option (List ℕ)) (may_lack : Type 0)
    (tells : Outcome → List ℕ → Type 0) (old new : Outbox W) (result : Result Outcome AllocError) : Type 0 where
  pub outcome : Outcome
  pub text : List ℕ
  pub told : tells outcome text
  pub puts : PutsText contents may_lack text old new result
  pub is : IfOk result (λ o. o ≡ outcome)

-- nothing waits, and the device works
abbrev pub IsReady : {W : Type 0} → Outbox W → Type 0
IsReady out = (waiting_of out ≡ []) × (device_failed out ≡ false)

-- The device is the same. `Write` comes exactly if it failed, any other error is one of these, and at `Ok` all is ready
-- again.
pub record EndsRows {W T : Type 0} (MayEnd : RunError → Type 0) (old new : Outbox W) (result : Result T RunError)
    : Type 0 where
  pub same_device : new.device.ghost_name ≡ old.device.ghost_name
  pub device : IsErrOf result error.Write ↔ IsTrue (device_failed new)
  pub errors : IfErr result MayEnd
  pub ready : OnOk result (IsReady new)

-- at `Ok` the text was written, and else a prefix of it
pub record WritesOut {W T : Type 0} (contents : W → Option (List ℕ)) (MayEnd : RunError → Type 0) (text : List ℕ)
    (old new : Outbox W) (result : Result T RunError) : Type 0 where
  pub ends : EndsRows MayEnd old new result
  pub written : WritesText (contents (inner_of (device_of old))) (contents (inner_of (device_of new))) result text

-- such a text was written, with its outcome
pub record WritesRow {W : Type 0} (contents : W → Option (List ℕ)) (MayEnd : RunError → Type 0)
    (tells : Outcome → List ℕ → Type 0) (old new : Outbox W) (result : Result Outcome RunError) : Type 0 where
  pub outcome : Outcome
  pub text : List ℕ
  pub told : tells outcome text
  pub row : WritesOut contents MayEnd text old new result
  pub is : IfOk result (λ o. o ≡ outcome)
