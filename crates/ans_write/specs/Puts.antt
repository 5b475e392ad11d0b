-- What putting a text does to an outbox and to its device.
use Rattle.std.specs.Prelude.{◌≡◌, ℕ, ◌+◌, ◌≤◌, Bool, true, false, List, [], ◌++◌, length, Option}
use Rattle.std.specs.Io.KnownBytes.{Appends}
use Rattle.ans_write.specs.Tried.{has_failed, inner_of}
use Rattle.ans_write.specs.declared.outbox.Outbox.{Outbox}
use Rattle.ans_write.specs.declared.tried.Tried.{Tried}

-- the outbox's device
abbrev pub device_of : {W : Type 0} → Outbox W → Tried W
device_of out = out.device.now

-- the text that waits to be written
abbrev pub waiting_of : {W : Type 0} → Outbox W → List ℕ
waiting_of out = out.waiting.items

-- whether the outbox's device has failed
abbrev pub device_failed : {W : Type 0} → Outbox W → Bool
device_failed out = has_failed (device_of out)

-- how many bytes an outbox has room for
abbrev pub outbox_size : ℕ
outbox_size = 65536

-- Of what waited and of the text, the device took a first part, and the rest waits unless the device has failed. A
-- device that had failed before took nothing.
pub record HandsOn {W : Type 0} (contents : W → Option (List ℕ)) (old new : Outbox W) (text : List ℕ) : Type 0 where
  pub same_device : new.device.ghost_name ≡ old.device.ghost_name
  pub taken : List ℕ
  pub rest : List ℕ
  pub whole : taken ++ rest ≡ waiting_of old ++ text
  pub appended : Appends (contents (inner_of (device_of old))) (contents (inner_of (device_of new))) taken
  pub waits : device_failed new ≡ false → waiting_of new ≡ rest
  pub stays_failed : device_failed old ≡ true → (device_failed new ≡ true) × (taken ≡ [])

-- The text was put. A device that works is not called while what waits and the text fit the outbox.
pub record Puts {W : Type 0} (contents : W → Option (List ℕ)) (old new : Outbox W) (text : List ℕ) : Type 0 where
  pub hands_on : HandsOn contents old new text
  pub spares : device_failed old ≡ false → length (waiting_of old) + length text ≤ outbox_size
      → device_of new ≡ device_of old
