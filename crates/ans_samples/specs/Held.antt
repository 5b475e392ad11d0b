-- What a device has taken.
use Rattle.std.specs.Prelude.{ℕ, List, take}
use Rattle.ans_samples.specs.declared.narrow.Narrow.{Narrow}

-- how many bytes it takes
abbrev pub room_of : Narrow → ℕ
room_of device = device.room

-- `device.held()`
abbrev pub held_of : Narrow → List ℕ
held_of device = take device.length device.held
