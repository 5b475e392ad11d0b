-- What a clause reads of a device that fails once.
use Rattle.std.specs.Prelude.{ℕ}
use Rattle.ans_samples.specs.declared.failing_once.FailingOnce.{FailingOnce}

-- `failing.calls()`
abbrev pub calls_of : {D : Type 0} → FailingOnce D → ℕ
calls_of failing = failing.calls
