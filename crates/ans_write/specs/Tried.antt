-- What a clause reads of a `Tried`.
use Rattle.std.specs.Prelude.{ℕ, Bool}
use Rattle.ans_write.specs.declared.tried.Tried.{Tried}

-- `tried.failed()`
abbrev pub has_failed : {T : Type 0} → Tried T → Bool
has_failed tried = tried.failed

-- `tried.calls()`
abbrev pub call_count : {T : Type 0} → Tried T → ℕ
call_count tried = tried.calls

-- `tried.inner()`
abbrev pub inner_of : {T : Type 0} → Tried T → T
inner_of tried = tried.inner
