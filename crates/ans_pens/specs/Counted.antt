-- Times that are counted one by one.
use Rattle.std.specs.Prelude.{ℕ, zero, suc, ◌+◌, Bool, true, false, Option, None, Some, if◌then◌else◌}
use Rattle.ans_pens.specs.declared.times.Times.{Times}

-- how many times
abbrev pub count_of : Option Times → ℕ
count_of None = 0
count_of (Some times) = times.count

-- one time more where the test holds, at this offset
abbrev pub counted : Option Times → Bool → ℕ → Option Times
counted times false offset = times
counted None true offset = Some (record { count = 1; first = offset })
counted (Some times) true offset = Some (record { count = times.count + 1; first = times.first })

-- this many times more if the test holds, the first of them at this offset
abbrev pub counted_times : Option Times → Bool → ℕ → ℕ → Option Times
counted_times times false more offset = times
counted_times times true zero offset = times
counted_times None true (suc more) offset = Some (record { count = suc more; first = offset })
counted_times (Some times) true (suc more) offset =
    Some (record { count = times.count + suc more; first = times.first })

-- one time more at each of this many bytes where the test holds, the first of them at this offset
abbrev pub counted_along : Option Times → (ℕ → Bool) → ℕ → ℕ → Option Times
counted_along times holds offset zero = times
counted_along times holds offset (suc k) = counted (counted_along times holds offset k) (holds k) (offset + k)

-- for how many of the first numbers the test holds
abbrev pub so_many : (ℕ → Bool) → ℕ → ℕ
so_many holds zero = 0
so_many holds (suc k) = so_many holds k + (if holds k then 1 else 0)
