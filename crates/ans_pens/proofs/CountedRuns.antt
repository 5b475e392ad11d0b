-- Times that are counted along a run.
use Rattle.std.proofs.Common.{◌≡◌, ℕ, zero, suc, ◌+◌, Bool, true, false, refl, ap, ◌∙◌, arith, Option}
use Rattle.std.proofs.Common.{None, Some}
use Rattle.std.specs.Prelude.{if◌then◌else◌}
use Rattle.ans_pens.specs.Counted.{counted, counted_along, counted_times, so_many}
use Rattle.ans_pens.specs.declared.times.Times.{Times}

-- one time more at the byte after those that were counted
pub times_suc : (times : Option Times) (holds : Bool) (k offset : ℕ)
    → counted_times times holds (suc k) offset ≡ counted (counted_times times holds k offset) holds (offset + k)
times_suc times false k offset = refl
times_suc None true zero offset =
    let same : offset ≡ offset + 0 = omega arith in
    ap (λ (n : ℕ). Some (record { count = 1; first = n })) same
times_suc None true (suc k) offset =
    let more : suc (suc k) ≡ suc k + 1 = omega arith in
    ap (λ (n : ℕ). Some (record { count = n; first = offset })) more
times_suc (Some t) true zero offset = refl
times_suc (Some t) true (suc k) offset =
    let more : t.count + suc (suc k) ≡ (t.count + suc k) + 1 = omega arith in
    ap (λ (n : ℕ). Some (record { count = n; first = t.first })) more

pub times_zero : (times : Option Times) (holds : Bool) (offset : ℕ) → counted_times times holds 0 offset ≡ times
times_zero times false offset = refl
times_zero None true offset = refl
times_zero (Some t) true offset = refl

-- ---- along a run
pub never_along : (times : Option Times) (holds : ℕ → Bool) (offset k : ℕ) → ((i : ℕ) → holds i ≡ false)
    → counted_along times holds offset k ≡ times
never_along times holds offset zero never = refl
never_along times holds offset (suc k) never =
    ap (λ (b : Bool). counted (counted_along times holds offset k) b (offset + k)) (never k)
    ∙ never_along times holds offset k never

more_of : (t : Times) (n : ℕ) (b : Bool) (offset : ℕ)
    → counted (Some (record { count = t.count + n; first = t.first })) b offset
    ≡ Some (record { count = t.count + (n + (if b then 1 else 0)); first = t.first })
more_of t n true offset =
    let more : (t.count + n) + 1 ≡ t.count + (n + 1) = omega arith in
    ap (λ (n : ℕ). Some (record { count = n; first = t.first })) more
more_of t n false offset =
    let same : t.count + n ≡ t.count + (n + 0) = omega arith in
    ap (λ (n : ℕ). Some (record { count = n; first = t.first })) same

-- after the first they only become more
pub more_along : (t : Times) (holds : ℕ → Bool) (offset k : ℕ)
    → counted_along (Some t) holds offset k ≡ Some (record { count = t.count + so_many holds k; first = t.first })
more_along t holds offset zero =
    let same : t.count ≡ t.count + 0 = omega arith in
    ap (λ (n : ℕ). Some (record { count = n; first = t.first })) same
more_along t holds offset (suc k) =
    ap (λ (v : Option Times). counted v (holds k) (offset + k)) (more_along t holds offset k)
    ∙ more_of t (so_many holds k) (holds k) (offset + k)
