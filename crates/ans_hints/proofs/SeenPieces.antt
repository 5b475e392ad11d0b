-- How many bytes of a run are seen, piece by piece.
use Rattle.std.proofs.Common.{◌≡◌, ℕ, zero, suc, ◌+◌, ◌-◌, ◌<◌, ◌≤◌, Bool, List, take, drop, ap}
use Rattle.std.proofs.Common.{◌∙◌, arith}
use Rattle.std.specs.Prelude.{if◌then◌else◌}
use Rattle.std.proofs.lemmas.List.{get_or-drop, get_or-take}
use Rattle.ans_hints.specs.Conditions.{is_seen}
use Rattle.ans_pens.specs.Counted.{so_many}
use Rattle.ans_hints.specs.Walks.{seen_at}

-- those before this byte are counted
pub record Counts (run : List ℕ) (i seen : ℕ) : Type 0 where
  pub count : seen ≡ so_many (seen_at run) i
  pub within : seen ≤ i

abbrev one_if : Bool → ℕ
one_if b = if b then 1 else 0

-- so many more behind an index
more_behind : (holds other : ℕ → Bool) (at n : ℕ) → ((i : ℕ) → i < n → other i ≡ holds (at + i))
    → so_many holds (at + n) ≡ so_many holds at + so_many other n
more_behind holds other at zero same =
    let here : at + 0 ≡ at = omega arith in
    let none : so_many holds at ≡ so_many holds at + 0 = omega arith in
    ap (so_many holds) here ∙ none
more_behind holds other at (suc n) same =
    let here : at + suc n ≡ suc (at + n) = omega arith in
    let last : one_if (other n) ≡ one_if (holds (at + n)) = ap one_if (same n (omega arith)) in
    let before = more_behind holds other at n (λ i l. same i (omega (arith, l))) in
    ap (so_many holds) here ∙ omega (arith, before, last)

-- the bytes of a piece
piece_seen : (run : List ℕ) (at n i : ℕ) → i < n → seen_at (take n (drop at run)) i ≡ seen_at run (at + i)
piece_seen run at n i l =
    ap is_seen (get_or-take n (drop at run) i 0 l ∙ get_or-drop at run i 0)

pub piece_counted : (run : List ℕ) (at end seen more : ℕ) → at ≤ end → Counts run at seen
    → more ≡ so_many (seen_at (take (end - at) (drop at run))) (end - at) → more ≤ end - at
    → Counts run end (seen + more)
piece_counted run at end seen more room h counted few =
    let whole : at + (end - at) ≡ end = omega (arith, room) in
    let all = more_behind (seen_at run) (seen_at (take (end - at) (drop at run))) at (end - at)
    (λ i l. piece_seen run at (end - at) i l) in
    let there : so_many (seen_at run) (at + (end - at)) ≡ so_many (seen_at run) end =
    ap (so_many (seen_at run)) whole in
    record {
      count = omega (arith, h.count, counted, all, there);
      within = omega (arith, h.within, few, room);
    }
