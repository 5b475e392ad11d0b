-- An array that has taken bytes from its front on.
use Rattle.std.proofs.Common.{◌≡◌, ℕ, ◌+◌, ◌≤◌, List, ◌++◌, length, take, sym, ap, ◌∙◌, arith}
use Rattle.ans_redraw.specs.Copies.{Copies}
use Rattle.ans_redraw.specs.declared.sink.Copy.{Copy}

pub copied : (a b : Copy) (x : List ℕ) → Copies a b x → a.used ≡ 0 → length x ≤ length a.array.now
    → take (length x) b.array.now ≡ x
copied a b x copies begun room =
    let fits : a.used + length x ≤ length a.array.now = omega (arith, begun, room) in
    let end : b.used ≡ length x = omega (arith, copies.used fits, begun) in
    ap (λ (n : ℕ). take n b.array.now) (sym end) ∙ copies.taken fits
    ∙ ap (λ (n : ℕ). take n a.array.now ++ x) begun
