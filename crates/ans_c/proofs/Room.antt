-- How much is lent, by the size that a record states.
use Rattle.std.proofs.Common.{◌≡◌, ◌⊎◌, ℕ, ◌+◌, ◌*◌, ◌<◌, ◌≤◌, min, inl, inr, arith, mul_comm}
use Rattle.ans_screen.specs.LentRows.{HasRoom}

-- too few glyphs, or too few attributes
pub fewer_cells : (w l glyphs attributes : ℕ) {columns lines : ℕ} → w ≡ columns → l ≡ lines
    → (glyphs < w * l) ⊎ (attributes < w * l) → min glyphs attributes < columns * lines
fewer_cells w l glyphs attributes width height (inl few) = rw (← width, ← height) (omega arith)
fewer_cells w l glyphs attributes width height (inr few) = rw (← width, ← height) (omega arith)

-- enough of them
pub enough_cells : (w l n : ℕ) {columns lines : ℕ} → w ≡ columns → l ≡ lines → w * l ≤ n → lines * columns ≤ n
enough_cells w l n width height enough = rw (← width, ← height) (omega (arith, enough, mul_comm w l))

-- no room for the rows
pub no_room_for : (w l rows bytes : ℕ) {columns lines : ℕ} → w ≡ columns → l ≡ lines
    → ¬ HasRoom w (l + 1) rows bytes → ¬ HasRoom columns (lines + 1) rows bytes
no_room_for w l rows bytes width height none room = none (rw (width, height) room)
