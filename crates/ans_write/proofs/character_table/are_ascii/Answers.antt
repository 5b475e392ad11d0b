use Rattle.std.proofs.Common.{arith, ◌≡◌, ◌≤◌, ◌<◌, ◌+◌, ◌%◌, ◌^◌, ◌∙◌, ℕ, List, length, get_or, map, ap, sym, w8, take}
use Rattle.std.proofs.Common.{false, Bool, IsTrue}
use Rattle.std.specs.Prelude.{All, nat_lt, nat_eq, replicate, cond}
use Rattle.std.specs.Simd.Lanes.{mask_l, chunk, top, zip2}
use Rattle.std.proofs.lemmas.List.{length-map, length-take-le}
use Rattle.std.proofs.lemmas.Simd.{bitmask_splat, none_from_empty_mask, tops_compared, zip2_splat_left, mask_l-mod}
use Rattle.std.proofs.lemmas.Bool.Decides.{nat_tests}
use Rattle.ans_write.specs.Tables.{IsAscii}
use Rattle.ans_write.proofs.character_table.are_ascii.Goals as goal

-- `to_bitmask` of the comparison of a splat with lanes
bitmask_above : (y n : ℕ) (ys : List ℕ) → length ys ≡ n → n ≤ 64
    → mask_l (map (top 7) (zip2 (λ a b. cond (nat_lt a b) 255 0) (replicate n y) ys)) % 2 ^ 64
    ≡ mask_l (map (λ (b : ℕ). nat_lt y b) ys)
bitmask_above y n ys size small =
    let above : List Bool = map (λ (b : ℕ). nat_lt y b) ys in
    ap (λ (ms : List Bool). mask_l ms % 2 ^ 64)
    (tops_compared w8 nat_lt (replicate n y) ys ∙ zip2_splat_left nat_lt y n ys size)
    ∙ mask_l-mod above 64 (omega (arith, length-map ys (λ (b : ℕ). nat_lt y b)))

-- where no byte is below 20h, and none above 7Eh
ascii_from_masks : (bytes : List ℕ) → length bytes ≡ 16
    → mask_l (map (λ (b : ℕ). nat_lt b 0x20) (chunk 0 16 bytes)) ≡ 0
    → mask_l (map (λ (b : ℕ). nat_lt 0x7E b) (chunk 0 16 bytes)) ≡ 0 → All IsAscii bytes
ascii_from_masks bytes size low high k d l =
    let room : 0 + 16 ≤ length bytes = omega arith in
    let within : k < 0 + 16 = omega arith in
    let not_low : nat_lt (get_or bytes k d) 0x20 ≡ false =
    none_from_empty_mask (λ (b : ℕ). nat_lt b 0x20) bytes 0 16 d room low k (omega arith) within in
    let not_high : nat_lt 0x7E (get_or bytes k d) ≡ false =
    none_from_empty_mask (λ (b : ℕ). nat_lt 0x7E b) bytes 0 16 d room high k (omega arith) within in
    (grind (arith, nat_tests, not_low), grind (arith, nat_tests, not_high))

is_zero : (m : ℕ) → IsTrue (nat_eq m 0) → m ≡ 0
is_zero m e = grind (arith, nat_tests, e)

pub returns-then-low-eq0 : goal.returns-then-low-eq0
returns-then-low-eq0 c empty =
    let bytes = c.args.bytes.now in
    let lanes = take 16 bytes in
    let size : length lanes ≡ 16 = length-take-le 16 bytes (omega arith) in
    ascii_from_masks bytes c.requires
    (sym (bitmask_splat w8 nat_lt lanes 16 0x20 size (omega arith)) ∙ c.if-low-eq0.true)
    (sym (bitmask_above 0x7E 16 lanes size (omega arith)) ∙ is_zero _ empty)
