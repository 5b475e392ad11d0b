use Rattle.std.proofs.Common.{ℕ, ◌+◌, ◌-◌, ◌%◌, cond, eqb, leb, bit_or, refl, arith}
use Rattle.std.proofs.lemmas.Simd.{splat_is_map, zip2_of_maps, zip2_splat}
use Rattle.ans_tokens.specs.Glyphs.{is_stop}
use Rattle.ans_tokens.proofs.PlainFront.{mask_is}
use Rattle.ans_tokens.proofs.plain.stops.Goals as goal

-- a lane that is this byte
abbrev is_lane : ℕ → ℕ → ℕ
is_lane a b = cond (eqb a b) 255 0

-- what `simd_ge` makes of a splat and a lane
abbrev at_most : ℕ → ℕ → ℕ
at_most a b = cond (leb a b) 255 0

abbrev less : ℕ → ℕ → ℕ
less a b = (a + (256 - b)) % 256

pub returns : goal.returns
returns c =
    let v = c.args.bytes in
    let long = c.fits-bytes.0 in
    let outside = zip2_of_maps at_most (λ _. 0xC0) (λ x. less x 0x20) v (splat_is_map v 16 0xC0 long)
    (zip2_splat less v 16 0x20 long) in
    let signs = zip2_of_maps bit_or (λ x. is_lane x 0x40) (λ x. is_lane x 0x7C) v (zip2_splat is_lane v 16 0x40 long)
    (zip2_splat is_lane v 16 0x7C long) in
    let others = zip2_of_maps bit_or (λ x. is_lane x 0x7F) (λ x. is_lane x 0xC3) v
    (zip2_splat is_lane v 16 0x7F long) (zip2_splat is_lane v 16 0xC3 long) in
    mask_is _ is_stop v _ (omega (arith, long)) c.fits-bytes.1
    (zip2_of_maps bit_or _ _ v (zip2_of_maps bit_or _ _ v outside signs) others) refl
