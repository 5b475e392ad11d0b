-- The texts of rows, as they grow.
use Rattle.std.proofs.Common.{◌≡◌, ℕ, zero, suc, ◌+◌, ◌-◌, ◌*◌, ◌<◌, ◌≤◌, List, [], ◌∷◌, ◌++◌, length, take, drop}
use Rattle.std.proofs.Common.{get_or, map, All, refl, ap, ap₂, sym, ◌∙◌, arith, append_assoc, append-nil, length-append}
use Rattle.std.specs.List.{flat_map}
use Rattle.std.specs.Simd.Lanes.{zip2}
use Rattle.std.proofs.Math.Seq.{take-add}
use Rattle.std.proofs.lemmas.Bool.Decides.{nat_tests}
use Rattle.std.proofs.lemmas.Grind.{flat_map-append}
use Rattle.std.proofs.lemmas.List.{take_more, take_at, drop_at, take-append-le, length-take-le}
use borrow.Rule.Slice.PartMut.{put_mid, post_of}
use Rattle.ans_model.specs.declared.cell.Cell.{Cell}
use Rattle.ans_model.specs.Screen.State.{cell}
use Rattle.ans_model.specs.Text.Characters.{shown_bytes}
use Rattle.ans_model.specs.Text.Hexadecimal.{hex_byte}
use Rattle.ans_model.specs.Text.ReportText.{cell_digits}
use Rattle.ans_write.specs.Tables.{byte_text, IsAscii}

-- bytes are shown by their characters, one after another
pub shown_bytes_is : (bytes : List ℕ) → shown_bytes bytes ≡ flat_map byte_text bytes
shown_bytes_is [] = refl
shown_bytes_is (b ∷ bytes) = ap (λ (rest : List ℕ). byte_text b ++ rest) (shown_bytes_is bytes)

-- a front of what was written after a front
pub front_more : (text piece : List ℕ) (end w k : ℕ) → end ≤ length text → k ≤ length piece
    → take (end + k) (put_mid end w text piece) ≡ take end text ++ take k piece
front_more text piece end w k within fits =
    let rest = post_of end w text in
    let size : length (take end text) ≡ end = length-take-le end text within in
    take-add end k (put_mid end w text piece)
    ∙ ap₂ (λ (a b : List ℕ). a ++ take k b) (take_at (take end text) (piece ++ rest) end size)
    (drop_at (take end text) (piece ++ rest) end size)
    ∙ ap (λ (b : List ℕ). take end text ++ b) (take-append-le k piece rest fits)

-- the characters of bytes up to i, and those from there to j
pub shown_more : (bytes : List ℕ) (i j : ℕ) → i ≤ j
    → shown_bytes (take i bytes) ++ shown_bytes (take (j - i) (drop i bytes)) ≡ shown_bytes (take j bytes)
shown_more bytes i j le =
    let whole : i + (j - i) ≡ j = omega arith in
    ap₂ (λ (x y : List ℕ). x ++ y) (shown_bytes_is (take i bytes)) (shown_bytes_is (take (j - i) (drop i bytes)))
    ∙ sym (flat_map-append byte_text (take i bytes) (take (j - i) (drop i bytes)))
    ∙ ap (flat_map byte_text) (sym (take-add i (j - i) bytes) ∙ ap (λ (k : ℕ). take k bytes) whole)
    ∙ sym (shown_bytes_is (take j bytes))

-- one character more, behind a text that stood before
pub character_more : (front text piece bytes : List ℕ) (end w k i d : ℕ) → end ≤ length text → k ≤ length piece
    → take end text ≡ front ++ shown_bytes (take i bytes) → i < length bytes
    → take k piece ≡ byte_text (get_or bytes i d)
    → take (end + k) (put_mid end w text piece) ≡ front ++ shown_bytes (take (i + 1) bytes)
character_more front text piece bytes end w k i d within fits before lt spelled =
    let b = get_or bytes i d in
    let one : shown_bytes (take i bytes) ++ byte_text b ≡ shown_bytes (take (i + 1) bytes) =
    ap₂ (λ (x y : List ℕ). x ++ y) (shown_bytes_is (take i bytes)) (sym (append-nil (byte_text b)))
    ∙ sym (flat_map-append byte_text (take i bytes) (b ∷ [])) ∙ ap (flat_map byte_text) (sym (take_more bytes i d lt))
    ∙ sym (shown_bytes_is (take (i + 1) bytes)) in
    front_more text piece end w k within fits ∙ ap₂ (λ (x y : List ℕ). x ++ y) before spelled
    ∙ append_assoc front (shown_bytes (take i bytes)) (byte_text b) ∙ ap (λ (x : List ℕ). front ++ x) one

-- a byte that is its own character
ascii_text : (b : ℕ) → IsAscii b → byte_text b ≡ b ∷ []
unfolding lib.Utf8.encode
ascii_text b ascii = grind (arith, nat_tests, ascii)

-- bytes that are their own characters are shown as they stand
pub shown_ascii : (bytes : List ℕ) → All IsAscii bytes → shown_bytes bytes ≡ bytes
shown_ascii [] all = refl
shown_ascii (b ∷ bytes) all =
    ap₂ (λ (x y : List ℕ). x ++ y) (ascii_text b (all 0 0 (omega arith)))
    (shown_ascii bytes (λ k d l. all (suc k) d (omega arith)))

-- one pair more
zip2_more : (xs ys : List ℕ) (i d e : ℕ) → i < length xs → i < length ys
    → zip2 cell (take (i + 1) xs) (take (i + 1) ys)
    ≡ zip2 cell (take i xs) (take i ys) ++ cell (get_or xs i d) (get_or ys i e) ∷ []
zip2_more [] ys i d e lt lt' = absurd (omega arith)
zip2_more (x ∷ xs) [] i d e lt lt' = absurd (omega arith)
zip2_more (x ∷ xs) (y ∷ ys) zero d e lt lt' = refl
zip2_more (x ∷ xs) (y ∷ ys) (suc i) d e lt lt' =
    let next : suc i + 1 ≡ suc (i + 1) = omega arith in
    rw next (ap (λ (cs : List Cell). cell x y ∷ cs) (zip2_more xs ys i d e (omega arith) (omega arith)))

-- one cell more
pub cell_more : (text high low bytes attributes : List ℕ) (i v w d e : ℕ) → i < length bytes → i < length attributes
    → 4 * i + 4 ≤ length text → high ≡ hex_byte (get_or bytes i d) → low ≡ hex_byte (get_or attributes i e)
    → take (4 * i) text ≡ flat_map cell_digits (zip2 cell (take i bytes) (take i attributes))
    → take (4 * (i + 1)) (put_mid (4 * i + 2) w (put_mid (4 * i) v text high) low)
    ≡ flat_map cell_digits (zip2 cell (take (i + 1) bytes) (take (i + 1) attributes))
cell_more text high low bytes attributes i v w d e lt lt' room is_high is_low before =
    let b = get_or bytes i d in
    let a = get_or attributes i e in
    let cells = zip2 cell (take i bytes) (take i attributes) in
    let more : flat_map cell_digits (zip2 cell (take (i + 1) bytes) (take (i + 1) attributes))
    ≡ flat_map cell_digits cells ++ (hex_byte b ++ hex_byte a) =
    ap (flat_map cell_digits) (zip2_more bytes attributes i d e lt lt')
    ∙ flat_map-append cell_digits cells (cell b a ∷ [])
    ∙ ap (λ (x : List ℕ). flat_map cell_digits cells ++ x) (append-nil (hex_byte b ++ hex_byte a)) in
    let four : 4 * (i + 1) ≡ (4 * i + 2) + 2 = omega arith in
    let two : 2 ≤ length high = omega (arith, ap length is_high) in
    let two' : 2 ≤ length low = omega (arith, ap length is_low) in
    let once = put_mid (4 * i) v text high in
    let halfway : take (4 * i + 2) once ≡ take (4 * i) text ++ take 2 high =
    front_more text high (4 * i) v 2 (omega arith) two in
    let long : 4 * i + 2 ≤ length once =
    omega (
      arith,
      length-append (take (4 * i) text) (high ++ post_of (4 * i) v text),
      length-append high (post_of (4 * i) v text),
      length-take-le (4 * i) text (omega arith),
    ) in
    ap (λ (n : ℕ). take n (put_mid (4 * i + 2) w once low)) four
    ∙ front_more once low (4 * i + 2) w 2 long two'
    ∙ ap (λ (x : List ℕ). x ++ take 2 low) halfway
    ∙ append_assoc (take (4 * i) text) (take 2 high) (take 2 low)
    ∙ ap₂ (λ (x y : List ℕ). x ++ y) before
    (ap₂ (λ (x y : List ℕ). take 2 x ++ take 2 y) is_high is_low) ∙ sym more

-- cells by their bytes and their attributes
pub cells_zipped : (cells : List Cell)
    → zip2 cell (map (λ (c : Cell). c.byte) cells) (map (λ (c : Cell). c.attribute) cells) ≡ cells
cells_zipped [] = refl
cells_zipped (c ∷ cells) = ap (λ (cs : List Cell). c ∷ cs) (cells_zipped cells)

-- the digits of a row's cells
pub digits_of_row : (text bytes attributes : List ℕ) (cells : List Cell) (w : ℕ)
    → take (4 * length bytes) text ≡ flat_map cell_digits (zip2 cell bytes attributes)
    → bytes ≡ map (λ (c : Cell). c.byte) cells → attributes ≡ map (λ (c : Cell). c.attribute) cells
    → length bytes ≡ w → take (4 * w) text ≡ flat_map cell_digits cells
digits_of_row text bytes attributes cells w digits is_bytes is_attributes size =
    ap (λ (n : ℕ). take (4 * n) text) (sym size) ∙ digits
    ∙ ap₂ (λ (x y : List ℕ). flat_map cell_digits (zip2 cell x y)) is_bytes is_attributes
    ∙ ap (flat_map cell_digits) (cells_zipped cells)
