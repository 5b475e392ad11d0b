-- Where the name in the field of a font ends.
use Rattle.std.proofs.Common.{◌≡◌, ◌∙◌, ℕ, ◌-◌, ◌≤◌, ◌<◌, false, not, List, length, take, get_or, refl, ap, arith}
use Rattle.std.specs.List.{position_or_len, suffix_len}
use Rattle.std.proofs.lemmas.Bool.{ne_eqb}
use Rattle.std.proofs.lemmas.List.{take_all}
use Rattle.std.proofs.lemmas.List.Sums.{fails_before_first, prefix_len-le-length, suffix_len-take_no}
use Rattle.ans_model.specs.Bytes.{blank}
use Rattle.ans_model.specs.File.Record.{is_padding, trimmed}
use Rattle.ans_why.specs.Fonts.{ends_text}

size_is_within : (field : List ℕ) → position_or_len ends_text field ≤ length field
size_is_within field = prefix_len-le-length (λ (b : ℕ). not (ends_text b)) field

-- a front without zero bytes that ends in no blank has no padding
pub front_is_whole : (field : List ℕ) (end : ℕ) → 0 < end → end ≤ position_or_len ends_text field
    → (get_or field (end - 1) 0 ≡ blank → ⊥) → trimmed (take end field) ≡ take end field
front_is_whole field end some within no_blank =
    let inside : end ≤ length field = omega (arith, within, size_is_within field) in
    let no_zero : ends_text (get_or field (end - 1) 0) ≡ false =
    fails_before_first ends_text field (end - 1) 0 (omega (arith, some, within)) in
    let kept : is_padding (get_or field (end - 1) 0) ≡ false =
    rw (ne_eqb (get_or field (end - 1) 0) blank no_blank) no_zero in
    let none : suffix_len is_padding (take end field) ≡ 0 =
    suffix_len-take_no is_padding field end 0 some inside kept in
    ap (λ (n : ℕ). take (length (take end field) - n) (take end field)) none
    ∙ take_all (length (take end field) - 0) (take end field) (omega arith)

-- an empty one has none
pub no_front_is_whole : (field : List ℕ) (end : ℕ) → end ≡ 0 → trimmed (take end field) ≡ take end field
no_front_is_whole field end e = rw e refl
