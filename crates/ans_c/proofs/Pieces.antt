-- Where texts stand in a file.
use Rattle.std.proofs.Common.{◌≡◌, ℕ, ◌+◌, ◌-◌, ◌*◌, ◌≤◌, ◌==◌, Bool, true, false, min, List, [], ◌++◌, length}
use Rattle.std.proofs.Common.{take, drop, refl, sym, ap, ◌∙◌, arith, append_assoc, codes}
use Rattle.std.specs.List.{suffix_len}
use Rattle.std.proofs.lemmas.Bool.Decides.{nat_tests}
use Rattle.std.proofs.Math.Seq.{drop-append_seam, drop-drop, take-append_seam, take-take}
use Rattle.std.proofs.lemmas.List.{length-append, length-take, length-take-le, nil_from_length}
use Rattle.ans_model.specs.File.Layout.{FileParts, Laid, comment_block}
use Rattle.ans_model.specs.File.Record.{comment_count, field, is_padding, trimmed}
use Rattle.ans_c.specs.Row.{IsPieceOf, piece}
use Rattle.ans_c.specs.declared.row_numbers.Piece.{Piece}

-- the text of a field, behind what stands before the record
pub field_in_file : (file sauce : List ℕ) (front offset size : ℕ) → drop front file ≡ sauce
    → take (length (trimmed (field offset size sauce))) (drop (front + offset) file) ≡ trimmed (field offset size sauce)
field_in_file file sauce front offset size is =
    let text = field offset size sauce in
    let k = length text - suffix_len is_padding text in
    let short : k ≤ length text = omega arith in
    let cut : length text ≡ min size (length (drop offset sauce)) = length-take size (drop offset sauce) in
    let within : k ≤ size = omega (arith, cut) in
    ap (λ (n : ℕ). take n (drop (front + offset) file)) (length-take-le k text short)
    ∙ (ap (take k) (sym (drop-drop offset front file) ∙ ap (drop offset) is)
    ∙ sym (take-take k size (drop offset sauce) within))

pub field_piece : (file sauce : List ℕ) (front offset size : ℕ) (told : Piece) (text : List ℕ) → drop front file ≡ sauce
    → text ≡ trimmed (field offset size sauce) → told ≡ piece (front + offset) (length text)
    → IsPieceOf file told (trimmed (field offset size sauce))
field_piece file sauce front offset size told text is shown place = record {
  length_is = ap (λ (p : Piece). p.length) place ∙ ap length shown;
  bytes_are = rw (place, shown) (field_in_file file sauce front offset size is);
}

-- the lines of comments stand right before the record
before_comments : (body comments sauce : List ℕ) (count : ℕ) → length comments ≡ 64 * count
    → (before : List ℕ) × (body ++ (comment_block count comments ++ sauce) ≡ before ++ (comments ++ sauce))
before_comments body comments sauce count lines = go (count == 0) refl
  where
    zero_from : (count == 0) ≡ true → count ≡ 0
    zero_from is = grind (arith, nat_tests)

    none : count ≡ 0 → comments ≡ []
    none zero = nil_from_length comments (rw zero at lines)

    go : (no : Bool) → (count == 0) ≡ no
        → (before : List ℕ) × (body ++ (comment_block count comments ++ sauce) ≡ before ++ (comments ++ sauce))
    go true is = (body, rw (is, none (zero_from is)) refl)
    go false is = (
      body ++ codes "COMNT",
      rw is (ap (λ (v : List ℕ). body ++ v) (append_assoc (codes "COMNT") comments sauce)
          ∙ sym (append_assoc body (codes "COMNT") (comments ++ sauce))),
    )

in_the_midst : (file before comments sauce : List ℕ) → file ≡ before ++ (comments ++ sauce) → length sauce ≡ 128
    → take (length comments) (drop (length file - 128 - length comments) file) ≡ comments
in_the_midst file before comments sauce whole size =
    let all : length file ≡ length before + (length comments + length sauce) =
    ap length whole ∙ (length-append before (comments ++ sauce)
    ∙ ap (λ (n : ℕ). length before + n) (length-append comments sauce)) in
    let at : length file - 128 - length comments ≡ length before = omega (arith, all, size) in
    rw (at) (ap (λ (xs : List ℕ). take (length comments) (drop (length before) xs)) whole
    ∙ (ap (take (length comments)) (drop-append_seam before (comments ++ sauce))
    ∙ take-append_seam comments sauce))

-- they are there
pub comments_in_file : (file : List ℕ) (apart : FileParts) → Laid file apart
    → take (length apart.comment_bytes) (drop (length file - 128 - length apart.comment_bytes) file)
    ≡ apart.comment_bytes
comments_in_file file apart laid =
    let found = before_comments apart.body apart.comment_bytes apart.record_bytes
    (comment_count apart.record_bytes) laid.comments in
    in_the_midst file found.0 apart.comment_bytes apart.record_bytes (laid.whole ∙ found.1) laid.size

-- there is room for them before the record
pub comments_within : (file : List ℕ) (apart : FileParts) → Laid file apart
    → 128 + length apart.comment_bytes ≤ length file
comments_within file apart laid =
    let found = before_comments apart.body apart.comment_bytes apart.record_bytes
    (comment_count apart.record_bytes) laid.comments in
    let all : length file ≡ length found.0 + (length apart.comment_bytes + length apart.record_bytes) =
    ap length (laid.whole ∙ found.1) ∙ (length-append found.0 (apart.comment_bytes ++ apart.record_bytes)
    ∙ ap (λ (n : ℕ). length found.0 + n) (length-append apart.comment_bytes apart.record_bytes)) in
    let size = laid.size in omega (arith, all, size)
