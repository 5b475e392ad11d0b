-- The characters and names of a page, as they are read.
use Rattle.std.proofs.Common.{◌≡◌, ◌≢◌, inl, inr, ℕ, ◌<◌, Bool, true, false, List, [], ◌∷◌, map}
use Rattle.std.proofs.Common.{refl, sym, subst, append-nil}
use Rattle.std.specs.Prelude.{◌&&◌, ◌||◌, ◌==◌, not, All, if◌then◌else◌, encode_utf8}
use lib.Utf8.{scalar}
use Rattle.std.proofs.lemmas.Bool.{and_parts, cases_eq, ne_eqb}
use Rattle.std.proofs.lemmas.List.Elements.{All-head, All-tail}
use Rattle.ans_model.specs.Bytes.{IsByte}
use Rattle.ans_model.specs.Text.Characters.{glyph_text}
use Rattle.ans_show.specs.Looks.{Look}
use Rattle.ans_picture_laws.specs.Seen.{Seen, SeenCell}
use Rattle.ans_show.specs.PageText.{page_character, page_bytes, page_title}
use Rattle.ans_picture_laws.specs.PageReader.{InText, read_page}
use Rattle.ans_show.proofs.EachByte.{all_below, holds_at}
use Rattle.ans_picture_laws.proofs.EachLook.{not_true}
use Rattle.ans_picture_laws.proofs.TextsRead.{is_ascii, Reads, reads_characters, reads_nothing, reads_same, reads_then}
use Rattle.ans_picture_laws.proofs.PageTags.{through, reads_alone}

-- what is seen of a byte
abbrev seen_byte : Bool → Look → ℕ → List Seen
seen_byte shown l b = if shown then SeenCell l (glyph_text b) ∷ [] else []

-- the byte is read where the picture is shown, and where it is not
abbrev IsRead : Bool → Look → ℕ → List ℕ → Type 0
IsRead shown l b text = Reads read_page (InText shown l) text (seen_byte shown l b) (InText shown l)

-- a byte's character begins no tag and no name and ends no line, if it has no name
abbrev is_shown : ℕ → Bool
is_shown b =
    (b == 0x26 || (b == 0x3C || b == 0x3E))
    || (scalar (glyph_text b)
    && (not (glyph_text b == 0x3C) && (not (glyph_text b == 0x26) && not (glyph_text b == 0x0A))))

all_shown : all_below 256 is_shown ≡ true
all_shown = refl

character_read : (shown : Bool) (l : Look) (b : ℕ) → scalar (glyph_text b) ≡ true → (glyph_text b == 0x3C) ≡ false
    → (glyph_text b == 0x26) ≡ false → (glyph_text b == 0x0A) ≡ false
    → IsRead shown l b (encode_utf8 (glyph_text b))
character_read true l b s no_tag no_name no_end =
    reads_same (append-nil (encode_utf8 (glyph_text b))) (reads_characters (glyph_text b ∷ []) (rw s refl)
    (λ rest. rw (no_tag, no_name, no_end) refl))
character_read false l b s no_tag no_name no_end =
    reads_same (append-nil (encode_utf8 (glyph_text b))) (reads_characters (glyph_text b ∷ []) (rw s refl)
    (λ rest. rw (no_tag, no_name) refl))

-- a byte without a name
plain_read : (shown : Bool) (l : Look) (b : ℕ) → b < 256 → b ≢ 0x26 → b ≢ 0x3C → b ≢ 0x3E
    → IsRead shown l b (encode_utf8 (glyph_text b))
plain_read shown l b lt n1 n2 n3 =
    let g = glyph_text b in
    let h : is_shown b ≡ true = holds_at 256 is_shown all_shown b lt in
    let e1 : (b == 0x26) ≡ false = ne_eqb b 0x26 n1 in
    let e2 : (b == 0x3C) ≡ false = ne_eqb b 0x3C n2 in
    let e3 : (b == 0x3E) ≡ false = ne_eqb b 0x3E n3 in
    let one = and_parts (scalar g) (not (g == 0x3C) && (not (g == 0x26) && not (g == 0x0A))) (rw (e1, e2, e3) at h) in
    let two = and_parts (not (g == 0x3C)) (not (g == 0x26) && not (g == 0x0A)) one.1 in
    let three = and_parts (not (g == 0x26)) (not (g == 0x0A)) two.1 in
    character_read shown l b one.0 (not_true (g == 0x3C) two.0) (not_true (g == 0x26) three.0)
    (not_true (g == 0x0A) three.1)

-- a byte by its name
named_read : (shown : Bool) (l : Look) (b : ℕ) → is_ascii (page_character b) ≡ true
    → read_page (InText true l) (page_character b) ≡ seen_byte true l b
    → through (InText true l) (page_character b) ≡ InText true l
    → read_page (InText false l) (page_character b) ≡ []
    → through (InText false l) (page_character b) ≡ InText false l → IsRead shown l b (page_character b)
named_read true l b a seen after unseen after_unseen =
    reads_alone (InText true l) (InText true l) (page_character b) (seen_byte true l b) a seen after
named_read false l b a seen after unseen after_unseen =
    reads_alone (InText false l) (InText false l) (page_character b) [] a unseen after_unseen

byte_read : (shown : Bool) (l : Look) (b : ℕ) → b < 256 → IsRead shown l b (page_character b)
byte_read shown l b lt = elim (cases_eq b 0x26) [
  | inl e ↦ at 0x26 e (named_read shown l 0x26 refl refl refl refl refl)
  | inr n1 ↦ elim (cases_eq b 0x3C) [
    | inl e ↦ at 0x3C e (named_read shown l 0x3C refl refl refl refl refl)
    | inr n2 ↦ elim (cases_eq b 0x3E) [
      | inl e ↦ at 0x3E e (named_read shown l 0x3E refl refl refl refl refl)
      | inr n3 ↦ elim (cases_eq b 0x22) [
        | inl e ↦ at 0x22 e (named_read shown l 0x22 refl refl refl refl refl)
        | inr n4 ↦ elim (cases_eq b 0x27) [
          | inl e ↦ at 0x27 e (named_read shown l 0x27 refl refl refl refl refl)
          | inr n5 ↦
              let e1 : (b == 0x26) ≡ false = ne_eqb b 0x26 n1 in
              let e2 : (b == 0x3C) ≡ false = ne_eqb b 0x3C n2 in
              let e3 : (b == 0x3E) ≡ false = ne_eqb b 0x3E n3 in
              let e4 : (b == 0x22) ≡ false = ne_eqb b 0x22 n4 in
              let e5 : (b == 0x27) ≡ false = ne_eqb b 0x27 n5 in
              let is : page_character b ≡ encode_utf8 (glyph_text b) = rw (e1, e2, e3, e4, e5) refl in
              reads_same (sym is) (plain_read shown l b lt n1 n2 n3)
        ]
      ]
    ]
  ]
]
  where
    at : (n : ℕ) → b ≡ n → IsRead shown l n (page_character n) → IsRead shown l b (page_character b)
    at n e h = subst (λ (x : ℕ). IsRead shown l x (page_character x)) (sym e) h

-- bytes in the picture are seen
pub bytes_read : (l : Look) (bytes : List ℕ) → All IsByte bytes
    → Reads read_page (InText true l) (page_bytes bytes) (map (λ b. SeenCell l (glyph_text b)) bytes) (InText true l)
bytes_read l [] all = reads_nothing (InText true l)
bytes_read l (b ∷ bytes) all =
    reads_then (byte_read true l b (All-head IsByte b bytes all)) (bytes_read l bytes (All-tail IsByte b bytes all))

-- and those of a title are not
title_bytes_read : (l : Look) (bytes : List ℕ) → All IsByte bytes
    → Reads read_page (InText false l) (page_bytes bytes) [] (InText false l)
title_bytes_read l [] all = reads_nothing (InText false l)
title_bytes_read l (b ∷ bytes) all =
    reads_then (byte_read false l b (All-head IsByte b bytes all))
    (title_bytes_read l bytes (All-tail IsByte b bytes all))

pub title_read : (l : Look) (title : List ℕ) → All IsByte title
    → Reads read_page (InText false l) (page_title title) [] (InText false l)
title_read l [] all = reads_alone (InText false l) (InText false l) (page_title []) [] refl refl refl
title_read l (b ∷ title) all = title_bytes_read l (b ∷ title) all
