-- Known and unknown cells of a half-known screen.
use Rattle.std.proofs.Common.{◌≡◌, ◌≢◌, ℕ, zero, suc, ◌<◌, ◌≤◌, ◌%◌, Bool, true, false, refl, sym, ap, ◌∙◌, arith, List}
use Rattle.std.proofs.Common.{[], ◌∷◌, length, map, take, get_or, All, Option, Some, None, subst}
use Rattle.std.specs.Prelude.{◌==◌, slice_get, is_some, unwrap_or, IfSome, if◌then◌else◌, bit_and, nat_lt}
use Rattle.std.specs.List.{AllZip, list_all, position, position_or_len}
use Rattle.std.specs.Int.Bits.{xor_self}
use Rattle.std.proofs.lemmas.Bool.{eq-eqb, eqb-true, ltb-false, and_parts, not-true, not-false, true≢false}
use Rattle.std.proofs.lemmas.Nat.{and_mask}
use Rattle.std.proofs.lemmas.List.{length-take}
use Rattle.std.proofs.lemmas.List.Elements.{All-head, All-tail}
use Rattle.std.proofs.lemmas.List.Quantifiers.{position-Some}
use Rattle.std.proofs.lemmas.List.Sums.{fails_before_first}
use Rattle.std.proofs.lemmas.Option.{slice_get-get_or, same_Some}
use Rattle.ans_model.specs.Screen.State.{cell, IsByteCell}
use Rattle.ans_model.specs.declared.cell.Cell.{Cell}
use Rattle.ans_model.proofs.Slices.{slice_get-take}
use Rattle.ans_screen.specs.HalfCells.{is_known}
use Rattle.ans_screen.specs.GridEdits.{is_unknown, first_unknown}
use Rattle.ans_screen.specs.declared.cell.HalfCell.{HalfCell}
use Rattle.ans_play.specs.HalfState.{DescribesCell}
use Rattle.ans_play.specs.Hull.{whole_cell}
use Rattle.ans_play.specs.Meet.{meet_cell, meet_screen}
use Rattle.ans_play.specs.Shown.{known_cell}

-- ---- one cell
known_byte : (o : Option ℕ) (b : ℕ) → is_some o ≡ true → IfSome o (λ x. b ≡ x) → b ≡ unwrap_or o 0
known_byte None b k e = absurd (cc)
known_byte (Some x) b k e = e

-- an attribute of which all bits are known
known_attribute : (k v a : ℕ) → k ≡ 255 → bit_and a k ≡ v → a < 256 → a ≡ v
known_attribute k v a e d l = let m : bit_and a 255 ≡ a % 256 = and_mask a 8 in
    omega (arith, ap (λ (x : ℕ). bit_and a x) e)

same_cell : (b c a d : ℕ) → b ≡ c → a ≡ d → cell b a ≡ cell c d
same_cell b c a d e f = cc

-- a known cell describes one cell
known_is : (h : HalfCell) (c : Cell) → is_known h ≡ true → DescribesCell h c → IsByteCell c → c ≡ known_cell h
known_is h c k d byte =
    let parts : (is_some h.glyph ≡ true) × ((h.attr.known == 255) ≡ true) =
    and_parts (is_some h.glyph) (h.attr.known == 255) k in
    same_cell c.byte (unwrap_or h.glyph 0) c.attribute h.attr.value
    (known_byte h.glyph c.byte parts.0 d.0)
    (known_attribute h.attr.known h.attr.value c.attribute (eqb-true h.attr.known 255 parts.1) d.1 byte.1)

-- what two cells have in common
abbrev hull_cell : Cell → Cell → HalfCell
hull_cell a b = meet_cell (whole_cell a) (whole_cell b)

-- the hull of a cell with itself is known
hull_known : (a : Cell) → is_known (hull_cell a a) ≡ true
hull_known a = rw (eq-eqb a.byte a.byte refl, xor_self a.attribute) refl

-- ---- a screen
-- what two screens have in common, cell by cell
abbrev pub hull_screen : List Cell → List Cell → List HalfCell
hull_screen xs ys = meet_screen (map whole_cell xs) (map whole_cell ys)

-- a known cell is that of each screen that is described
pub known_at : (hs : List HalfCell) (xs : List Cell) (i : ℕ) (h : HalfCell) → AllZip DescribesCell hs xs →
    All IsByteCell xs → slice_get hs i ≡ Some h → is_known h ≡ true → slice_get xs i ≡ Some (known_cell h)
known_at [] xs i h d b e k = absurd (cc)
known_at (g ∷ hs) [] i h d b e k = absurd d
known_at (g ∷ hs) (x ∷ xs) zero h d b e k =
    let same : g ≡ h = same_Some g h e in
    ap (λ (c : Cell). Some c) (known_is h x k (subst (λ (y : HalfCell). DescribesCell y x) same d.0)
    (All-head IsByteCell x xs b))
known_at (g ∷ hs) (x ∷ xs) (suc i) h d b e k = known_at hs xs i h d.1 (All-tail IsByteCell x xs b) e k

-- an unknown cell of a hull differs
pub unknown_at : (xs ys : List Cell) (i : ℕ) (h : HalfCell) → slice_get (hull_screen xs ys) i ≡ Some h →
    is_known h ≡ false → slice_get xs i ≢ slice_get ys i
unknown_at [] ys i h e k same = cc
unknown_at (x ∷ xs) [] i h e k same = cc
unknown_at (x ∷ xs) (y ∷ ys) zero h e k same =
    let equal : y ≡ x = same_Some y x (sym same) in
    let it : h ≡ hull_cell x x = sym (same_Some (hull_cell x y) h e) ∙ ap (λ (c : Cell). hull_cell x c) equal in
    true≢false (sym (ap (λ (g : HalfCell). is_known g) it ∙ hull_known x) ∙ k)
unknown_at (x ∷ xs) (y ∷ ys) (suc i) h e k same = unknown_at xs ys i h e k same

-- where two screens agree, their hull is known
pub known_where_same : (xs ys : List Cell) (i : ℕ) → i < length xs → slice_get xs i ≡ slice_get ys i →
    (h : HalfCell) × (slice_get (hull_screen xs ys) i ≡ Some h) × (is_known h ≡ true)
known_where_same [] ys i within same = absurd (omega arith)
known_where_same (x ∷ xs) [] zero within same = absurd (cc)
known_where_same (x ∷ xs) [] (suc i) within same = absurd (none_within xs i (omega arith) same)
  where
    none_within : (cells : List Cell) (j : ℕ) → j < length cells → slice_get cells j ≢ None
    none_within [] j l e = omega arith
    none_within (c ∷ cells) zero l e = cc
    none_within (c ∷ cells) (suc j) l e = none_within cells j (omega arith) e
known_where_same (x ∷ xs) (y ∷ ys) zero within same =
    let equal : y ≡ x = same_Some y x (sym same) in
    (hull_cell x y, refl, ap (λ (c : Cell). is_known (hull_cell x c)) equal ∙ hull_known x)
known_where_same (x ∷ xs) (y ∷ ys) (suc i) within same = known_where_same xs ys i (omega arith) same

pub all_known : (hs : List HalfCell) (xs : List Cell) → AllZip DescribesCell hs xs → All IsByteCell xs →
    list_all is_known hs ≡ true → xs ≡ map known_cell hs
all_known [] [] d b k = refl
all_known [] (x ∷ xs) d b k = absurd d
all_known (h ∷ hs) [] d b k = absurd d
all_known (h ∷ hs) (x ∷ xs) d b k =
    let parts : (is_known h ≡ true) × (list_all is_known hs ≡ true) = and_parts (is_known h) (list_all is_known hs) k in
    let first : x ≡ known_cell h = known_is h x parts.0 d.0 (All-head IsByteCell x xs b) in
    let rest : xs ≡ map known_cell hs = all_known hs xs d.1 (All-tail IsByteCell x xs b) parts.1 in
    ap (λ (c : Cell). c ∷ xs) first ∙ ap (λ (cs : List Cell). known_cell h ∷ cs) rest

-- ---- what a search finds
-- the first of the first n cells that is not known
pub record FirstUnknown (hs : List HalfCell) (n index : ℕ) : Type 0 where
  pub within : index < n
  pub cell : HalfCell
  pub here : slice_get hs index ≡ Some cell
  pub unknown : is_known cell ≡ false
  pub earlier : (j : ℕ) → j < index → (c : HalfCell) × (slice_get hs j ≡ Some c) × (is_known c ≡ true)

-- what a search for an unknown cell finds is the first
pub found_unknown : (hs : List HalfCell) (n index : ℕ) (d : HalfCell) → first_unknown hs n ≡ Some index →
    FirstUnknown hs n index
found_unknown hs n index d e =
    let p : (index < length (take n hs)) × (is_unknown (get_or (take n hs) index d) ≡ true)
    × ((k : ℕ) → k < index → is_unknown (get_or (take n hs) k d) ≡ false)
    = position-Some is_unknown (take n hs) index d e in
    let l : index < n = omega (arith, p.0, length-take n hs) in
    record {
      within = l;
      cell = get_or (take n hs) index d;
      here = sym (slice_get-take n hs index l) ∙ slice_get-get_or (take n hs) index d p.0;
      unknown = not-true (is_known (get_or (take n hs) index d)) p.1;
      earlier = λ j k.
          let m : j < n = omega arith in
          let k' : j < length (take n hs) = omega (arith, p.0) in (
            get_or (take n hs) j d,
            sym (slice_get-take n hs j m) ∙ slice_get-get_or (take n hs) j d k',
            not-false (is_known (get_or (take n hs) j d)) (p.2 j k),
          );
    }

-- where there is none, all are known
all_by_index : (hs : List HalfCell) (d : HalfCell) → ((j : ℕ) → j < length hs → is_known (get_or hs j d) ≡ true) →
    list_all is_known hs ≡ true
all_by_index [] d f = refl
all_by_index (h ∷ hs) d f = rw (f 0 (omega arith)) (all_by_index hs d (λ j l. f (suc j) (omega arith)))

none_if : (b : Bool) (n : ℕ) → (if b then Some n else None) ≡ None → b ≡ false
none_if true n e = absurd (cc)
none_if false n e = refl

-- where it finds none, all cells are known
pub none_unknown : (hs : List HalfCell) (d : HalfCell) → position is_unknown hs ≡ None → list_all is_known hs ≡ true
none_unknown hs d e =
    let past : length hs ≤ position_or_len is_unknown hs =
    ltb-false (position_or_len is_unknown hs) (length hs)
    (none_if (nat_lt (position_or_len is_unknown hs) (length hs)) (position_or_len is_unknown hs) e) in
    all_by_index hs d (λ j l. not-false (is_known (get_or hs j d)) (fails_before_first is_unknown hs j d (omega arith)))
