-- What a content can do without in two ways, it can do without in both at once.
use Rattle.std.proofs.Common.{◌≡◌, ℕ, zero, suc, ◌*◌, ◌<◌, true, List, [], ◌∷◌, take, Option, Some, None, refl, sym}
use Rattle.std.proofs.Common.{ap, ◌∙◌}
use Rattle.std.specs.Prelude.{is_some, IfSome, bit_and}
use Rattle.std.specs.List.{AllZip, list_all}
use Rattle.std.specs.Int.Bits.{xor_self}
use Rattle.std.proofs.lemmas.Bool.{and_parts, eq-eqb, eqb-true}
use Rattle.ans_model.specs.Sequence.TokenKind.{TokenKind}
use Rattle.ans_model.specs.Screen.State.{Size}
use Rattle.ans_model.specs.declared.cell.Cell.{Cell}
use Rattle.ans_model.specs.declared.start.Start.{Start}
use Rattle.ans_model.specs.Screen.StartClass.{both_known, cleared}
use Rattle.ans_model.specs.Screen.Step.{final}
use Rattle.ans_model.specs.Verdict.TokenFault.{IsClean}
use Rattle.ans_model.specs.Verdict.Good.{IsGood}
use Rattle.ans_model.proofs.Reading.{reads_bytes}
use Rattle.ans_screen.specs.KnownBits.{KnownBits, Agrees, is_whole}
use Rattle.ans_screen.specs.HalfCells.{is_known}
use Rattle.ans_screen.specs.declared.cell.HalfCell.{HalfCell}
use Rattle.ans_play.specs.HalfState.{DescribesCell}
use Rattle.ans_play.specs.Meet.{meet_bits, meet_byte, meet_cell, meet_screen, meet}
use Rattle.ans_play.specs.Shown.{picture_of}
use Rattle.ans_play.proofs.MeetPlays.{IsKnownFromBoth, cleared_is_start, from_both}
use Rattle.ans_play.proofs.WholeBytes.{IsAllKnown, good_if_known, known_if_good, good_is_clean}

-- ---- known cells
-- two known bytes of one cell
both_know_byte : (o p : Option ℕ) (b : ℕ) → is_some o ≡ true → is_some p ≡ true → IfSome o (λ x. b ≡ x) →
    IfSome p (λ x. b ≡ x) → is_some (meet_byte o p) ≡ true
both_know_byte None p b k l d e = absurd (cc)
both_know_byte (Some x) None b k l d e = absurd (cc)
both_know_byte (Some x) (Some y) b k l d e = rw (eq-eqb x y (sym d ∙ e)) refl

-- two known attributes of one cell
both_know_bits : (a b : KnownBits) (x : ℕ) → is_whole a ≡ true → is_whole b ≡ true → Agrees a x → Agrees b x →
    is_whole (meet_bits a b) ≡ true
both_know_bits a b x k l c d =
    let e : a.known ≡ 255 = eqb-true a.known 255 k in
    let f : b.known ≡ 255 = eqb-true b.known 255 l in
    let same : a.value ≡ b.value = sym c ∙ ap (λ (m : ℕ). bit_and x m) (e ∙ sym f) ∙ d in
    rw (e, f, same, xor_self b.value) refl

-- a cell that is known in both is known to both
both_know_cell : (g h : HalfCell) (x : Cell) → is_known g ≡ true → is_known h ≡ true → DescribesCell g x →
    DescribesCell h x → is_known (meet_cell g h) ≡ true
both_know_cell g h x k l d e =
    let p : (is_some g.glyph ≡ true) × (is_whole g.attr ≡ true) = and_parts _ _ k in
    let q : (is_some h.glyph ≡ true) × (is_whole h.attr ≡ true) = and_parts _ _ l in
    rw (
      both_know_byte g.glyph h.glyph x.byte p.0 q.0 d.0 e.0,
      both_know_bits g.attr h.attr x.attribute p.1 q.1 d.1 e.1,
    ) refl

-- so are the first n cells
both_know_cells : (n : ℕ) (gs hs : List HalfCell) (xs : List Cell) → AllZip DescribesCell gs xs →
    AllZip DescribesCell hs xs → list_all is_known (take n gs) ≡ true → list_all is_known (take n hs) ≡ true →
    list_all is_known (take n (meet_screen gs hs)) ≡ true
both_know_cells zero gs hs xs d e k l = refl
both_know_cells (suc n) [] [] xs d e k l = refl
both_know_cells (suc n) [] (h ∷ hs) xs d e k l = refl
both_know_cells (suc n) (g ∷ gs) [] xs d e k l = refl
both_know_cells (suc n) (g ∷ gs) (h ∷ hs) [] d e k l = absurd d
both_know_cells (suc n) (g ∷ gs) (h ∷ hs) (x ∷ xs) d e k l =
    let p : (is_known g ≡ true) × (list_all is_known (take n gs) ≡ true) = and_parts _ _ k in
    let q : (is_known h ≡ true) × (list_all is_known (take n hs) ≡ true) = and_parts _ _ l in
    rw (both_know_cell g h x p.0 q.0 d.0 e.0) (both_know_cells n gs hs xs d.1 e.1 p.1 q.1)

-- ---- a content
-- good for two classes is good for the class that knows what both know
pub good_from_both : (z : Size) (a b : Start) (content : List ℕ) → IsGood z a content → IsGood z b content →
    IsGood z (both_known a b) content
good_from_both z a b content good_a good_b =
    let size = good_a.1.size in
    let w : 0 < z.width = size.some_columns in
    let tokens : List TokenKind = good_a.1.tokens in
    let reads = good_a.1.reads in
    let clean_a : IsClean z a tokens = good_is_clean z a size content tokens reads good_a in
    let clean_b : IsClean z b tokens = good_is_clean z b size content tokens reads good_b in
    let s : IsKnownFromBoth z a b tokens =
    from_both z a b w tokens (reads_bytes content tokens reads) clean_a clean_b in
    let all : IsAllKnown z (meet s.g s.h) =
    both_know_cells (z.lines * z.width) s.g.screen s.h.screen (final z (cleared z) tokens).screen
    (s.known_g.describes (cleared z) (cleared_is_start z a w)).screen
    (s.known_h.describes (cleared z) (cleared_is_start z b w)).screen
    (known_if_good z a size content tokens reads clean_a s.g s.known_g good_a)
    (known_if_good z b size content tokens reads clean_b s.h s.known_h good_b) in (
      picture_of z (meet s.g s.h).screen,
      good_if_known z (both_known a b) size content tokens reads s.clean (meet s.g s.h) s.known all,
    )
