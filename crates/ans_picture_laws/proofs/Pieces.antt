-- Where the pieces of the form lead.
use Rattle.std.proofs.Common.{◌≡◌, ℕ, zero, suc, ◌+◌, ◌-◌, ◌*◌, ◌<◌, ◌≤◌, Bool, true, false, refl, ap, ap₂, sym, ◌∙◌}
use Rattle.std.proofs.Common.{arith, List, [], ◌∷◌, ◌++◌, drop, set, replicate, subst, min, append_assoc, codes}
use Rattle.std.specs.Prelude.{nat_lt, nat_le, decimal, ◌&&◌, ◌==◌, if◌then◌else◌}
use Rattle.std.specs.List.{list_all, list_any}
use Rattle.std.proofs.lemmas.Bool.{ne_eqb, lt-ltb, eqb-true, eqb-false}
use Rattle.std.proofs.lemmas.List.{append-nil, replicate-append-replicate}
use Rattle.ans_model.specs.Bytes.{blank, escape, bracket, end_mark}
use Rattle.ans_model.specs.File.Layout.{is_end_mark}
use Rattle.ans_model.specs.declared.cell.Cell.{Cell}
use Rattle.ans_model.specs.declared.cell.Position.{Position}
use Rattle.ans_model.specs.Sequence.TokenKind.{Glyph, Forward}
use Rattle.ans_model.specs.Sequence.Reads.{SpellsToken}
use Rattle.ans_model.specs.Screen.State.{Size, State, at, cell, cell_count, index}
use Rattle.ans_model.specs.Screen.Step.{put, advanced, blank_cell}
use Rattle.ans_model.proofs.PositionLemmas.{index-lt}
use Rattle.ans_model.proofs.StepLemmas.{advanced_is}
use Rattle.ans_players.specs.declared.difference.Difference.{Difference}
use Rattle.ans_players.specs.Sync.{Sync, InSync, AfterWrap, Stand, sync_after_print}
use Rattle.ans_players.specs.Situations.{Spelled, stand_behind, is_agreed}
use Rattle.ans_players.proofs.Spellings.{of_byte, one_right}
use Rattle.ans_redraw.specs.Form.{glyph, skip, over_few}
use Rattle.ans_picture_laws.specs.Drawable.{IsPrinted, shown_kinds}
use Rattle.ans_picture_laws.proofs.HalfDrawn.{half, half_printed, next_is, blanks_are_there}
use Rattle.ans_picture_laws.proofs.ColourLaws.{named}
use Rattle.ans_picture_laws.proofs.ColourTexts.{number_right, unmarked_both, number_unmarked}
use Rattle.ans_picture_laws.proofs.Going.{Leads, stays, one_leads, both_lead}

module _ (z : Size) (cells : List Cell) where
  -- k cells are drawn
  abbrev pub state_at : ℕ → Position → ℕ → State
  state_at k p a = record { screen = half z cells k; cursor = p; saved = at 0 0; attribute = a; wrap = true }

  abbrev pub stand : Sync → ℕ → Position → ℕ → Stand
  stand g k p a = record { sync = g; names = named; state = state_at k p a }

  -- behind a byte that was printed before column c of row r
  abbrev pub place : ℕ → ℕ → ℕ → ℕ → Stand
  place k r c a = if nat_lt c z.width then stand InSync k (at r c) a else stand AfterWrap k (at (r + 1) 0) a

-- where the next cell of the picture is to be printed
pub record IsAt (z : Size) (cells : List Cell) (k r c : ℕ) : Type 0 where
  pub index_is : k ≡ r * z.width + c
  pub row_stated : r < z.lines
  pub column : c < z.width

pub is_within : (z : Size) (cells : List Cell) (k r c : ℕ) → IsAt z cells k r c → k < cell_count z
is_within z cells k r c h =
    let lt : index z (at r c) < cell_count z = index-lt z (at r c) (omega (arith, h.row_stated), h.column) in
    omega (arith, h.index_is, lt)

-- a blank is printed
pub blank_printed : IsPrinted blank
blank_printed = record {
  is_byte = omega arith;
  not_escape = λ e. omega arith;
  not_end_mark = λ e. omega arith;
  means_itself = refl;
}

-- a skip is spelled by its number, where it is not 1
skip_spelled : (n : ℕ) → 0 < n → n ≤ 255 → SpellsToken (Forward n) (skip n).text
skip_spelled n some few = by_test (n == 1) refl
  where
    by_test : (t : Bool) → (n == 1) ≡ t
        → SpellsToken (Forward n) (escape ∷ bracket ∷ ((if t then [] else decimal n) ++ codes "C"))
    by_test true e = subst (λ (m : ℕ). SpellsToken (Forward m) (escape ∷ codes "[C")) (sym (eqb-true n 1 e)) one_right
    by_test false e = number_right n some few

skip_unmarked : (n : ℕ) → n ≤ 255 → list_any is_end_mark (skip n).text ≡ false
skip_unmarked n few = by_test (n == 1)
  where
    by_test : (t : Bool)
        → list_any is_end_mark (escape ∷ bracket ∷ ((if t then [] else decimal n) ++ codes "C")) ≡ false
    by_test true = refl
    by_test false = unmarked_both (decimal n) (codes "C") (number_unmarked n (omega arith)) refl

module _ (z : Size) (cells : List Cell) (agreed : Difference → Bool) where
  -- ---- a byte
  -- what it makes of the state
  put_is : (k r c b a : ℕ) (rest : List Cell) → IsAt z cells k r c → drop k cells ≡ cell b a ∷ rest
      → put z (state_at z cells k (at r c) a) b
      ≡ state_at z cells (suc k) (if nat_lt (c + 1) z.width then at r (c + 1) else at (r + 1) 0) a
  put_is k r c b a rest h e =
      let lt = is_within z cells k r c h in
      let drawn : set (half z cells k) (r * z.width + c) (cell b a) ≡ half z cells (suc k) =
      ap (λ (j : ℕ). set (half z cells k) j (cell b a)) (sym h.index_is)
      ∙ half_printed z cells k (cell b a) rest e lt in
      ap (λ (v : List Cell). advanced z (record (state_at z cells k (at r c) a) { screen = v })) drawn
      ∙ advanced_is z (state_at z cells (suc k) (at r c) a) h.row_stated

  -- and of the sync
  sync_is : (k r c a : ℕ) (t : Bool)
      → ◌≡◌ {A = Stand} (record {
        sync = sync_after_print (state_at z cells k (if t then at r (c + 1) else at (r + 1) 0) a);
        names = named;
        state = state_at z cells k (if t then at r (c + 1) else at (r + 1) 0) a;
      })
      (if t then stand z cells InSync k (at r (c + 1)) a else stand z cells AfterWrap k (at (r + 1) 0) a)
  sync_is k r c a true =
      let more : (c + 1 == 0) ≡ false = ne_eqb (c + 1) 0 (λ e. omega arith) in
      rw more refl
  sync_is k r c a false = refl

  behind_glyph : (k r c b a : ℕ) (rest : List Cell) → IsAt z cells k r c → drop k cells ≡ cell b a ∷ rest
      → stand_behind z (stand z cells InSync k (at r c) a) (glyph b) ≡ place z cells (suc k) r (c + 1) a
  behind_glyph k r c b a rest h e =
      ap (λ (v : State). record { sync = sync_after_print v; names = named; state = v }) (put_is k r c b a rest h e)
      ∙ sync_is (suc k) r c a (nat_lt (c + 1) z.width)

  glyph_agreed : (s : State) (b : ℕ) → list_all agreed (shown_kinds b) ≡ true
      → is_agreed agreed z (record { sync = InSync; names = named; state = s }) (glyph b) ≡ true
  glyph_agreed s b h = rw (append-nil (shown_kinds b ++ []), append-nil (shown_kinds b)) h

  pub glyph_leads : (k r c b a : ℕ) (rest : List Cell) → IsAt z cells k r c → drop k cells ≡ cell b a ∷ rest
      → IsPrinted b → list_all agreed (shown_kinds b) ≡ true
      → Leads z agreed (stand z cells InSync k (at r c) a) (glyph b ∷ []) (place z cells (suc k) r (c + 1) a)
  glyph_leads k r c b a rest h e is_printed shown =
      one_leads z agreed (stand z cells InSync k (at r c) a) (glyph b) (place z cells (suc k) r (c + 1) a)
      (record {
        spelled = of_byte b (Glyph b) is_printed.is_byte is_printed.not_escape
            (sym is_printed.means_itself);
        unmarked = rw (ne_eqb b end_mark is_printed.not_end_mark) refl;
        allowed = record { no_static_fault = λ cause f. f; stays_above = λ same. omega (arith, h.row_stated) };
        feeds_on = tt;
        agreed_there = glyph_agreed (state_at z cells k (at r c) a) b shown;
      })
      (behind_glyph k r c b a rest h e)

  -- ---- the way
  -- before the last column a printed byte leaves players in sync
  pub place_is : (k r c a : ℕ) → c < z.width → place z cells k r c a ≡ stand z cells InSync k (at r c) a
  place_is k r c a lt = rw (lt-ltb c z.width lt) refl

  pub same_stand : (j k r c d a : ℕ) → j ≡ k → c ≡ d
      → stand z cells InSync j (at r c) a ≡ stand z cells InSync k (at r d) a
  same_stand j k r c d a e f = ap₂ (λ (n m : ℕ). stand z cells InSync n (at r m) a) e f

  -- Over n blanks of the row, from where players are in sync.
  abbrev pub LeadsOver : List Spelled → ℕ → ℕ → ℕ → ℕ → ℕ → Type 0
  LeadsOver xs n k r c a =
      Leads z agreed (stand z cells InSync k (at r c) a) xs (stand z cells InSync (k + n) (at r (c + n)) a)

  skip_leads : (n k r c a : ℕ) (rest : List Cell) → IsAt z cells k r c → 0 < n → n ≤ 255 → c + n < z.width
      → drop k cells ≡ replicate n (blank_cell 0x07) ++ rest → LeadsOver (skip n ∷ []) n k r c a
  skip_leads n k r c a rest h some few lt e =
      let further : IsAt z cells (k + n) r (c + n) =
      record { index_is = omega (arith, h.index_is); row_stated = h.row_stated; column = lt } in
      let within = is_within z cells (k + n) r (c + n) further in
      let there = blanks_are_there z cells n k rest e (omega (arith, within)) in
      let stops : min (c + n) (z.width - 1) ≡ c + n = omega arith in
      one_leads z agreed (stand z cells InSync k (at r c) a) (skip n) (stand z cells InSync (k + n) (at r (c + n)) a)
      (record {
        spelled = skip_spelled n some few;
        unmarked = skip_unmarked n few;
        allowed = record { no_static_fault = λ cause f. f; stays_above = tt };
        feeds_on = tt;
        agreed_there = rw (lt-ltb (c + n) z.width lt) refl;
      })
      (ap₂ (λ (v : List Cell) (m : ℕ). record (stand z cells InSync k (at r m) a) {
        state = record (state_at z cells k (at r m) a) { screen = v };
      }) there.same stops)

  -- printed blanks
  blanks_lead : (n k r c : ℕ) (rest : List Cell) → IsAt z cells k r c → c + n < z.width
      → drop k cells ≡ replicate n (blank_cell 0x07) ++ rest
      → LeadsOver (replicate n (glyph blank)) n k r c 0x07
  blanks_lead zero k r c rest h lt e =
      stays z agreed _ _ (same_stand k (k + 0) r c (c + 0) 0x07 (omega arith) (omega arith))
  blanks_lead (suc n) k r c rest h lt e =
      let one : Leads z agreed (stand z cells InSync k (at r c) 0x07) (glyph blank ∷ [])
      (stand z cells InSync (suc k) (at r (c + 1)) 0x07) =
      subst (λ (v : Stand). Leads z agreed (stand z cells InSync k (at r c) 0x07) (glyph blank ∷ []) v)
      (place_is (suc k) r (c + 1) 0x07 (omega arith))
      (glyph_leads k r c blank 0x07 (replicate n (blank_cell 0x07) ++ rest) h e blank_printed refl) in
      let next = next_is k cells (blank_cell 0x07) (replicate n (blank_cell 0x07) ++ rest) e in
      let further : IsAt z cells (suc k) r (c + 1) =
      record { index_is = omega (arith, h.index_is); row_stated = h.row_stated; column = omega arith } in
      let more = blanks_lead n (suc k) r (c + 1) rest further (omega arith) next.left in
      subst (λ (v : Stand). Leads z agreed (stand z cells InSync k (at r c) 0x07) (replicate (suc n) (glyph blank)) v)
      (same_stand (suc k + n) (k + suc n) r (c + 1 + n) (c + suc n) 0x07 (omega arith) (omega arith))
      (both_lead z agreed _ _ _ (glyph blank ∷ []) (replicate n (glyph blank)) one more)

  -- blanks that one sequence skips
  pub few_lead : (n k r c a : ℕ) (rest : List Cell) → IsAt z cells k r c → n ≤ 255 → c + n < z.width
      → drop k cells ≡ replicate n (blank_cell 0x07) ++ rest → LeadsOver (over_few a n) n k r c a
  few_lead n k r c a rest h few lt e = by_test (a == 0x07) (nat_le n 4) (n == 0) refl refl
    where
      by_test : (grey short none : Bool) → (a == 0x07) ≡ grey → (n == 0) ≡ none
          → LeadsOver (if grey && short then replicate n (glyph blank) else if none then [] else skip n ∷ []) n k r c a
      by_test true true none grey_is none_is =
          let grey : a ≡ 0x07 = eqb-true a 0x07 grey_is in
          subst (λ (v : ℕ). LeadsOver (replicate n (glyph blank)) n k r c v) (sym grey)
          (blanks_lead n k r c rest h lt e)
      by_test true false true grey_is none_is =
          let none : n ≡ 0 = eqb-true n 0 none_is in
          stays z agreed _ _ (same_stand k (k + n) r c (c + n) a (omega arith) (omega arith))
      by_test false short true grey_is none_is =
          let none : n ≡ 0 = eqb-true n 0 none_is in
          stays z agreed _ _ (same_stand k (k + n) r c (c + n) a (omega arith) (omega arith))
      by_test true false false grey_is none_is =
          let some : n ≡ 0 → ⊥ = eqb-false n 0 none_is in
          skip_leads n k r c a rest h (omega arith) few lt e
      by_test false short false grey_is none_is =
          let some : n ≡ 0 → ⊥ = eqb-false n 0 none_is in
          skip_leads n k r c a rest h (omega arith) few lt e

  -- whole skips
  pub skips_lead : (q k r c a : ℕ) (rest : List Cell) → IsAt z cells k r c → c + 255 * q < z.width
      → drop k cells ≡ replicate (255 * q) (blank_cell 0x07) ++ rest
      → LeadsOver (replicate q (skip 255)) (255 * q) k r c a
  skips_lead zero k r c a rest h lt e =
      stays z agreed _ _ (same_stand k (k + 255 * 0) r c (c + 255 * 0) a (omega arith) (omega arith))
  skips_lead (suc q) k r c a rest h lt e =
      let sum : 255 * suc q ≡ 255 + 255 * q = omega arith in
      let back : List Cell = replicate (255 * q) (blank_cell 0x07) ++ rest in
      let parts : drop k cells ≡ replicate 255 (blank_cell 0x07) ++ back =
      e ∙ ap (λ (n : ℕ). replicate n (blank_cell 0x07) ++ rest) sum
      ∙ ap (λ (v : List Cell). v ++ rest) (sym (replicate-append-replicate 255 (255 * q) (blank_cell 0x07)))
      ∙ append_assoc (replicate 255 (blank_cell 0x07)) (replicate (255 * q) (blank_cell 0x07)) rest in
      let one = skip_leads 255 k r c a back h (omega arith) (omega arith) (omega arith) parts in
      let further : IsAt z cells (k + 255) r (c + 255) =
      record { index_is = omega (arith, h.index_is); row_stated = h.row_stated; column = omega arith } in
      let within = is_within z cells (k + 255) r (c + 255) further in
      let there = blanks_are_there z cells 255 k back parts (omega (arith, within)) in
      let more = skips_lead q (k + 255) r (c + 255) a rest further (omega arith) there.left in
      subst (λ (v : Stand). Leads z agreed (stand z cells InSync k (at r c) a) (replicate (suc q) (skip 255)) v)
      (same_stand (k + 255 + 255 * q) (k + 255 * suc q) r (c + 255 + 255 * q) (c + 255 * suc q) a (omega arith)
      (omega arith))
      (both_lead z agreed _ _ _ (skip 255 ∷ []) (replicate q (skip 255)) one more)
