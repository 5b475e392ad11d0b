-- The planes of cells side by side are filled.
use Rattle.std.proofs.Common.{◌≡◌, ℕ, ◌*◌, ◌≤◌, true, false, List, get_or, refl, ap, arith, IsTrue}
use Rattle.std.proofs.lemmas.Bool.Decides.{nat_tests}
use Rattle.ans_model.specs.Screen.Step.{filled}
use Rattle.ans_screen.specs.HalfCells.{is_known}
use Rattle.ans_screen.specs.CellPlanes.{cell_of}
use Rattle.ans_screen.specs.RowCells.{Planes, IsMarked, SameShown}
use Rattle.ans_screen.specs.declared.row_planes.RowState.{RowState}
use Rattle.ans_screen.proofs.Places.{keeps_filled, filled_within}

-- four planes say of the cells that are held what two did
pub marked_known : (g n : Planes) (held : RowState) → held.known ≡ true → held.first ≤ held.end
    → held.end ≤ g.width * g.rows → SameShown g n
    → n.glyphs_known ≡ filled g.glyphs_known held.first held.end 0xFF
    → n.bits_known ≡ filled g.bits_known held.first held.end 0xFF → IsMarked held false g n
marked_known g n held all le room shown ks bs =
    let kept_glyphs = keeps_filled g.glyphs_known n.glyphs_known held.first held.end 0xFF ks le
    (omega (arith, g.whole_glyphs_known)) in
    let kept_bits = keeps_filled g.bits_known n.bits_known held.first held.end 0xFF bs le
    (omega (arith, g.whole_bits_known)) in
    record {
      inside = λ i after before.
          rw (
            all,
            ap (λ (xs : List ℕ). get_or xs i 0) shown.glyphs,
            filled_within g.glyphs_known n.glyphs_known held.first held.end 0xFF i ks
                (omega (arith, g.whole_glyphs_known)) after before,
            filled_within g.bits_known n.bits_known held.first held.end 0xFF i bs (omega (arith, g.whole_bits_known))
                after before,
            ap (λ (xs : List ℕ). get_or xs i 0) shown.values,
          ) refl;
      outside = λ i out. record {
        glyph = ap (λ (xs : List ℕ). get_or xs i 0) shown.glyphs;
        glyph_known = kept_glyphs.outside i out;
        bits_known = kept_bits.outside i out;
        value = ap (λ (xs : List ℕ). get_or xs i 0) shown.values;
      };
    }

-- what is known of a cell that is known
pub both_known : (g k b v : ℕ) → IsTrue (is_known (cell_of g k b v)) → (k ≡ 0xFF) × (b ≡ 0xFF)
both_known g k b v h = grind (arith, nat_tests)
